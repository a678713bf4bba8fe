mod GreLayout
mod GreWritten
