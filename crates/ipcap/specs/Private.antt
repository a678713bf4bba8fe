-- What private functions state. The clauses of `run` cite none of it, so a reader may skip it.
pub mod Ended
pub mod Progress
