mod Equality
pub mod Frames
pub mod Places
mod Transports
pub mod WholeHeaders
