-- What private functions keep on their way. No public clause cites it: a reader may skip it.
pub mod Front
pub mod Jumps
pub mod Machine
pub mod Quick
