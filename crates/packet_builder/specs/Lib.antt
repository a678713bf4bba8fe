pub mod BuiltPacket
pub mod ErrorText
pub mod Steps
pub mod TakenApart
pub mod Writing
