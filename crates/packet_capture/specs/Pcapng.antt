pub mod Blocks
pub mod Interfaces
pub mod Packets
pub mod Times
