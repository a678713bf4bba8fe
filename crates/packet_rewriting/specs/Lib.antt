pub mod Echo
pub mod Fields
pub mod Translation
pub mod UpperChecksum
