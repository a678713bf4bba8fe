pub mod Any
pub mod Capture
pub mod ErrorText
pub mod FileFormat
pub mod Pcapng
pub mod Skip
