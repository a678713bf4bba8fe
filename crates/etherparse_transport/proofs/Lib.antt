mod Checksums
pub mod TcpLayout
mod TcpOptionBytes
pub mod TcpReading
pub mod UdpLayout
