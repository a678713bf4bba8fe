pub mod DefragMemory
pub mod Ipv4
pub mod Ipv6
pub mod LendsBuf
pub mod LendsPool
