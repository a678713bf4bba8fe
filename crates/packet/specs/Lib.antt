pub mod Error
pub mod Link
pub mod Network
pub mod SlicedPacket
pub mod Transport
pub mod Vlan
