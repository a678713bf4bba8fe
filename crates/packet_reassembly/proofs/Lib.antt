pub mod Arrivals
pub mod FirstHeaders
pub mod IpFragments
pub mod Kept
pub mod PacketAnswers
pub mod TableLaws
pub mod Walked
