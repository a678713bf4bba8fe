pub mod CoveredAddresses
pub mod Equality
pub mod ExtensionEnds
pub mod FinalDestinations
mod FragmentHeaders
pub mod IpPackets
pub mod IpParts
pub mod IpRefusals
pub mod OriginalSources
mod PseudoHeader
