pub mod ExtensionHeaders
pub mod IpDscpKnown
pub mod IpEcn
pub mod Ipv4Options
pub mod Ipv4OptionsLends
pub mod Private
