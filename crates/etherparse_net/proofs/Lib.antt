mod ExtensionHeaders
pub mod IpOptions
mod Ipv6Extensions
mod OptionLists
