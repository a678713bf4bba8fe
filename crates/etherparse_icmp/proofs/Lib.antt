mod Advertisements
mod Checksums
mod Icmpv4Codes
mod Icmpv4Layout
mod Icmpv6Layout
mod Rests
