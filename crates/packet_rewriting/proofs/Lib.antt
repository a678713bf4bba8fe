mod ChecksumWords
mod KeptIpv6
mod KeptPorts
mod KeptRight
mod Readdressed
mod RightChecksums
