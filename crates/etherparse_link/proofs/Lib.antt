mod ArpEthIpv4Layout
mod ArpLayout
mod DoubleVlanLayout
mod Ethernet2Layout
mod Headers
mod LinuxSll2Layout
mod LinuxSllLayout
mod SingleVlanLayout
