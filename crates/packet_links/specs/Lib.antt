pub mod Bytes
pub mod FrameRelay
pub mod Framing
pub mod Header
pub mod Ieee80211
pub mod Ppp
