pub mod ExtensionHeaderChain
pub mod Fronts
pub mod HeaderChecksum
pub mod Ipv4Layout
pub mod Ipv4Reading
pub mod Ipv6Layout
pub mod Ipv6Reading
pub mod Layouts
pub mod Parts
mod Walks
pub use Rattle.etherparse_base.proofs.FoldedSums
pub use Rattle.etherparse_base.proofs.WordSumLaws
