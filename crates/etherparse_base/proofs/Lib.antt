mod DerivedEquality
pub mod FoldedSums
mod LaneSums
mod LayerOrder
mod TextParts
mod ValueTypeOrder
mod VariantOrder
mod WordNumbers
pub mod WordSumLaws
