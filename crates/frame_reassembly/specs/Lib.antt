pub mod Carrying
pub mod Counts
pub mod Known
pub mod Step
