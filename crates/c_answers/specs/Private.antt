pub mod Stored
pub mod Within
