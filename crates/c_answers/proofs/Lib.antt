pub mod Batch
mod Places
mod Stored
mod Whole
mod Within
