pub mod Spots
pub mod Matched
