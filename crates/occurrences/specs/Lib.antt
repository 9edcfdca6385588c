pub mod Occurring
pub mod Spotting
pub mod Marked
