pub mod Runs
pub mod Latest
pub mod Places
