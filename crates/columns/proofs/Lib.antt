pub mod Digits
pub mod Places
pub mod Tallies
pub mod Rises
pub mod Laws
