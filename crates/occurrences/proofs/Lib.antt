pub mod Layings
pub mod Prefixed
pub mod InBook
