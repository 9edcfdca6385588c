pub mod Prefixes
pub mod Distances
pub mod Linked
pub mod Represented
pub mod Ticking
pub mod Apart
