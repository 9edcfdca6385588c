pub mod Running
pub mod Sums
pub mod Follows
pub mod Shares
