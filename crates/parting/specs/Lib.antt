pub mod Replies
pub mod Parted
pub mod Runs
pub mod Logged
