pub mod Marks
pub mod LatestRuns
pub mod Steps
