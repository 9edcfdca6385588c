pub mod Calls
pub mod Standing
pub mod Reports
pub mod Points
pub mod Answers
pub mod Told
