pub mod Reaches
pub mod Backs
pub mod Steps
pub mod Grows
pub mod OwnMarks
