pub mod Bits
pub mod Passing
pub mod Marks
pub mod Numbers
