pub mod Alphabet
pub mod Scale
pub mod When
pub mod Letters
pub mod Bands
pub mod Whens
pub mod Scaled
