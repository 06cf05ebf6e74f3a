pub mod Meaning
pub mod Wire
pub mod Air
pub mod Passing
pub mod Types
