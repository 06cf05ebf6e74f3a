pub mod Model
pub mod Answers
pub mod Choice
pub mod Asking
pub mod Unmade
pub mod Members
