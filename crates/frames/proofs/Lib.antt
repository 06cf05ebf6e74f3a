pub mod Tables
pub mod Fronts
pub mod Levels
pub mod Naming
pub mod Steps
pub mod Laws
pub mod Accepted
