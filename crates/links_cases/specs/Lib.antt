pub mod Hoards
