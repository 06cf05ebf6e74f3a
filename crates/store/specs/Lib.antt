pub mod Parts
pub mod Look
pub mod Puts
pub mod Holders
pub mod Missing
