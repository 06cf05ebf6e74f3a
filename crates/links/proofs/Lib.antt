pub mod Fronts
pub mod Queues
pub mod HeadSets
pub mod PlaceTables
pub mod WireMeanings
pub mod AirMeanings
