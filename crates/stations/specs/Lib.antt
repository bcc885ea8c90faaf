pub mod Stations
pub mod Transmitters
