pub mod FirstRows
pub mod Tuning
pub mod Worked
pub mod StandardCoder
pub mod StandardMasks
pub mod StandardMatrix
pub mod StandardChannels
pub mod StandardBursts
