pub mod Bytes
pub mod Channels
pub mod Examples
pub mod Layings
pub mod Tables
pub mod LayingsLemmas
pub mod Standard
