pub mod Interleaver
pub mod Unpunctured
pub mod Lines
pub mod Scrambler
pub mod LinesLemmas
pub mod Interleaving
pub mod Lawful
