pub mod MaskLine
pub mod Masks
pub mod Patterns
pub mod Strips
pub mod Masking
pub mod Packing
pub mod PatternsLemmas
