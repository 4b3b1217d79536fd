pub mod Faults
pub mod Draws
pub mod SplitMix
