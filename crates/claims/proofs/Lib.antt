pub mod Tables
pub mod Laid
pub mod Sums
