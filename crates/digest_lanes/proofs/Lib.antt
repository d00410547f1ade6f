pub mod BlockLemmas
pub mod ChMaj
pub mod LaneLemmas
pub mod Reached
pub mod Rotations
