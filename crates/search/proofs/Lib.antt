-- The lemmas, each file above those that use it. Assumes nothing.
pub mod Measuring
pub mod Marking
pub mod Picks
pub mod Relaxing
pub mod Turns
pub mod Sets
pub mod Arcs
pub mod Attaining
pub mod Starting
pub mod Rings
pub mod Finding
pub mod Laying
