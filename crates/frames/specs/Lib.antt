pub mod Rings
pub mod Bells
pub mod Reaches
pub mod Runs
pub mod Values
pub mod Frames
