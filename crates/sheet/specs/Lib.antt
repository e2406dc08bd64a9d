pub mod Numbers
pub mod Parts
pub mod Sheet
pub mod Faults
pub mod Check
pub mod Listing
pub mod Promises
pub mod Examples
