pub mod Dues
pub mod Laid
