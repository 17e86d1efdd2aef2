pub mod Packing
pub mod Pushing
pub mod Unpacking
