pub mod Reading
pub mod Finite
pub mod Below
pub mod Links
pub mod Heap
pub mod Moments
pub mod Laws
