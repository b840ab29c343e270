pub mod Refusing
pub mod InOrder
pub mod Building
