pub mod Scope
pub mod Running
pub mod Terms
pub mod Lending
pub mod Laws
pub mod Accepted
