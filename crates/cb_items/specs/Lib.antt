pub mod Standing
pub mod Shifted
pub mod Items
pub mod Laws
pub mod Instances
pub mod Calls
