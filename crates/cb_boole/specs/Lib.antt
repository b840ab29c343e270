pub mod Elimination
pub mod View
pub mod Parametric
pub mod Stages
pub mod Form
pub mod Laws
