mod Accepted
mod Cells
mod Branches
mod Takes
mod Begins
mod Methods
mod Looks
mod Calls
mod Resolving
mod Showing
mod Work
mod Fronts
mod Parking
pub mod Laws
