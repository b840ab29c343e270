pub mod FewWords
pub mod Standing
pub mod Words
pub mod Calls
pub mod Looks
