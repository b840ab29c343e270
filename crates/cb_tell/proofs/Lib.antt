mod Firsts
mod Bounds
mod Looked
mod Printing
mod Written
mod Turns
