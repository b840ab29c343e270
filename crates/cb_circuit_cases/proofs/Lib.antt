mod Graphs
mod Heads
