mod Choices
mod Frames
mod Sound
