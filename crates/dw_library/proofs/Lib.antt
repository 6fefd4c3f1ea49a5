mod Words
mod Overlays
mod JoinedBlocks
mod Written
mod FramesAt
mod Changed
mod Evaluated
