mod Feeding
mod Rests
mod Whole
