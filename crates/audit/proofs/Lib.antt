mod Parts
mod Tables
mod Pages
mod Frees
mod Whole
mod Adds
