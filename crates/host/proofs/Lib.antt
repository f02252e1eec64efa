mod Table
mod Sums
