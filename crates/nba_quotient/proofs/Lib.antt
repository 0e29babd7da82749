mod Covered
mod Folded
mod Numbers
mod OneClass
mod Simulated
mod Splits
