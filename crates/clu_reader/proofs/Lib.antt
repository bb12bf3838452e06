mod Few
mod Whole
