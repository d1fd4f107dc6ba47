mod Combined
mod Counting
mod Rows
mod Writing
