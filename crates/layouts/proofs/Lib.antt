mod NumberLaws
mod Links
mod Pairs
mod Facts
mod Drawing
mod Reading
mod Going
mod Blanks
