mod Texts
mod Fronts
mod Pieces
mod Replied
mod Lined
mod Plain
