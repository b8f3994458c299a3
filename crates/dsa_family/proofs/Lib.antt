mod Texts
mod Sets
mod Counts
mod Makings
