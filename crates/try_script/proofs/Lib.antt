mod Cells
mod Free
mod Places
