mod Handing
mod Nothing
mod Refused
mod Steps
