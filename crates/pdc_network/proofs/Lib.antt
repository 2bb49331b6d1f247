mod Connecting
mod Handing
mod Passing
mod Running
