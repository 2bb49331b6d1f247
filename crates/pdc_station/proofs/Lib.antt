mod Calls
mod Made
mod Names
mod Published
