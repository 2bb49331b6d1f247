pub mod Alike
mod Refusing
