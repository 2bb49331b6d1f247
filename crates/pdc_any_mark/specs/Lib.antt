pub mod AnyMark
