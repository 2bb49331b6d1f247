pub mod Mine
