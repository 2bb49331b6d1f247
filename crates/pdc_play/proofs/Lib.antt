pub mod Appending
pub mod Playing
pub mod ToldScripts
