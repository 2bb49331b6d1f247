pub mod OwnHost
