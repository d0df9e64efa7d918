pub mod Contents
pub mod NextReasons
pub mod Prepared
