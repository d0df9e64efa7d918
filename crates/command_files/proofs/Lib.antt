pub mod Failing
mod Reading
