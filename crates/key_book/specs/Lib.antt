pub mod Book
pub mod BookText
pub mod Entry
pub mod Hmac
pub mod Pads
