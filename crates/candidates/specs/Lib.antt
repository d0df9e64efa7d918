pub mod Written
pub mod Seen
pub mod Rising
pub mod Form
pub mod Gathering
pub mod SetsFault
