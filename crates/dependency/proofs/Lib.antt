mod Worked
mod Stepping
mod Reaching
mod Beginning
