mod Finding
mod Adding
mod Marking
mod Worked
