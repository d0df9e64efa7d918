mod Marking
mod Quoting
mod Worked
