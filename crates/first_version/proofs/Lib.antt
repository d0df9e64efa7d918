mod AsBefore
mod Determined
mod Ending
mod Worked
