mod Applying
mod Found
mod Gathered
mod Steps
