mod Answered
mod Places
mod Worked
