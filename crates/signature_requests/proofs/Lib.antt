mod Agreeing
mod SameStep
mod SameReasons
mod OneList
mod Telling
mod Worked
