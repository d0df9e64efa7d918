mod ReadBack
mod Texts
mod Worked
