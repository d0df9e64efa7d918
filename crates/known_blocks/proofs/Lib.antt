mod Before
mod Relations
mod Worked
