mod Refusing
mod Writing
