mod Places
mod Buckets
mod Linking
mod Worked
mod Chains
mod Standing
