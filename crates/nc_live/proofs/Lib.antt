mod Held
mod Wrote
