mod Extending
mod Attempting
mod FirstRows
