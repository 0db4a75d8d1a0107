mod Changing
mod Firsts
mod Found
