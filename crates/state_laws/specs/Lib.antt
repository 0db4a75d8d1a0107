pub mod Fib
