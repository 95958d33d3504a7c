mod Digits
mod Loading
mod Naming
