mod Changing
mod Refusing
