mod Places
mod Tables
mod Turns
