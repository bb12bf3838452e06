mod Lists
mod Edits
mod Order
