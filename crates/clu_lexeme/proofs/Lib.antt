mod Contents
mod Keys
mod Listing
mod OneWay
