mod Kept
mod Maps
mod Queues
