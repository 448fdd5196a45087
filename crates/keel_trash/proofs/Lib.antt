mod Products
mod Renaming
mod Queued
mod Kept
mod Ticks
