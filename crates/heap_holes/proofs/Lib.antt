mod Zipper
mod Finding
mod Tables
mod Taking
mod FirstFit
mod Joining
mod Linking
mod Releases
