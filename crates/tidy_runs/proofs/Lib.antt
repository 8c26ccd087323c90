mod Bits
mod Finding
mod Stacks
mod Steps
mod Contexts
mod Runs
