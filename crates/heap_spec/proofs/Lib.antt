pub mod Frames
mod Firsts
