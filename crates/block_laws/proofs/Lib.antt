mod Items
mod Placing
mod Releasing
mod Tables
mod Standing
mod Regions
