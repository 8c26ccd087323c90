pub mod Laws
pub mod HeapGround
pub mod Ground
pub mod Actions
