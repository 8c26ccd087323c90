pub mod AllFrom
