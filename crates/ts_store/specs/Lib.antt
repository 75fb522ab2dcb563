pub mod store
pub mod write
pub mod retain
pub mod read
pub mod rollup
pub mod image
pub mod rules
