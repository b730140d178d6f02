pub mod Laws
pub mod ToldRight
