pub mod Certificate
pub mod Valid
pub mod Substitutes
pub mod Blocs
pub mod Text
pub mod Reading
pub mod Words
pub mod Laws
