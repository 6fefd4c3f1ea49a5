mod Words
pub mod LebLemmas
pub mod Lent
