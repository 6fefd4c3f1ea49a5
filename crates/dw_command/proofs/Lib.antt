mod Words
pub mod Endings
pub mod Loans
