mod Words
pub mod AddressLines
pub mod Digits
pub mod Endings
pub mod HexLines
pub mod Lent
pub mod Members
pub mod OpLines
pub mod Puts
pub mod TextLines
