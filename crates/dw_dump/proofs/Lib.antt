mod Words
pub mod Lent
mod Numbers
mod LineParts
mod RangeLaws
mod KeepLaws
mod LineLaws
mod DumpLaws
mod DumpExists
mod OneDump
