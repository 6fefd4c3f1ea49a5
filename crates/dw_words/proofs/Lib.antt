mod Words
mod Arguments
mod AllRead
mod Rows
mod Subcommands
mod Jobs
mod Asked
mod Plans
