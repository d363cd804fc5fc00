mod Entries
mod Records
