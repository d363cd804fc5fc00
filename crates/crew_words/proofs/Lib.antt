mod Reading
mod Names
