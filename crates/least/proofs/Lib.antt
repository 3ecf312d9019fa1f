mod Tried
mod Searched
