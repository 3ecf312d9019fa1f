mod Tables
mod Ending
mod Stages
pub mod Laws
pub mod Cut
