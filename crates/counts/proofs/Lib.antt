mod Laying
pub mod Written
