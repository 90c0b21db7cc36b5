pub mod Laying
pub mod Content
