pub mod Meanings
pub mod Least
pub mod Laying
mod Stairs
mod Walks
pub mod StairSteps
mod Tables
mod TableDistances
mod TableWalks
pub mod TableSteps
mod Bursts
mod WorkedExamples
