pub mod Simulations
