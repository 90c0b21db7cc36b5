pub mod FileNumbers
