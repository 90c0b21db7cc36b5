pub mod OneLine
pub mod Spaced
pub mod PrintedWords
pub mod PrintedValues
pub mod ReadAgain
