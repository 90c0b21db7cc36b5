mod Sources
pub mod Joins
pub mod Lengths
pub mod Numerals
pub mod PrintedCalls
pub mod PrintedRounds
pub mod PrintedValues
pub mod PrintedWords
pub mod ReadTexts
pub mod SoakTexts
pub mod Tallies
pub mod CountedCommits
pub mod Written
