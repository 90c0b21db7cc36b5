pub mod Served
pub mod SharedVersions
pub mod ReadObjects
pub mod DescribedObjects
pub mod OpenedObjects
pub mod SharedCommits
pub mod FinishedCreates
pub mod SharedStages
pub mod StageCounts
pub mod SharedChanges
mod AnsweredSlots
mod RefusedCalls
mod SharedHolds
mod SharedViews
mod SharedObjects
mod SparedGates
mod KeptGates
mod KeptCalls
mod CarriedDraws
mod ForeseenCalls
mod KeptAnswers
mod SpentCalls
pub mod Waiting
pub mod CarriedAttempts
pub mod KeptSlots
pub use Rattle.serial_calls.proofs.Cards
pub use Rattle.serial_calls.proofs.CarriedCounts
pub use Rattle.serial_calls.proofs.CountGrowth
pub use Rattle.serial_calls.proofs.GoingOn
pub use Rattle.serial_calls.proofs.Rises
pub use Rattle.serial_calls.proofs.SameMaps
pub use Rattle.serial_calls.proofs.Tellings
pub use Rattle.serial_calls.proofs.QuotaCallers
