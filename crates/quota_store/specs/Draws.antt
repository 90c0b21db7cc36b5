-- The counts of faults that the reply of a call under quotas carries for its session's entropy.
use Rattle.std.specs.Prelude.{ℕ, Result, Ok, Err}
use Rattle.shared_store.specs.SharedCounts.{CarriesDraws}
use Rattle.shared_store.specs.declared.QuotaOutcome.{QuotaOutcome}
use Rattle.shared_store.specs.declared.QuotaOutcome.TheVariants.{Answered, Refused}

abbrev pub CarriesOutcome : {X : Type 0} → (first last : ℕ) → Result QuotaOutcome X → Type 0
CarriesOutcome first last (Ok (Answered answer)) = CarriesDraws first last answer.reply
CarriesOutcome first last (Ok (Refused place)) = Unit {0}
CarriesOutcome first last (Err none) = Unit {0}
