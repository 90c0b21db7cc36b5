-- How many exchanges a call makes.
use Rattle.std.specs.Prelude.{◌≡◌, ℕ, zero, suc, ◌+◌, ◌-◌, ◌*◌, ◌^◌, ◌<◌, ◌≤◌, min, List, IsTrue}
use Rattle.rpmb_card.specs.Arms.{Arms, count_call}
use Rattle.rpmb_card.specs.Card.{CardState}
use Rattle.rpmb_card.specs.Port.{PortState}
use Rattle.rpmb_host.specs.Honest.{HasCard}
use Rattle.rpmb_files.specs.declared.link.Asked.{Asked}
use Rattle.rpmb_files.specs.declared.link.Asked.TheVariants.{Untold}
use Rattle.rpmb_files.specs.declared.link.WriteEnd.{WriteEnd}
use Rattle.rpmb_files.specs.declared.link.WriteEnd.TheVariants.{Landed}
use Rattle.rpmb_files.specs.declared.plan.PlanEnd.{PlanEnd}
use Rattle.rpmb_files.specs.declared.plan.PlanEnd.TheVariants.{Landed as AllLanded}

-- the arms of a port after so many exchanges more
abbrev pub arms_after : Arms → (count : ℕ) → Arms
arms_after arms zero = arms
arms_after arms (suc count) = count_call (arms_after arms count)

-- So many exchanges were made, as each port counts them that tells its arms.
pub record HasExchanged (old new : PortState) (count : ℕ) : Type 0 where
  pub tells : new.tells_arms ≡ old.tells_arms
  pub counted : IsTrue old.tells_arms → new.arms ≡ arms_after old.arms count

-- So a count that has room rises by so many.
abbrev pub ExchangesAreCounted : Type 0
ExchangesAreCounted =
    (old new : PortState) (count : ℕ) → HasExchanged old new count → IsTrue old.tells_arms → old.arms.calls + count < 2 ^ 64
    → new.arms.calls ≡ old.arms.calls + count

-- a count of faults rose by so many, or stands at its last value
abbrev pub RoseBy : (count old new : ℕ) → Type 0
RoseBy count old new = min (old + count) (2 ^ 64 - 1) ≤ new

-- So many writes were made, which stand. Each takes two exchanges: the write, and the read of its result, or of the counter where the
-- write was not answered. One whose result did not come, or was refused, takes one more, the read of the counter. Where a card answers
-- that has the key, the port counted a fault for each one more; over a calm port there is none.
pub record HasWritten (Answers : Type 0) (old new : PortState) (writes : ℕ) : Type 0 where
  pub more : ℕ
  pub few : more ≤ writes
  pub exchanges : HasExchanged old new (2 * writes + more)
  pub faults : Answers → RoseBy more old.faults new.faults
  pub calm : Answers → IsTrue old.calm → more ≡ 0

-- a card answers that has the key and the counter
abbrev pub HadCardAt : PortState → (key : List ℕ) → (counter : ℕ) → Type 0
HadCardAt port key counter = (card : CardState) × HasCard port key card × (card.counter ≡ counter)

-- by the end of a counter read, of a write, of all writes of a call
abbrev pub AskCounts : (old new : PortState) → Asked → Type 0
AskCounts old new (Untold cause) = Unit {0}
AskCounts old new told = HasExchanged old new 1

abbrev pub EndCounts : (Answers : Type 0) → (old new : PortState) → WriteEnd → Type 0
EndCounts Answers old new Landed = HasWritten Answers old new 1
EndCounts Answers old new end = Unit {0}

abbrev pub PlanCounts : (Answers : Type 0) → (old new : PortState) → (writes : ℕ) → PlanEnd → Type 0
PlanCounts Answers old new writes AllLanded = HasWritten Answers old new writes
PlanCounts Answers old new writes end = Unit {0}
