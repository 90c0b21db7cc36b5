-- What the calls of a file do to what is known of it.
use Rattle.std.specs.Prelude.{◌≡◌, ◌⊎◌, ℕ, ◌<◌, ◌≤◌, [], ◌∷◌, ◌++◌, length, true, IsTrue}
use Rattle.disk_model.specs.declared.span.Change.{Change}
use Rattle.disk_model.specs.Arms.{KeepsArms}
use Rattle.disk_model.specs.Faults.{Rose}
use Rattle.disk_model.specs.Images.{in_span}
use Rattle.disk_model.specs.State.{FileState}
use Rattle.disk_model.specs.Controls.{struck}
use Rattle.disk_model.specs.Masks.{AreMasked}

-- what the file reads as can be followed from old to new
abbrev pub Known : FileState → FileState → Type 0
Known old new = IsTrue new.honest ⊎ IsTrue old.steady

-- The meanings go on: honesty is only lost, and not by a file that tells its arms and has no mask among them. Steadiness is neither
-- lost nor gained, calm lasts, counts only rise, a calm file counted a fault only where it counted one for want of memory, and one that
-- tells its arms keeps them.
pub record GoesOn (old new : FileState) : Type 0 where
  pub honest : IsTrue new.honest → IsTrue old.honest
  pub stays_honest : IsTrue old.tells_arms → old.arms.taints ≡ [] → IsTrue old.honest → IsTrue new.honest
  pub steady : new.steady ≡ old.steady
  pub calm : IsTrue old.calm → IsTrue new.calm
  pub tells : new.tells ≡ old.tells
  pub tells_arms : new.tells_arms ≡ old.tells_arms
  pub arms : IsTrue old.tells_arms → KeepsArms old.arms new.arms
  pub faults : old.faults ≤ new.faults
  pub starved : old.starved ≤ new.starved
  pub quiet : IsTrue old.calm → (new.faults ≡ old.faults) ⊎ Rose old.starved new.starved
  pub written : old.written ≤ new.written

-- one change, whose places are all of these, stands at the end of the trail
pub record AddsChange (Within : ℕ → Type 0) (old new : FileState) : Type 0 where
  pub change : Change
  pub trail : new.trail ≡ old.trail ++ change ∷ []
  pub base : change.base ≡ old.pending_from
  pub within : (place : ℕ) → in_span change.span place ≡ true → Within place

-- A write or a change of the length, whether it succeeds or fails: at most the places from one up to another, and those
-- past the old end, are no longer settled.
pub record Changes (from upto : ℕ) (old new : FileState) : Type 0 where
  pub trail : (new.trail ≡ old.trail) ⊎ AddsChange (λ place. ((from ≤ place) × (place < upto)) ⊎ (length old.reads ≤ place)) old new
  pub settled : IsTrue new.honest → new.settled ≡ old.settled
  pub pending_from : new.pending_from ≡ old.pending_from
  pub goes_on : GoesOn old new

-- A call that changes nothing: a read, whether it succeeds or fails, or a sync that fails. Several such calls are one. Of a file that
-- tells its arms, masks that are armed may have struck, and nothing else changed what it reads as.
pub record Rests (old new : FileState) : Type 0 where
  pub trail : new.trail ≡ old.trail
  pub settled : IsTrue new.honest → new.settled ≡ old.settled
  pub pending_from : new.pending_from ≡ old.pending_from
  pub reads : Known old new → new.reads ≡ old.reads
  pub masked : IsTrue old.tells_arms → AreMasked old.arms old.reads new.reads
  pub written : new.written ≡ old.written
  pub goes_on : GoesOn old new

-- A sync that succeeds: what an honest file reads as is settled, and nothing is pending. Of one that is not honest it says
-- only that the sync is in the trail, and of its bytes only what masks that it tells made of them.
pub record Syncs (old new : FileState) : Type 0 where
  pub trail : AddsChange (λ place. ⊥) old new
  pub settled : IsTrue new.honest → new.settled ≡ new.reads
  pub pending_from : new.pending_from ≡ length new.trail
  pub reads : Known old new → new.reads ≡ old.reads
  pub struck : IsTrue old.tells_arms → new.reads ≡ (struck old).reads
  pub written : new.written ≡ old.written
  pub goes_on : GoesOn old new
