-- What the replies of a phase tell of the card, where the port tells one that has the key.
use Rattle.std.specs.Prelude.{ℕ, ◌≤◌, List, [], ◌∷◌}
use Rattle.disk_model.specs.Faults.{next_count}
use Rattle.rpmb_card.specs.Port.{PortState}
use Rattle.rpmb_host.specs.Honest.{HadCard}
use Rattle.tee_types.specs.declared.reply.Cause.TheVariants.{CardResult, Fault, Frame}
use Rattle.tee_types.specs.declared.reply.Device.TheVariants.{Card}
use Rattle.tee_types.specs.declared.reply.Reply.{Reply}
use Rattle.tee_types.specs.declared.reply.Reply.TheVariants.{NotAvailable}
use Rattle.store_model.specs.declared.event.Event.{Event}
use Rattle.store_model.specs.declared.event.Event.TheVariants.{Call as CallEvent, Landed}
use Rattle.store_model.specs.declared.event.Mark.{Mark}
use Rattle.store_model.specs.declared.event.Mark.TheVariants.{Doubtful}

-- the reply carries no frame and no result of the card
abbrev pub IsNoFrame : Reply → Type 0
IsNoFrame (NotAvailable (Frame fault)) = ⊥
IsNoFrame (NotAvailable (CardResult result)) = ⊥
IsNoFrame reply = Unit {0}

-- nor does any of these events
abbrev pub TellNoFrame : List Event → Type 0
TellNoFrame [] = Unit {0}
TellNoFrame (CallEvent session number call reply mark ∷ events) = IsNoFrame reply × TellNoFrame events
TellNoFrame (Landed commit ∷ events) = TellNoFrame events

-- the count of the card's port as it was told last
abbrev pub count_told : (from : ℕ) → Reply → ℕ
count_told from (NotAvailable (Fault Card count)) = count
count_told from reply = from

-- The reply to a commit in doubt accuses the card's port, whose count it raised by two at least.
abbrev pub CostsTwo : (from : ℕ) → Mark → Reply → Type 0
CostsTwo from (Doubtful commit) (NotAvailable (Fault Card count)) = next_count (next_count from) ≤ count
CostsTwo from (Doubtful commit) reply = ⊥
CostsTwo from mark reply = Unit {0}

-- So does each in these events: below the last value of a count, the number just below the count that it carries is carried by none, and is
-- above the first.
abbrev pub DoubtsCost : (from : ℕ) → List Event → Type 0
DoubtsCost from [] = Unit {0}
DoubtsCost from (CallEvent session number call reply mark ∷ events) = CostsTwo from mark reply × DoubtsCost (count_told from reply) events
DoubtsCost from (Landed commit ∷ events) = DoubtsCost from events

-- What the events tell of the card behind a port that told one with the key before them.
pub record TellsCard (key : List ℕ) (port : PortState) (events : List Event) : Type 0 where
  pub frames : HadCard port key → TellNoFrame events
  pub doubts : HadCard port key → DoubtsCost port.faults events
