-- The card that a port tells: over a commit and the settling of one in doubt, and what events tell of it.
use Rattle.std.proofs.Common.{◌≡◌, ◌+◌, ◌≤◌, ◌⊎◌, ℕ, List, [], ◌∷◌, ◌++◌, None, Option, Some, refl, sym, subst, inl, inr, arith}
use Rattle.disk_model.specs.Faults.{next_count}
use Rattle.node_image.specs.declared.node.RootRef.{RootRef}
use Rattle.rpmb_card.specs.Card.{CardState}
use Rattle.rpmb_card.specs.Port.{PortState}
use Rattle.rpmb_host.specs.Honest.{HadCard, HasCard}
use Rattle.crash_core.specs.CardBlock.{IsReference}
use Rattle.commit_gate.specs.CardEnds.{CardGoesOn, IsSealedCard}
use Rattle.commit_gate.specs.Causes.{NoCard}
use Rattle.commit_gate.specs.Gates.{DoubtStands}
use Rattle.commit_gate.specs.Sides.{Sides}
use Rattle.commit_gate.specs.Steps.{Steps}
use Rattle.commit_gate.specs.declared.CommitEnd.{CommitEnd}
use Rattle.commit_gate.specs.declared.CommitEnd.TheVariants.{Doubtful, Dropped, Made, Spent}
use Rattle.commit_gate.specs.declared.EntryChange.{EntryChange}
use Rattle.commit_gate.specs.declared.DoubtedChange.{DoubtedChange}
use Rattle.store_model.specs.declared.event.Event.{Event}
use Rattle.store_model.specs.declared.event.Event.TheVariants.{Call as CallEvent, Landed}
use Rattle.store_model.specs.declared.event.Mark.{Mark}
use Rattle.store_model.specs.declared.event.Mark.TheVariants.{Doubtful as MarkedDoubtful}
use Rattle.tee_types.specs.declared.call.Call.{Call}
use Rattle.tee_types.specs.declared.reply.Cause.TheVariants.{CardResult, Fault, Frame}
use Rattle.tee_types.specs.declared.reply.Device.TheVariants.{Card, Dir, Entropy, File}
use Rattle.tee_types.specs.declared.reply.Reply.{Reply}
use Rattle.tee_types.specs.declared.reply.Reply.TheVariants.{NotAvailable}
use Rattle.call_steps.specs.EventCounts.{landing_events}
use Rattle.call_steps.specs.Cards.{CostsTwo, DoubtsCost, IsNoFrame, TellNoFrame, TellsCard, count_told}
use Rattle.call_steps.specs.DeviceCounts.{Rise, counts_of, told_of}
use Rattle.call_steps.specs.Devices.{AccusesRightly, CostsDoubt, Devices, Grows, PortGoesOn, TellsNoCard}
use Rattle.call_steps.proofs.CountGrowth.{card_goes_on_none, same_card}

-- OVER A COMMIT
sealed_told : (port : PortState) (key : List ℕ) (card : CardState) (root : RootRef) → IsSealedCard port key card root → HadCard port key
sealed_told port key card root s = (s.next, s.has)

-- a commit leaves a card that is told with the key
pub steps_told : (old new : Sides) (change : EntryChange) (end : CommitEnd) → Steps old new change end → (card : CardState) → HasCard old.port old.key card → HadCard new.port new.key
steps_told old new change (Made n) s card has = sealed_told new.port new.key card new.dir.root (s.1 card has)
steps_told old new change (Dropped cause) s card has = (card, s.1 card has)
steps_told old new change (Doubtful n cause) s card has = elim (s.2 card has) [
  | inl same ↦ (card, same)
  | inr next ↦ sealed_told new.port new.key card s.0 next
]
steps_told old new change Spent s card has = (card, subst (λ (g : Sides). HasCard g.port g.key card) (sym s) has)

sealed_goes_on : (port : PortState) (key : List ℕ) (card is : CardState) (root : RootRef) → IsReference root → IsSealedCard port key card root → HasCard port key is → CardGoesOn card is
sealed_goes_on port key card is root form s has =
    subst (CardGoesOn card) (sym (same_card port key s.next is s.has has))
    (inr (record { key = s.same.key; counter = omega (arith, s.same.counter); root = root; form = form; blocks = s.same.blocks }))

-- and which a commit alone wrote
pub steps_card : (old new : Sides) (change : EntryChange) (end : CommitEnd) → Steps old new change end → (was is : CardState) → HasCard old.port old.key was → HasCard new.port new.key is → CardGoesOn was is
steps_card old new change (Made n) s was is had has = sealed_goes_on new.port new.key was is new.dir.root s.0.form (s.1 was had) has
steps_card old new change (Dropped cause) s was is had has = card_goes_on_none was is (same_card new.port new.key was is (s.1 was had) has)
steps_card old new change (Doubtful n cause) s was is had has = elim (s.2 was had) [
  | inl same ↦ card_goes_on_none was is (same_card new.port new.key was is same has)
  | inr next ↦ sealed_goes_on new.port new.key was is s.0 s.1.form next has
]
steps_card old new change Spent s was is had has =
    card_goes_on_none was is (same_card new.port new.key was is (subst (λ (g : Sides). HasCard g.port g.key was) (sym s) had) has)

-- a card that has the key has the gate's counter, while no commit is in doubt
pub settled_counts : (g : Sides) → DoubtStands g None → (card : CardState) → HasCard g.port g.key card → card.counter ≡ g.counter
settled_counts g stands card has = (stands.named card has).counted

-- and that or the next, while one is
pub doubted_counts : (g : Sides) (d : DoubtedChange) → DoubtStands g (Some d) → (card : CardState) → HasCard g.port g.key card → (card.counter ≡ g.counter) ⊎ (card.counter ≡ g.counter + 1)
doubted_counts g d stands card has = elim (stands.stands.named card has) [
  | inl old ↦ inl old.counted
  | inr next ↦ inr next.counted
]

-- where the card that has the key would have the counter, none is told
pub no_card_told : (port : PortState) (key : List ℕ) (counter : ℕ) → ((card : CardState) → HasCard port key card → card.counter ≡ counter) → NoCard port key counter → TellsNoCard port key
no_card_told port key counter counts none card has = none card has (counts card has)

-- WHAT EVENTS TELL
-- one list of them behind another
TellNoFrame-append : (first then : List Event) → TellNoFrame first → TellNoFrame then → TellNoFrame (first ++ then)
TellNoFrame-append [] then h g = g
TellNoFrame-append (CallEvent session number call reply mark ∷ first) then h g = (h.0, TellNoFrame-append first then h.1 g)
TellNoFrame-append (Landed commit ∷ first) then h g = TellNoFrame-append first then h g

-- a price that was paid since a later count was paid since an earlier one
twice-after : (a b count : ℕ) → Grows a b → next_count (next_count b) ≤ count → next_count (next_count a) ≤ count
twice-after a b count (inl same) paid = omega (arith, same, paid)
twice-after a b count (inr rose) paid = omega (arith, rose, paid)

CostsTwo-after : (a b : ℕ) → Grows a b → (mark : Mark) (reply : Reply) → CostsTwo b mark reply → CostsTwo a mark reply
CostsTwo-after a b grows (MarkedDoubtful commit) (NotAvailable (Fault Card count)) paid = twice-after a b count grows paid
CostsTwo-after a b grows (MarkedDoubtful commit) reply paid = paid
CostsTwo-after a b grows mark reply paid = tt

count_told-grows : (a b : ℕ) → Grows a b → (reply : Reply) → Grows (count_told a reply) (count_told b reply)
count_told-grows a b grows (NotAvailable (Fault Card count)) = inl refl
count_told-grows a b grows reply = grows

DoubtsCost-after : (a b : ℕ) (events : List Event) → Grows a b → DoubtsCost b events → DoubtsCost a events
DoubtsCost-after a b [] grows paid = tt
DoubtsCost-after a b (CallEvent session number call reply mark ∷ events) grows paid =
    (CostsTwo-after a b grows mark reply paid.0, DoubtsCost-after (count_told a reply) (count_told b reply) events (count_told-grows a b grows reply) paid.1)
DoubtsCost-after a b (Landed commit ∷ events) grows paid = DoubtsCost-after a b events grows paid

-- what rises behind a reply rises from the count that it tells
Rise-told : (a b : ℕ) (counts : List ℕ) (reply : Reply) → Rise a b (told_of Card reply ++ counts) → Rise (count_told a reply) b counts
Rise-told a b counts (NotAvailable (Fault Card count)) rise = rise.1
Rise-told a b counts reply rise = rise

DoubtsCost-append : (a b : ℕ) (first then : List Event) → DoubtsCost a first → Rise a b (counts_of Card first) → DoubtsCost b then → DoubtsCost a (first ++ then)
DoubtsCost-append a b [] then paid rise g = DoubtsCost-after a b then rise g
DoubtsCost-append a b (CallEvent session number call reply mark ∷ first) then paid rise g =
    (paid.0, DoubtsCost-append (count_told a reply) b first then paid.1 (Rise-told a b (counts_of Card first) reply rise) g)
DoubtsCost-append a b (Landed commit ∷ first) then paid rise g = DoubtsCost-append a b first then paid rise g

pub TellsCard-none : (key : List ℕ) (port : PortState) → TellsCard key port []
TellsCard-none key port = record { frames = λ had. tt; doubts = λ had. tt }

pub TellsCard-append : (key : List ℕ) (old new : PortState) (first then : List Event) → PortGoesOn key old new → Rise old.faults new.faults (counts_of Card first)
    → TellsCard key old first → TellsCard key new then → TellsCard key old (first ++ then)
TellsCard-append key old new first then goes_on rise h g = record {
  frames = λ had. TellNoFrame-append first then (h.frames had) (g.frames (goes_on.told had.0 had.1));
  doubts = λ had. DoubtsCost-append old.faults new.faults first then (h.doubts had) rise (g.doubts (goes_on.told had.0 had.1));
}

-- One call.
module _ (key : List ℕ) (old new : Devices) where
  no_frame : (reply : Reply) → AccusesRightly key old new reply → HadCard old.card key → IsNoFrame reply
  no_frame (NotAvailable (Frame fault)) accuses had = accuses.0 had.0 had.1
  no_frame (NotAvailable (CardResult result)) accuses had = accuses.0 had.0 had.1
  no_frame (NotAvailable (Fault device count)) accuses had = tt
  no_frame reply accuses had = tt

  costs_two : (mark : Mark) (reply : Reply) → AccusesRightly key old new reply → CostsDoubt key old new mark reply → HadCard old.card key → CostsTwo (old.card).faults mark reply
  costs_two (MarkedDoubtful commit) (NotAvailable (Fault Card count)) accuses costs had =
      subst (λ (n : ℕ). next_count (next_count (old.card).faults) ≤ n) (sym accuses.1) (costs.1 had.0 had.1)
  costs_two (MarkedDoubtful commit) (NotAvailable (Fault Dir count)) accuses costs had = costs.0
  costs_two (MarkedDoubtful commit) (NotAvailable (Fault (File number) count)) accuses costs had = costs.0
  costs_two (MarkedDoubtful commit) (NotAvailable (Fault Entropy count)) accuses costs had = costs.0
  costs_two (MarkedDoubtful commit) (NotAvailable (Frame fault)) accuses costs had = accuses.0 had.0 had.1
  costs_two (MarkedDoubtful commit) (NotAvailable (CardResult result)) accuses costs had = accuses.0 had.0 had.1
  costs_two (MarkedDoubtful commit) reply accuses costs had = costs
  costs_two mark reply accuses costs had = tt

  pub TellsCard-call : (landed : Option ℕ) (session number : ℕ) (call : Call) (reply : Reply) (mark : Mark) → AccusesRightly key old new reply → CostsDoubt key old new mark reply
      → TellsCard key old.card (landing_events landed ++ CallEvent session number call reply mark ∷ [])
  TellsCard-call None session number call reply mark accuses costs =
      record { frames = λ had. (no_frame reply accuses had, tt); doubts = λ had. (costs_two mark reply accuses costs had, tt) }
  TellsCard-call (Some commit) session number call reply mark accuses costs =
      record { frames = λ had. (no_frame reply accuses had, tt); doubts = λ had. (costs_two mark reply accuses costs had, tt) }

pub TellsCard-landing : (key : List ℕ) (port : PortState) (landed : Option ℕ) → TellsCard key port (landing_events landed)
TellsCard-landing key port None = record { frames = λ had. tt; doubts = λ had. tt }
TellsCard-landing key port (Some commit) = record { frames = λ had. tt; doubts = λ had. tt }
