-- The commits of a history, and the map that it leaves.
use Rattle.std.specs.Prelude.{ℕ, true, false, List, [], ◌∷◌, Option, Some, None}
use Rattle.std.specs.Option.{option_map}
use Rattle.tee_types.specs.declared.reply.Reply.{Reply}
use Rattle.store_model.specs.declared.event.Event.{Event}
use Rattle.store_model.specs.declared.event.Event.TheVariants.{Call as CallEvent, Landed}
use Rattle.store_model.specs.declared.event.Mark.TheVariants.{Unchanged, Made, Doubtful}
use Rattle.store_model.specs.Object.{ObjectMap}
use Rattle.store_model.specs.Record.{Record}
use Rattle.store_model.specs.Doubt.{state_landed}
use Rattle.store_model.specs.ReplayState.{PhaseOpening, ReplayState, keeps_doubt}
use Rattle.store_model.specs.LegalHistory.{IsLegal, end_of}

-- the doubtful event that is left in doubt by a call with that reply, which changed nothing
abbrev pub doubted_after : Reply → Option Event → Option Event
doubted_after reply doubted = elim (keeps_doubt reply) [ true ↦ doubted | false ↦ None ]

-- the events whose commits stand, in order, behind the doubtful one that is not settled yet: those that were made, and those in
-- doubt that a landing settled
abbrev pub commits_from : Option Event → List Event → List Event
commits_from doubted [] = []
commits_from doubted (CallEvent session number call reply (Made commit) ∷ events) =
    CallEvent session number call reply (Made commit) ∷ commits_from None events
commits_from doubted (CallEvent session number call reply (Doubtful commit) ∷ events) =
    commits_from (Some (CallEvent session number call reply (Doubtful commit))) events
commits_from doubted (CallEvent session number call reply Unchanged ∷ events) = commits_from (doubted_after reply doubted) events
commits_from None (Landed commit ∷ events) = commits_from None events
commits_from (Some event) (Landed commit ∷ events) = event ∷ commits_from None events

-- the events that changed the map of objects, in order
abbrev pub commits_of : List Event → List Event
commits_of events = commits_from None events

-- the map of objects at the end of a legal history
abbrev pub map_after : {Root : Type 0} {phase : PhaseOpening} {tampered : List ℕ} {records : List (Record Root)} {doubt : Option ℕ}
    → IsLegal phase tampered records doubt → ObjectMap
map_after legal = ((end_of legal).state).objects

-- where the replay stands with the doubt, that map with the doubted call landed; none where there is no doubt
abbrev pub with_doubt : ReplayState → Option ObjectMap
with_doubt s = option_map (λ doubt. (state_landed s.state doubt).objects) s.doubt

-- the same at the end of a legal history
abbrev pub map_with_doubt : {Root : Type 0} {phase : PhaseOpening} {tampered : List ℕ} {records : List (Record Root)} {doubt : Option ℕ}
    → IsLegal phase tampered records doubt → Option ObjectMap
map_with_doubt legal = with_doubt (end_of legal)
