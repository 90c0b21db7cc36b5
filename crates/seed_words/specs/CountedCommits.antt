-- How the commits of a history are counted, event by event.
use Rattle.std.specs.Prelude.{◌+◌, true, false, ◌&&◌, List, [], ◌∷◌, length, Option, Some, None}
use Rattle.std.specs.Option.{is_some}
use Rattle.store_model.specs.declared.event.Event.{Event}
use Rattle.store_model.specs.declared.event.Event.TheVariants.{Call as CallEvent, Landed}
use Rattle.store_model.specs.declared.event.Mark.TheVariants.{Unchanged, Made, Doubtful}
use Rattle.store_model.specs.Commits.{commits_of, doubted_after}
use Rattle.store_model.specs.ReplayState.{keeps_doubt}
use Rattle.seed_words.specs.declared.soak_commits.Commits.{Commits}
use Rattle.seed_words.specs.Tallies.{one_if}

-- the doubtful event that is not settled yet behind these events, where that one was not before
abbrev pub doubted_behind : Option Event → List Event → Option Event
doubted_behind doubted [] = doubted
doubted_behind doubted (CallEvent session number call reply (Made commit) ∷ events) = doubted_behind None events
doubted_behind doubted (CallEvent session number call reply (Doubtful commit) ∷ events) =
    doubted_behind (Some (CallEvent session number call reply (Doubtful commit))) events
doubted_behind doubted (CallEvent session number call reply Unchanged ∷ events) = doubted_behind (doubted_after reply doubted) events
doubted_behind doubted (Landed commit ∷ events) = doubted_behind None events

-- how many commits a history has, and whether one is in doubt at its end
abbrev pub count_of : List Event → Commits
count_of events = record { count = length (commits_of events); doubted = is_some (doubted_behind None events) }

-- the same with one event more
abbrev pub with_event : Commits → Event → Commits
with_event c (CallEvent session number call reply (Made commit)) = record { count = c.count + 1; doubted = false }
with_event c (CallEvent session number call reply (Doubtful commit)) = record { count = c.count; doubted = true }
with_event c (CallEvent session number call reply Unchanged) = record { count = c.count; doubted = c.doubted && keeps_doubt reply }
with_event c (Landed commit) = record { count = c.count + one_if c.doubted; doubted = false }
