-- A legal history of a phase, from the objects that it opened with to what it leaves.
use Rattle.std.specs.Prelude.{◌≡◌, ◌⊎◌, ℕ, List, Option, None}
use Rattle.std.specs.Option.{option_map}
use Rattle.store_model.specs.Object.{ObjectMap}
use Rattle.store_model.specs.Sound.{IsObjectMap}
use Rattle.store_model.specs.Record.{Record, events_of}
use Rattle.store_model.specs.History.{AreNumbered}
use Rattle.store_model.specs.ReplayState.{PhaseOpening, ReplayState, opening, replay}
use Rattle.store_model.specs.Legal.{IsLegalFrom}
use Rattle.store_model.specs.Damage.{IsAlteredBack}

-- where the replay begins, with these objects in place of those that the phase opened with
abbrev pub opening_with : PhaseOpening → ObjectMap → ReplayState
opening_with phase begins = opening (record phase { objects = begins })

-- the number of the commit that is in doubt
abbrev pub doubt_of : ReplayState → Option ℕ
doubt_of s = option_map (λ d. d.commit) s.doubt

-- A legal history of a phase. The files of the list `tampered` are not honest, and `doubt` is the commit that is in doubt at the end.
pub record IsLegal {Root : Type 0} (phase : PhaseOpening) (tampered : List ℕ) (records : List (Record Root)) (doubt : Option ℕ) : Type 0 where
  pub opens : IsObjectMap phase.objects
  -- the objects with which the replay begins
  pub begins : ObjectMap
  pub begins_sound : IsObjectMap begins
  pub altered : IsAlteredBack phase.files tampered records phase.objects begins
  -- each event is legal
  pub events_legal : IsLegalFrom tampered (opening_with phase begins) records
  -- the doubt that is left; at the end it may be dropped too
  pub doubt_left : (doubt ≡ doubt_of (replay (opening_with phase begins) records)) ⊎ (doubt ≡ None)
  -- the entries of each session have the numbers 0, 1, 2 and so on
  pub numbered : AreNumbered (events_of records)

-- where the replay of a legal history stands at its end
abbrev pub end_of : {Root : Type 0} {phase : PhaseOpening} {tampered : List ℕ} {records : List (Record Root)} {doubt : Option ℕ}
    → IsLegal phase tampered records doubt → ReplayState
end_of {phase = phase} {records = records} legal = replay (opening_with phase legal.begins) records
