-- The names of the machine's objects rise along every replay.
use Rattle.std.proofs.Common.{◌≡◌, ℕ, Bool, true, false, List, [], ◌∷◌, map, Option, Some, None, refl, sym, ap, subst}
use Rattle.std.specs.Map.{keys_of}
use Rattle.std.specs.List.Sorted.{IsStrictlySortedBy}
use Rattle.store_model.specs.declared.event.Event.{Event}
use Rattle.store_model.specs.declared.event.Event.TheVariants.{Call as CallEvent, Landed}
use Rattle.store_model.specs.declared.event.Mark.TheVariants.{Unchanged, Made, Doubtful}
use Rattle.store_model.specs.declared.name.ObjectName.{ObjectName}
use Rattle.store_model.specs.Name.{name_cmp}
use Rattle.store_model.specs.Object.{Object, ObjectMap}
use Rattle.store_model.specs.Machine.{MachineState}
use Rattle.store_model.specs.Calls.{state_after}
use Rattle.store_model.specs.Doubt.{Doubt}
use Rattle.store_model.specs.Record.{file_of}
use Rattle.store_model.specs.ReplayState.{ReplayState, is_undone, replay_after, replay_landed}
use Rattle.store_model.proofs.CloseCommits.{rising-after}
use Rattle.history_seats.specs.Records.{HistoryRecord}
use Rattle.core_laws.specs.TamperScenarios.{TamperScenario}
use Rattle.core_laws.specs.Stores.{Store, mounted_named, object_for, replay_at, start_under}
use Rattle.core_laws.specs.TieLaws.{AreRising, ReplaysRise}

landed : (s : ReplayState) (o : Option Doubt) → AreRising s.state.objects → AreRising (replay_landed s o).state.objects
landed s None rising = rising
landed s (Some doubt) rising = rising-after s.state doubt.session doubt.call rising

-- after one event
pub risen : (s : ReplayState) (event : Event) (file : Option ℕ) → AreRising s.state.objects → AreRising (replay_after s event file).state.objects
risen s (CallEvent session number call reply Unchanged) file rising = by_test (is_undone reply)
  where
    by_test : (b : Bool) → AreRising (elim b as (λ _. MachineState) [ true ↦ s.state | false ↦ state_after s.state session call ]).objects
    by_test true = rising
    by_test false = rising-after s.state session call rising
risen s (CallEvent session number call reply (Made commit)) file rising = rising-after s.state session call rising
risen s (CallEvent session number call reply (Doubtful commit)) file rising = rising
risen s (Landed commit) file rising = landed s s.doubt rising

pub replays_rise : ReplaysRise
replays_rise s [] rising = rising
replays_rise s (r ∷ records) rising = replays_rise (replay_after s r.event (file_of r)) records (risen s r.event (file_of r) rising)

-- values that change leave the names
same-names : (f : ObjectName × Object → Object) (objects : ObjectMap) → keys_of (map (λ e. (e.0, f e)) objects) ≡ keys_of objects
same-names f [] = refl
same-names f (e ∷ objects) = ap (λ (names : List ObjectName). e.0 ∷ names) (same-names f objects)

-- in the replay of a phase whose objects rise
pub replay_state-rises : (store : Store) (scenario : TamperScenario) (records : List HistoryRecord) → AreRising store.objects → AreRising (replay_at store scenario records).state.objects
replay_state-rises store scenario records rising =
    replays_rise (start_under store scenario) records
    (subst (IsStrictlySortedBy name_cmp) (sym (same-names (λ e. object_for store.keys scenario (mounted_named e.0 store.mounted) e.1) store.objects)) rising)
