-- What entries and open handles forecast is what the machine would find and leave.
use Rattle.std.proofs.Common.{◌≡◌, ◌∙◌, ℕ, List, Option, ap, sym, subst}
use Rattle.tee_types.specs.declared.call.Call.{Call}
use Rattle.app_totals.specs.declared.numbers.Totals.{Totals}
use Rattle.app_totals.specs.declared.numbers.Forecast.{Forecast}
use Rattle.app_totals.specs.EntryTotals.{entry_totals}
use Rattle.app_totals.specs.Meant.{IsForecastOf, grown, held_by}
use Rattle.app_totals.specs.OwnHandles.{HasOwnHandles}
use Rattle.app_totals.proofs.OwnHandles.{any_session_has}
use Rattle.app_totals.proofs.ReplayedHandles.{new_own, replays_keep_own_handles}
use Rattle.store_model.specs.Machine.{MachineState, Session, session_at}
use Rattle.dir_records.specs.declared.entry.DirEntry.{DirEntry}
use Rattle.open_table.specs.Table.{TableState}
use Rattle.history_seats.specs.Views.{GateView}
use Rattle.core_laws.specs.EntryLists.{AreDistinct}
use Rattle.core_laws.specs.Stores.{Store, replay_at, start_under}
use Rattle.call_rules.specs.Matches.{Matches}
use Rattle.call_rules.proofs.WeighedShapes.{totals_entries}
use Rattle.commit_gate.specs.CallerSessions.{CallerSession, IsCallerOf}
use Rattle.commit_gate.specs.Forecasts.{IsForecastAt}
use Rattle.commit_gate.specs.KnownMachine.{IsMachineOf, IsSessionAt, KnowsMachine}
use Rattle.commit_gate.specs.SessionViews.{SeesAll}
use Rattle.commit_gate.proofs.Knowing.{shown_stand}

module _ (entries : List (Option DirEntry)) (table : TableState) (distinct : AreDistinct entries) where
  -- of a machine that they stand for
  machine_forecast : {E : Type 0} (s : MachineState) (caller : CallerSession E) (call : Call) (forecast : Forecast) (held : Totals) → IsMachineOf entries table s → IsSessionAt s caller → HasOwnHandles caller.state
      → held ≡ entry_totals caller.state.application entries → forecast.objects ≡ held.objects → forecast.bytes ≡ held.bytes
      → ((t : MachineState) (i : ℕ) → Matches entries table caller.state t i → HasOwnHandles caller.state → forecast.grown ≡ grown t i call)
      → IsForecastOf s caller.number call forecast
  machine_forecast s caller call forecast held machine stands own held_is objects bytes grows =
      let told : held ≡ held_by s caller.number =
      held_is
      ∙ ap (λ (x : Session). entry_totals x.application entries) (sym stands.is)
      ∙ sym (totals_entries entries s.objects (session_at s caller.number).application distinct machine.shaped) in
      record {
        objects = objects ∙ ap (λ (t : Totals). t.objects) told;
        bytes = bytes ∙ ap (λ (t : Totals). t.bytes) told;
        grown = grows s caller.number (record { shaped = machine.shaped; handles = machine.handles; within = stands.within; session = stands.is }) own;
      }

  pub gate_forecast : {E : Type 0} (store : Store) (knows : GateView) (caller : CallerSession E) (call : Call) (forecast : Forecast) (held : Totals) → KnowsMachine store knows entries table
      → IsCallerOf store caller → SeesAll knows caller.pass → held ≡ entry_totals caller.state.application entries → forecast.objects ≡ held.objects → forecast.bytes ≡ held.bytes
      → ((t : MachineState) (i : ℕ) → Matches entries table caller.state t i → HasOwnHandles caller.state → forecast.grown ≡ grown t i call)
      → IsForecastAt store knows.all caller.number call forecast
  gate_forecast {E} store knows caller call forecast held machine is_caller sees held_is objects bytes grows scenario answered =
      let s : MachineState = (replay_at store scenario knows.all).state in
      let stands = shown_stand E store knows caller is_caller sees scenario answered in
      let own : HasOwnHandles (session_at s caller.number) =
      any_session_has HasOwnHandles s.sessions caller.number tt
      (replays_keep_own_handles (start_under store scenario) knows.all (new_own store.mounted.applications)).handles in
      machine_forecast s caller call forecast held (machine scenario answered) stands (subst HasOwnHandles stands.is own) held_is objects bytes grows
