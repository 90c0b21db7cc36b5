-- Calls that the rules answer whole.
use Rattle.std.specs.Prelude.{◌≡◌, true, List, Option, Some}
use Rattle.tee_types.specs.declared.call.Call.{Call}
use Rattle.tee_types.specs.declared.reply.Reply.{Reply}
use Rattle.open_table.specs.Table.{TableState}
use Rattle.store_model.specs.Machine.{MachineState, Session}
use Rattle.store_model.specs.ReplayState.{is_undone, keeps_doubt}
use Rattle.dir_records.specs.declared.entry.DirEntry.{DirEntry}
use Rattle.history_seats.specs.Views.{GateView}
use Rattle.commit_gate.specs.declared.own_doubt.OwnDoubt.{OwnDoubt}
use Rattle.commit_gate.specs.CallerSessions.{CallerSession, IsCallerOf}
use Rattle.commit_gate.specs.SessionViews.{SeesAll}
use Rattle.core_laws.specs.Stores.{Store}
use Rattle.call_rules.specs.Matches.{Matches}
use Rattle.call_rules.specs.Told.{IsTold}

-- The session saw the whole history before the rules answered its call, and is as that leaves it: as it was, where nothing was done.
pub record IsRuled {E : Type 0} (store : Store) (knows : GateView) (entries : List (Option DirEntry)) (table : TableState) (call : Call) (reply : Reply) (s : CallerSession E) : Type 0 where
  pub before : Session
  pub was : IsCallerOf store (record s { state = before })
  pub sees : SeesAll knows s.pass
  pub application : s.state.application ≡ before.application
  pub undone : is_undone reply ≡ true → s.state ≡ before
  -- While its own commit is in doubt, the reply leaves that.
  pub keeps : (doubt : OwnDoubt) → s.doubt ≡ Some doubt → keeps_doubt reply ≡ true
  pub told : (m : MachineState) → Matches entries table before m s.number → IsTold m s.number call reply s.state
