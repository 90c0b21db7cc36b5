-- What contracts see of a gate behind its lock, and what always holds of it.
use Rattle.std.specs.Prelude.{◌≡◌, ℕ, List, Option, Some, None}
use Rattle.tee_types.specs.declared.call.Call.{Call}
use Rattle.tee_types.specs.declared.call.Call.TheVariants.{Delete}
use Rattle.hmac_keys.specs.KeyTable.{rpmb_key}
use Rattle.open_table.specs.Table.{TableState}
use Rattle.store_model.specs.Doubt.{Doubt}
use Rattle.dir_records.specs.declared.entry.DirEntry.{DirEntry}
use Rattle.history_seats.specs.Views.{GateView}
use Rattle.crash_core.specs.DeviceKeys.{directory_key}
use Rattle.core_laws.specs.TamperScenarios.{TamperScenario}
use Rattle.core_laws.specs.Stores.{Store, replay_at}
use Rattle.core_laws.specs.Answered.{AreAnswered}
use Rattle.crash_core.specs.declared.change.DoubtedChange.{DoubtedChange}
use Rattle.store_commit.specs.Gates.{GateValue}
use Rattle.commit_gate.specs.CurrentFiles.{AreFilesCurrent}
use Rattle.commit_gate.specs.Journals.{IsJournal, JournalValue}
use Rattle.core_laws.specs.Ties.{IsTied}
use Rattle.call_rules.specs.OpenHandles.{AreOpen}
use Rattle.commit_gate.specs.declared.guarded_gate.Closing.{Closing}

-- the gate, the journal, and the handle that the landing of the commit in doubt closes
pub record GuardedGateValue (F R : Type 0) : Type 0 where
  pub gate : GateValue F R
  pub journal : JournalValue
  pub closing : Option Closing

-- the gate's commit in doubt, in the words of the core machine

-- the handle that the landing of a call closes
abbrev pub closing_of : (session : ℕ) → Call → Option Closing
closing_of session (Delete handle) = Some (record { session = session; handle = handle })
closing_of session _ = None

-- The open handles are those of the machine's sessions.
abbrev pub AreHandlesTied : Store → GateView → List (Option DirEntry) → TableState → Type 0
AreHandlesTied store knows entries table =
    (scenario : TamperScenario) → AreAnswered store scenario knows.all → AreOpen entries table (replay_at store scenario knows.all).state.sessions

-- The handle is the one that the landing of the commit in doubt closes.
abbrev pub IsClosingTied : Store → GateView → Option DoubtedChange → Option Closing → Type 0
IsClosingTied store knows None closing = closing ≡ None
IsClosingTied store knows (Some d) closing =
    (scenario : TamperScenario) (doubt : Doubt) → AreAnswered store scenario knows.all → (replay_at store scenario knows.all).doubt ≡ Some doubt → closing ≡ closing_of doubt.session doubt.call

-- What always holds of a gate behind its lock.
pub record GateInvariant {F R : Type 0} (store : Store) (gate : GateValue F R) (knows : GateView) (closing : Option Closing) : Type 0 where
  pub journal : IsJournal store knows
  pub tied : IsTied store knows gate.dir.dir.entries gate.counter gate.doubt
  pub handles : AreHandlesTied store knows gate.dir.dir.entries gate.open_handles
  pub closes : IsClosingTied store knows gate.doubt closing
  pub directory_key : gate.dir.dir.tsk ≡ directory_key store.keys
  pub card_key : gate.host.key ≡ rpmb_key store.keys.huk
  pub current : AreFilesCurrent gate.dir.dir gate.doubt
