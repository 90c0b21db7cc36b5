-- The replay of a history: where it stands after each event.
use Rattle.std.specs.Prelude.{ℕ, Bool, true, false, List, [], ◌∷◌, Option, Some, None}
use Rattle.tee_types.specs.declared.call.Call.{Call}
use Rattle.tee_types.specs.declared.reply.Reply.{Reply}
use Rattle.tee_types.specs.declared.reply.Reply.TheVariants.{Misuse, Corrupt, NotAvailable, CounterSpent}
use Rattle.tee_types.specs.declared.reply.Cause.{Cause}
use Rattle.tee_types.specs.declared.reply.Cause.TheVariants.{Fault, Frame, CardResult}
use Rattle.tee_types.specs.declared.reply.Device.{Device}
use Rattle.tee_types.specs.declared.reply.Device.TheVariants.{Card, Entropy}
use Rattle.store_model.specs.declared.event.Event.{Event}
use Rattle.store_model.specs.declared.event.Event.TheVariants.{Call as CallEvent, Landed}
use Rattle.store_model.specs.declared.event.Mark.{Mark}
use Rattle.store_model.specs.declared.event.Mark.TheVariants.{Unchanged, Made, Doubtful}
use Rattle.store_model.specs.Object.{ObjectMap}
use Rattle.store_model.specs.Machine.{MachineState, opened_store}
use Rattle.store_model.specs.Calls.{state_after}
use Rattle.store_model.specs.Record.{Record, file_of}
use Rattle.store_model.specs.Files.{FileMap, files_after}
use Rattle.store_model.specs.Doubt.{Doubt, state_landed}

-- Where the replay of a history stands: the state of the machine, the file of each object, the card's write counter, and the commit
-- that is in doubt.
pub record ReplayState : Type 0 where
  pub state : MachineState
  pub files : FileMap
  pub counter : ℕ
  pub doubt : Option Doubt

-- What a phase opens with: its objects, the file of each, the applications of its sessions and the card's write counter.
pub record PhaseOpening : Type 0 where
  pub objects : ObjectMap
  pub files : FileMap
  pub applications : List (List ℕ)
  pub counter : ℕ

-- where a phase begins: a session for each application, without handles and enumerators, and no doubt
abbrev pub opening : PhaseOpening → ReplayState
opening phase = record {
  state = opened_store phase.objects phase.applications;
  files = phase.files;
  counter = phase.counter;
  doubt = None;
}

-- the call was not done: it was a misuse, or it was answered for a device, or for damage
abbrev pub is_undone : Reply → Bool
is_undone (Misuse reason) = true
is_undone Corrupt = true
is_undone (NotAvailable cause) = true
is_undone (CounterSpent counter) = true
is_undone _ = false

-- what is asked of the card before anything else: its answer, and the nonce for it
abbrev pub is_card_or_entropy : Device → Bool
is_card_or_entropy Card = true
is_card_or_entropy Entropy = true
is_card_or_entropy _ = false

-- the cause may be that an open doubt could not be resolved: the card gave no good answer, or no nonce could be drawn for it
abbrev pub is_of_card : Cause → Bool
is_of_card (Fault device count) = is_card_or_entropy device
is_of_card (Frame fault) = true
is_of_card (CardResult result) = true

-- An unchanged call, answered so, leaves an open doubt open. A reply that may stand for the doubt or for the call is read as
-- standing for the doubt.
abbrev pub keeps_doubt : Reply → Bool
keeps_doubt (Misuse reason) = true
keeps_doubt (NotAvailable cause) = is_of_card cause
keeps_doubt _ = false

abbrev pub doubt_after : Reply → Option Doubt → Option Doubt
doubt_after reply doubt = elim (keeps_doubt reply) [ true ↦ doubt | false ↦ None ]

abbrev pub state_unless_undone : MachineState → ℕ → Call → Reply → MachineState
state_unless_undone s session call reply = elim (is_undone reply) [ true ↦ s | false ↦ state_after s session call ]

-- where the replay stands after a call with that reply and mark, on the object in that file
abbrev pub replay_after_call : ReplayState → ℕ → Call → Reply → Mark → Option ℕ → ReplayState
replay_after_call s session call reply Unchanged file =
    record s { state = state_unless_undone s.state session call reply; doubt = doubt_after reply s.doubt }
replay_after_call s session call reply (Made commit) file = record {
  state = state_after s.state session call;
  files = files_after s.files s.state session call file;
  counter = commit;
  doubt = None;
}
replay_after_call s session call reply (Doubtful commit) file =
    record s { doubt = Some (record { commit = commit; session = session; call = call; file = file }) }

-- where the replay stands after the doubt is settled: the commit landed
abbrev pub replay_landed : ReplayState → Option Doubt → ReplayState
replay_landed s None = s
replay_landed s (Some doubt) = record {
  state = state_landed s.state doubt;
  files = files_after s.files s.state doubt.session doubt.call doubt.file;
  counter = doubt.commit;
  doubt = None;
}

-- where the replay stands after an event, on the object in that file
abbrev pub replay_after : ReplayState → Event → Option ℕ → ReplayState
replay_after s (CallEvent session number call reply mark) file = replay_after_call s session call reply mark file
replay_after s (Landed commit) file = replay_landed s s.doubt

-- where the replay of these records stands
abbrev pub replay : {Root : Type 0} → ReplayState → List (Record Root) → ReplayState
replay s [] = s
replay s (r ∷ records) = replay (replay_after s r.event (file_of r)) records
