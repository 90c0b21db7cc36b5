-- Why a change was not done may be told.
use Rattle.std.proofs.Common.{List, None, Option, Some, ap, false, length, nat_lt, inl, inr, option_map, refl, subst, sym, true, ℕ, ◌+◌, ◌==◌, ◌∙◌, ◌≡◌, ◌≤◌, arith}
use Rattle.std.proofs.lemmas.Bool.{le-ltb}
use Rattle.call_steps.specs.CallerSessions.{CallerSession}
use Rattle.call_rules.specs.Matches.{Matches}
use Rattle.call_rules.specs.Objects.{IsRightful}
use Rattle.call_rules.specs.declared.decision.OpenObject.{OpenObject}
use Rattle.serial_calls.specs.ChangeReplies.{IsFailure}
use Rattle.crash_core.specs.Entries.{name_of}
use Rattle.dir_records.specs.declared.entry.DirEntry.{DirEntry}
use Rattle.history_seats.specs.Records.{Version}
use Rattle.history_seats.specs.Views.{GateView}
use Rattle.call_steps.specs.Commits.{IsCalm}
use Rattle.call_steps.proofs.UndoneAnswers.{kind-admitted, refused-or_failed, undone-kind, undone-moves}
use Rattle.call_steps.specs.EntryAnswers.{IsEntryCall}
use Rattle.call_steps.specs.FileAnswers.{IsFileAnswer}
use Rattle.call_steps.specs.SlotCatchUp.{IsAtEntry}
use Rattle.call_steps.specs.ServableReplies.{MayBeServed, TellsCounter}
use Rattle.call_steps.specs.SlotValues.{SlotValue}
use Rattle.open_table.specs.Table.{TableState}
use Rattle.call_steps.specs.Gates.{GateValue}
use Rattle.store_model.specs.Data.{greatest_position}
use Rattle.store_model.specs.Machine.{MachineState, Session, handle_at, session_at}
use Rattle.store_model.specs.ReplayState.{is_undone}
use Rattle.store_model.specs.declared.name.ObjectName.{ObjectName}
use Rattle.store_model.specs.declared.session.Handle.{Handle}
use Rattle.core_laws.specs.Given.{position_of}
use Rattle.core_laws.specs.Shown.{IsPartial}
use Rattle.core_laws.specs.Stores.{Store}
use Rattle.tee_types.specs.Limits.{most_data_bytes}
use Rattle.tee_types.specs.Rights.{write_bit}
use Rattle.tee_types.specs.declared.call.Call.TheVariants.{Truncate, Write}
use Rattle.tee_types.specs.declared.call.Call.{Call}
use Rattle.tee_types.specs.declared.reply.Reply.{Reply}

-- what was not done of a call that changes no data, and was answered with a file, is a failure
pub undone_failure : (store : Store) (slot : SlotValue) (v : Version) (position : ℕ) (call : Call) (reply : Reply) → (IsPartial call → ⊥) → IsFileAnswer store slot.file slot.number v position call reply → is_undone reply ≡ true
    → IsFailure reply
undone_failure store slot v position call reply whole answers undone =
    elim (refused-or_failed store slot.file slot.number v position call reply whole answers undone) [
      | inl is ↦ subst IsFailure (sym is) tt
      | inr failed ↦ subst IsFailure (sym failed.1) tt
    ]

module _ {F R E : Type 0} (store : Store) (gate : GateValue F R) (knows : GateView) (slot : SlotValue) (s : CallerSession E) (idle : gate.doubt ≡ None) (calmly : IsCalm store knows s) (number : ℕ)
    (found : OpenObject) (rightful : IsRightful gate.dir.dir.entries s.state number write_bit found) (v : Version) (at : IsAtEntry knows slot found.held.entry v) where
  abbrev entries : List (Option DirEntry)
  entries = gate.dir.dir.entries

  abbrev table : TableState
  table = gate.open_handles

  abbrev h : Handle
  h = found.handle

  abbrev e : DirEntry
  e = found.held.entry

  live : (m : MachineState) → Matches entries table s.state m s.number → handle_at (session_at m s.number) number ≡ Some h
  live m matches = ap (λ (x : Session). handle_at x number) matches.session ∙ rightful.opened.live

  named : (m : MachineState) → Matches entries table s.state m s.number → option_map (λ (x : Handle). x.name) (handle_at (session_at m s.number) number) ≡ Some (name_of e)
  named m matches = ap (option_map (λ (x : Handle). x.name)) (live m matches) ∙ ap (λ (n : ObjectName). Some n) (sym rightful.opened.named.1)

  module _ (reply : Reply) (undone : is_undone reply ≡ true) (counter : TellsCounter gate.counter reply) where
    serves : (position : ℕ) (call : Call) → IsFileAnswer store slot.file slot.number v position call reply
        → ((m : MachineState) → Matches entries table s.state m s.number → IsEntryCall m s.number e position call reply) → MayBeServed store gate knows slot call reply s
    serves position call answers on = record {
      idle = idle;
      index = found.held.index;
      entry = e;
      held = rightful.opened.named.0;
      version = v;
      at = at;
      position = position;
      answers = answers;
      counter = counter;
      before = s.state;
      moves = undone-moves store knows entries table call reply s calmly undone;
      on = on;
    }

    -- a write within the limits
    pub write_served : (bytes : List ℕ) → (length bytes == 0) ≡ false → h.position + length bytes ≤ 1044480 → IsFileAnswer store slot.file slot.number v h.position (Write number bytes) reply
        → MayBeServed store gate knows slot (Write number bytes) reply s
    write_served bytes some fits answers =
        let low : nat_lt greatest_position (h.position + length bytes) ≡ false = le-ltb greatest_position (h.position + length bytes) (omega (arith, fits)) in
        serves h.position (Write number bytes) answers
        (λ m matches. record {
          named = named m matches;
          depends = (record { handle = h; live = live m matches }, rightful.has_right, some, low, le-ltb most_data_bytes (h.position + length bytes) fits);
          at = ap position_of (live m matches);
          admitted =
              kind-admitted m s.number e.size (Write number bytes) reply (undone-kind store slot.file slot.number v h.position (Write number bytes) reply answers undone);
        })

    -- another size within the limits
    pub truncate_served : (size : ℕ) → (size == e.size) ≡ false → size ≤ 1044480 → IsFileAnswer store slot.file slot.number v 0 (Truncate number size) reply
        → MayBeServed store gate knows slot (Truncate number size) reply s
    truncate_served size other fits answers =
        serves 0 (Truncate number size) answers
        (λ m matches. record {
          named = named m matches;
          depends = (record { handle = h; live = live m matches }, rightful.has_right, other, le-ltb most_data_bytes size fits);
          at = refl;
          admitted = kind-admitted m s.number e.size (Truncate number size) reply (undone-kind store slot.file slot.number v 0 (Truncate number size) reply answers undone);
        })
