-- The changes of data that the machine answers whatever the object's bytes are: one that is refused, and one to the size that the object has.
use Rattle.std.proofs.Common.{Bool, List, None, Option, Some, [], ap, arith, false, length, max, min, nat_lt, not, refl, sym, ℕ, ◌&&◌, ◌+◌, ◌==◌, ◌∙◌, ◌∷◌, ◌≡◌, ◌≤◌}
use Rattle.std.proofs.lemmas.Bool.{eq-eqb, le-ltb}
use Rattle.std.specs.List.{list_any}
use Rattle.std.specs.Option.{option_map}
use Rattle.call_rules.proofs.DataCalls.{truncate_of_object, write_of_object}
use Rattle.call_rules.proofs.Lookups.{entry_object}
use Rattle.call_rules.specs.Matches.{Matches}
use Rattle.call_rules.specs.Objects.{HasObject, IsRightful}
use Rattle.call_rules.specs.declared.decision.OpenObject.{OpenObject}
use Rattle.serial_calls.proofs.ChangeRefusals.{rows_undone}
use Rattle.serial_calls.specs.Meant.{IsMeantCall}
use Rattle.crash_core.specs.Entries.{name_of}
use Rattle.dir_records.specs.declared.entry.DirEntry.{DirEntry}
use Rattle.call_rules.specs.WellOpened.{IsSoundAt, WellOpened}
use Rattle.open_table.specs.Table.{TableState}
use Rattle.store_model.specs.Calls.{is_commit, outcome_of, size_before, size_by}
use Rattle.store_model.specs.Data.{greatest_position, needs_block, range_resized, range_written, resized_contents, spoils, truncate_from, truncate_refusals, with_contents, with_position, write_from, write_refusals, written_contents}
use Rattle.store_model.specs.Files.{name_by}
use Rattle.store_model.specs.Machine.{MachineState, Outcome, Session, first_refusal, handle_at, of_sound, refuse, session_at}
use Rattle.store_model.specs.Object.{Contents, Object, Sound, size_of}
use Rattle.store_model.specs.declared.name.ObjectName.{ObjectName}
use Rattle.store_model.specs.declared.session.Handle.{Handle}
use Rattle.core_laws.proofs.Mending.{some_same}
use Rattle.tee_types.specs.Limits.{most_data_bytes}
use Rattle.tee_types.specs.Rights.{write_bit}
use Rattle.tee_types.specs.declared.call.Call.TheVariants.{Truncate, Write}
use Rattle.tee_types.specs.declared.reply.Code.TheVariants.{NoSpace, Overflow}
use Rattle.tee_types.specs.declared.reply.Reply.TheVariants.{Done}
use Rattle.tee_types.specs.declared.reply.Reply.{Reply}

-- the outcome, unless it is refused
abbrev pub by_refusal : MachineState → Outcome → Option Reply → Outcome
by_refusal m done refusal = elim refusal as (λ _. Outcome) [ Some reply ↦ refuse m reply | None ↦ done ]

-- no bad block is needed where no place changes
none_spoilt : (size first last : ℕ) → last ≤ first → (bad : List ℕ) → list_any (needs_block size first last) bad ≡ false
none_spoilt size first last below [] = refl
none_spoilt size first last below (k ∷ bad) = rw (le-ltb first last below) (none_spoilt size first last below bad)

-- By a live handle with the right to write, where the objects of all open handles are sound.
module _ (entries : List (Option DirEntry)) (table : TableState) (caller : Session) (m : MachineState) (i number : ℕ) (found : OpenObject) (matches : Matches entries table caller m i) (opened : WellOpened m)
    (rightful : IsRightful entries caller number write_bit found) where
  abbrev h : Handle
  h = found.handle

  abbrev e : DirEntry
  e = found.held.entry

  live : handle_at (session_at m i) number ≡ Some h
  live = ap (λ (s : Session). handle_at s number) matches.session ∙ rightful.opened.live

  pub sound : IsSoundAt m.objects h.name
  sound = opened.sound i number h live

  abbrev pub c : Contents
  c = sound.contents

  there : HasObject m.objects h.name e.size
  there = entry_object entries m.objects matches.shaped h.name found.held rightful.opened.named

  long : length c.bytes ≡ e.size
  long = ap size_of (some_same (Sound c) there.object (sym sound.is ∙ there.at)) ∙ there.sized

  named : name_by m i number ≡ Some (name_of e)
  named = ap (option_map (λ (x : Handle). x.name)) live ∙ ap (λ (n : ObjectName). Some n) (sym rightful.opened.named.1)

  module _ (bytes : List ℕ) (some : (length bytes == 0) ≡ false) where
    abbrev pub wrote : Outcome
    wrote = record { reply = Done; next = with_position (with_contents m h (written_contents c h.position bytes)) i number h (h.position + length bytes) }

    pub write_outcome : outcome_of m i (Write number bytes) ≡ by_refusal m wrote (first_refusal (write_refusals c h.position (length bytes)))
    write_outcome =
        (write_of_object m i caller matches.session number h rightful.opened.live rightful.has_right bytes some e.size there).outcome
        ∙ ap (λ (o : Option Object). of_sound m o (write_from m i number bytes h)) sound.is

    pub write_refused : (reply : Reply) → first_refusal (write_refusals c h.position (length bytes)) ≡ Some reply → outcome_of m i (Write number bytes) ≡ refuse m reply
    write_refused reply is = write_outcome ∙ ap (by_refusal m wrote) is

    pub write_quiet : (reply : Reply) → first_refusal (write_refusals c h.position (length bytes)) ≡ Some reply → is_commit m i (Write number bytes) reply ≡ false
    write_quiet reply is =
        ap (λ (b : Bool). b && nat_lt 0 (length bytes))
        (rows_undone (nat_lt greatest_position (h.position + length bytes)) (nat_lt most_data_bytes (h.position + length bytes)) (spoils c (range_written c h.position (length bytes))) Overflow NoSpace reply is)

    pub meant_write : (reply : Reply) → ((x : Contents) → first_refusal (write_refusals x h.position (length bytes)) ≡ Some reply) → IsMeantCall m i e (Write number bytes) reply
    meant_write reply is = record {
      named = named;
      replied = ap (λ (o : Outcome). o.reply) (write_refused reply (is c));
      quiet = write_quiet reply (is c);
      stays = ap (λ (o : Outcome). session_at o.next i) (write_refused reply (is c));
    }

  module _ (size : ℕ) where
    abbrev pub cut : Outcome
    cut = record { reply = Done; next = with_contents m h (resized_contents c size) }

    pub truncate_outcome : outcome_of m i (Truncate number size) ≡ by_refusal m cut (first_refusal (truncate_refusals c size))
    truncate_outcome =
        (truncate_of_object m i caller matches.session number h rightful.opened.live rightful.has_right e.size size there).outcome
        ∙ ap (λ (o : Option Object). of_sound m o (truncate_from m size h)) sound.is

    truncate_refused : (reply : Reply) → first_refusal (truncate_refusals c size) ≡ Some reply → outcome_of m i (Truncate number size) ≡ refuse m reply
    truncate_refused reply is = truncate_outcome ∙ ap (by_refusal m cut) is

    pub meant_truncate : (reply : Reply) → ((x : Contents) → first_refusal (truncate_refusals x size) ≡ Some reply) → IsMeantCall m i e (Truncate number size) reply
    meant_truncate reply is = record {
      named = named;
      replied = ap (λ (o : Outcome). o.reply) (truncate_refused reply (is c));
      quiet =
          ap (λ (b : Bool). b && not (size == size_before m i (Truncate number size)))
          (rows_undone false (nat_lt most_data_bytes size) (spoils c (range_resized c size)) NoSpace NoSpace reply (is c));
      stays = ap (λ (o : Outcome). session_at o.next i) (truncate_refused reply (is c));
    }

    -- to the size that the object has
    module _ (same : size ≡ e.size) (fits : size ≤ 1044480) where
      kept : size ≡ length c.bytes
      kept = same ∙ sym long

      spares : spoils c (range_resized c size) ≡ false
      spares = none_spoilt (length c.bytes) (min size (length c.bytes)) (max size (length c.bytes)) (let is = kept in omega (arith, is)) c.bad

      unrefused : first_refusal (truncate_refusals c size) ≡ None
      unrefused = rw (le-ltb most_data_bytes size fits, spares) refl

      done : outcome_of m i (Truncate number size) ≡ cut
      done = truncate_outcome ∙ ap (by_refusal m cut) unrefused

      before : size_before m i (Truncate number size) ≡ size
      before =
          ap (size_by m.objects) live
          ∙ ap (λ (o : Option Object). elim o as (λ _. ℕ) [ Some object ↦ size_of object | None ↦ 0 ]) there.at
          ∙ there.sized
          ∙ sym same

      pub meant_same : IsMeantCall m i e (Truncate number size) Done
      meant_same = record {
        named = named;
        replied = ap (λ (o : Outcome). o.reply) done;
        quiet = ap (λ (n : ℕ). not (size == n)) before ∙ ap not (eq-eqb size size refl);
        stays = ap (λ (o : Outcome). session_at o.next i) done;
      }
