-- What the machine's commit of a change leaves of its session.
use Rattle.std.proofs.Common.{List, None, Option, Some, [], ap, false, length, refl, sym, true, true≢false, ℕ, ◌+◌, ◌==◌, ◌∙◌, ◌≡◌}
use Rattle.std.proofs.lemmas.Grind.{get_or-set_at}
use Rattle.call_steps.specs.JournalCalls.{LeavesSession}
use Rattle.call_steps.specs.CallerSessions.{CallerSession}
use Rattle.call_rules.specs.Matches.{Matches}
use Rattle.call_rules.specs.Objects.{IsRightful}
use Rattle.call_rules.specs.declared.decision.OpenObject.{OpenObject}
use Rattle.serial_calls.proofs.MeantChanges.{by_refusal, c, cut, truncate_outcome, write_outcome, write_quiet, write_refused, wrote}
use Rattle.dir_records.specs.declared.entry.DirEntry.{DirEntry}
use Rattle.history_seats.specs.Views.{GateView}
use Rattle.call_steps.specs.Commits.{IsCalm}
use Rattle.call_steps.specs.KnownMachine.{KnowsMachine}
use Rattle.call_rules.specs.WellOpened.{WellOpened}
use Rattle.call_steps.proofs.AnswerMoves.{here-matches}
use Rattle.open_table.specs.Table.{TableState}
use Rattle.store_model.specs.Calls.{is_commit, reply_of, state_after}
use Rattle.store_model.specs.Data.{truncate_refusals, write_refusals}
use Rattle.store_model.specs.Machine.{MachineState, Outcome, Session, first_refusal, new_session, session_at, with_handle}
use Rattle.store_model.specs.declared.session.Handle.{Handle}
use Rattle.core_laws.specs.Stores.{Store, replay_at}
use Rattle.tee_types.specs.Rights.{write_bit}
use Rattle.tee_types.specs.declared.call.Call.TheVariants.{Truncate, Write}
use Rattle.tee_types.specs.declared.reply.Reply.{Reply}

module _ (entries : List (Option DirEntry)) (table : TableState) (caller : Session) (m : MachineState) (i number : ℕ) (found : OpenObject) (matches : Matches entries table caller m i) (opened : WellOpened m)
    (rightful : IsRightful entries caller number write_bit found) where
  abbrev h : Handle
  h = found.handle

  -- a write that is a commit advances the position
  module _ (bytes : List ℕ) (some : (length bytes == 0) ≡ false) where
    abbrev moved : Session → Session
    moved s = with_handle s number (record h { position = h.position + length bytes })

    by_rows : (refusal : Option Reply) → first_refusal (write_refusals (c entries table caller m i number found matches opened rightful) h.position (length bytes)) ≡ refusal
        → is_commit m i (Write number bytes) (reply_of m i (Write number bytes)) ≡ true → session_at (state_after m i (Write number bytes)) i ≡ moved caller
    by_rows (Some reply) is due =
        absurd (true≢false (
        sym due
        ∙ ap (λ (o : Outcome). is_commit m i (Write number bytes) o.reply) (write_refused entries table caller m i number found matches opened rightful bytes some reply is)
        ∙ write_quiet entries table caller m i number found matches opened rightful bytes some reply is
        ))
    by_rows None is due =
        ap (λ (o : Outcome). session_at o.next i)
        (write_outcome entries table caller m i number found matches opened rightful bytes some ∙ ap (by_refusal m (wrote entries table caller m i number found matches opened rightful bytes some)) is)
        ∙ get_or-set_at m.sessions i i (moved (session_at m i)) (new_session []) refl matches.within
        ∙ ap moved matches.session

    pub write_leaves : is_commit m i (Write number bytes) (reply_of m i (Write number bytes)) ≡ true → session_at (state_after m i (Write number bytes)) i ≡ moved caller
    write_leaves = by_rows (first_refusal (write_refusals (c entries table caller m i number found matches opened rightful) h.position (length bytes))) refl

  -- a truncation leaves the session
  module _ (size : ℕ) where
    by_cut : (refusal : Option Reply) → first_refusal (truncate_refusals (c entries table caller m i number found matches opened rightful) size) ≡ refusal
        → session_at (state_after m i (Truncate number size)) i ≡ session_at m i
    by_cut (Some reply) is =
        ap (λ (o : Outcome). session_at o.next i)
        (truncate_outcome entries table caller m i number found matches opened rightful size ∙ ap (by_refusal m (cut entries table caller m i number found matches opened rightful size)) is)
    by_cut None is =
        ap (λ (o : Outcome). session_at o.next i)
        (truncate_outcome entries table caller m i number found matches opened rightful size ∙ ap (by_refusal m (cut entries table caller m i number found matches opened rightful size)) is)

    pub truncate_leaves : session_at (state_after m i (Truncate number size)) i ≡ caller
    truncate_leaves = by_cut (first_refusal (truncate_refusals (c entries table caller m i number found matches opened rightful) size)) refl ∙ matches.session

-- So wherever the history is answered.
module _ {E : Type 0} (store : Store) (knows : GateView) (entries : List (Option DirEntry)) (table : TableState) (machine : KnowsMachine store knows entries table) (s : CallerSession E) (calmly : IsCalm store knows s)
    (number : ℕ) (found : OpenObject) (rightful : IsRightful entries s.state number write_bit found) where
  pub write_moves : (bytes : List ℕ) → (length bytes == 0) ≡ false
      → LeavesSession store knows s.number (Write number bytes) (with_handle s.state number (record found.handle { position = found.handle.position + length bytes }))
  write_moves bytes some scenario answered due =
      write_leaves entries table s.state (replay_at store scenario knows.all).state s.number number found
      (here-matches E store knows entries table machine s calmly.caller calmly.sees scenario answered) (machine scenario answered).opened rightful bytes some due

  pub truncate_moves : (size : ℕ) → LeavesSession store knows s.number (Truncate number size) s.state
  truncate_moves size scenario answered due =
      truncate_leaves entries table s.state (replay_at store scenario knows.all).state s.number number found
      (here-matches E store knows entries table machine s calmly.caller calmly.sees scenario answered) (machine scenario answered).opened rightful size
