-- What a rename and a delete that are made do to their session.
use Rattle.std.proofs.Common.{◌≡◌, ◌<◌, ◌∙◌, ℕ, Bool, true, false, List, [], ◌∷◌, length, Option, None, Some, refl, ap}
use Rattle.std.proofs.lemmas.Grind.{get_or-set_at}
use Rattle.call_steps.specs.JournalCalls.{LeavesSession}
use Rattle.call_steps.specs.CallerSessions.{CallerSession}
use Rattle.call_rules.proofs.DataCalls.{right_done}
use Rattle.call_rules.proofs.Names.{held_by}
use Rattle.call_rules.specs.Objects.{IsRightful}
use Rattle.call_rules.specs.declared.decision.OpenObject.{OpenObject}
use Rattle.call_steps.specs.Index.{named}
use Rattle.dir_records.specs.declared.entry.DirEntry.{DirEntry}
use Rattle.history_seats.specs.Views.{GateView}
use Rattle.call_steps.specs.Commits.{IsCalm}
use Rattle.call_steps.specs.KnownMachine.{KnowsMachine}
use Rattle.call_steps.specs.SessionMoves.{moved_by}
use Rattle.call_steps.specs.declared.SessionMove.TheVariants.{Closes, Replaces}
use Rattle.call_steps.proofs.AnswerMoves.{here-matches}
use Rattle.open_table.specs.Table.{TableState}
use Rattle.call_steps.specs.EntryNames.{IsEntryNamed}
use Rattle.store_model.specs.Calls.{state_after}
use Rattle.store_model.specs.Machine.{MachineState, Outcome, Session, handle_at, name_in, new_session, session_at, unless_refused, with_handle, with_session, without_handle}
use Rattle.store_model.specs.Naming.{delete_of, rename_of}
use Rattle.store_model.specs.Object.{holds, moved_object, without_object}
use Rattle.store_model.specs.declared.session.Handle.{Handle}
use Rattle.core_laws.specs.Stores.{Store, replay_at}
use Rattle.tee_types.specs.Rights.{has, write_meta_bit}
use Rattle.tee_types.specs.declared.call.Call.TheVariants.{Delete, Rename}
use Rattle.tee_types.specs.declared.reply.Code.TheVariants.{AccessConflict}
use Rattle.tee_types.specs.declared.reply.Reply.TheVariants.{Done, Refused}

-- The machine's session behind them, where its handle has the right.
module _ (s : MachineState) (i : ℕ) (caller : Session) (is : session_at s i ≡ caller) (within : i < length s.sessions) (number : ℕ) (h : Handle) (live : handle_at caller number ≡ Some h)
    (right : has h.flags write_meta_bit ≡ true) where
  abbrev deleting : Handle → Outcome
  deleting handle = record {
    reply = Done;
    next = with_session (record s { objects = without_object s.objects handle.name }) i (without_handle (session_at s i) number);
  }

  pub delete-leaves : session_at (state_after s i (Delete number)) i ≡ without_handle caller number
  unfolding delete_of
  delete-leaves =
      ap (λ (o : Outcome). session_at o.next i) (right_done s i caller is number write_meta_bit deleting h live right)
      ∙ get_or-set_at s.sessions i i (without_handle (session_at s i) number) (new_session []) refl within
      ∙ ap (λ (x : Session). without_handle x number) is

  abbrev renamed : List ℕ → Handle → Outcome
  renamed id handle = record {
    reply = Done;
    next = with_session (record s { objects = moved_object s.objects handle.name (name_in s i id) }) i
        (with_handle (session_at s i) number (record handle { name = name_in s i id }));
  }

  abbrev renaming : List ℕ → Handle → Outcome
  renaming id handle = unless_refused ((holds s.objects (name_in s i id), Refused AccessConflict) ∷ []) s (renamed id handle)

  pub rename-leaves : (id : List ℕ) → holds s.objects (name_in s i id) ≡ false
      → session_at (state_after s i (Rename number id)) i ≡ with_handle caller number (record h { name = named caller.application id })
  unfolding rename_of
  rename-leaves id free =
      ap (λ (o : Outcome). session_at o.next i)
      (right_done s i caller is number write_meta_bit (renaming id) h live right
      ∙ ap (λ (b : Bool). unless_refused ((b, Refused AccessConflict) ∷ []) s (renamed id h)) free)
      ∙ get_or-set_at s.sessions i i (with_handle (session_at s i) number (record h { name = name_in s i id })) (new_session []) refl within
      ∙ ap (λ (x : Session). with_handle x number (record h { name = named x.application id })) is

-- So they move the caller's session, which saw the whole history.
module _ {E : Type 0} (store : Store) (knows : GateView) (entries : List (Option DirEntry)) (table : TableState) (machine : KnowsMachine store knows entries table) (caller : CallerSession E)
    (calmly : IsCalm store knows caller) (number : ℕ) (found : OpenObject) (rightful : IsRightful entries caller.state number write_meta_bit found) where
  pub delete-moves : LeavesSession store knows caller.number (Delete number) (moved_by caller.state (Closes number))
  delete-moves scenario answered due =
      let m = here-matches E store knows entries table machine caller calmly.caller calmly.sees scenario answered in
      delete-leaves (replay_at store scenario knows.all).state caller.number caller.state m.session m.within number found.handle rightful.opened.live rightful.has_right

  pub rename-moves : (id : List ℕ) → IsEntryNamed entries (named caller.state.application id) None
      → LeavesSession store knows caller.number (Rename number id) (moved_by caller.state (Replaces number (record found.handle { name = named caller.state.application id })))
  rename-moves id free scenario answered due =
      let m = here-matches E store knows entries table machine caller calmly.caller calmly.sees scenario answered in
      let s = (replay_at store scenario knows.all).state in
      rename-leaves s caller.number caller.state m.session m.within number found.handle rightful.opened.live rightful.has_right id (held_by entries table caller.state s caller.number m id None free)
