-- An Open of an entry's object.
use Rattle.std.proofs.Common.{◌≡◌, ◌⊎◌, ◌<◌, ◌||◌, ℕ, Bool, true, false, true≢false, not, List, [], ◌∷◌, length, Option, Some, None, inl, inr, refl, sym, ap, ◌∙◌, subst}
use Rattle.std.proofs.lemmas.Bool.{not-false}
use Rattle.std.proofs.lemmas.Grind.{get_or-set_at}
use Rattle.std.specs.List.{list_all}
use Rattle.disk_model.specs.State.{FileState}
use Rattle.tee_types.specs.declared.call.Call.TheVariants.{Open}
use Rattle.tee_types.specs.declared.flags.Flags.{Flags}
use Rattle.tee_types.specs.declared.reply.Cause.{Cause}
use Rattle.tee_types.specs.declared.reply.Code.TheVariants.{AccessConflict, ItemNotFound}
use Rattle.tee_types.specs.declared.reply.Reason.TheVariants.{BadFlags, TooMany}
use Rattle.tee_types.specs.declared.reply.Reply.{Reply}
use Rattle.tee_types.specs.declared.reply.Reply.TheVariants.{Corrupt, Handle as HandleReply, Misuse, NotAvailable, Refused}
use Rattle.tee_types.specs.Rights.{has, is_known, overwrite_bit}
use Rattle.store_model.specs.declared.name.ObjectName.{ObjectName}
use Rattle.store_model.specs.Calls.{is_handle, reply_of, state_after}
use Rattle.store_model.specs.Files.{is_corrupt}
use Rattle.store_model.specs.Handles.{allows_open, open_handle, open_of, open_refusals}
use Rattle.store_model.specs.Machine.{MachineState, Outcome, Session, has_all_handles, name_in, new_session, session_at, unless_refused}
use Rattle.store_model.specs.Object.{Object, holds, is_damaged, object_at}
use Rattle.call_rules.specs.Index.{named}
use Rattle.dir_records.specs.declared.entry.DirEntry.{DirEntry}
use Rattle.open_table.specs.Table.{TableState}
use Rattle.history_seats.specs.Records.{Version}
use Rattle.history_seats.specs.Views.{GateView}
use Rattle.core_laws.specs.Given.{DiffersInBytes}
use Rattle.core_laws.specs.ReadLaws.{IsOpening}
use Rattle.core_laws.specs.Stores.{Store}
use Rattle.call_rules.specs.declared.Held.{Held}
use Rattle.commit_gate.specs.Gates.{GateValue}
use Rattle.call_rules.specs.EntryNames.{IsEntryNamed}
use Rattle.commit_gate.specs.CallerSessions.{CallerSession}
use Rattle.call_rules.specs.Matches.{Matches}
use Rattle.call_rules.specs.Objects.{IsOpened, open_sound}
use Rattle.object_slots.specs.SlotValues.{SlotValue}
use Rattle.object_slots.specs.GuardedFronts.{ShowsAttributes}
use Rattle.commit_gate.specs.declared.session_moves.SessionMove.TheVariants.{Opens}
use Rattle.commit_gate.specs.Commits.{IsCalm}
use Rattle.commit_gate.specs.SessionMoves.{moved_by}
use Rattle.commit_gate.specs.ReplyLaws.{Answers}
use Rattle.call_steps.specs.AnswerCauses.{HasToldCause}
use Rattle.call_steps.specs.EntryAnswers.{AdmitsIfTold, IsEntryCall}
use Rattle.call_steps.specs.FileAnswers.{IsFileAnswer, Tells as FileTells}
use Rattle.call_steps.specs.OpenAnswers.{open_reply}
use Rattle.call_steps.specs.ReadyEntries.{IsReady, IsReadyEntry}
use Rattle.call_steps.specs.ServableReplies.{MayBeServed, MovesAlike}
use Rattle.call_steps.proofs.UndoneAnswers.{counter-untold, refused-or_failed, undone-admitted, undone-moves}

-- The file of a loaded object gave what an Open has to know.
open-answer : (store : Store) (slot : SlotValue) (v : Version) (attributes : List ℕ) → ShowsAttributes store.keys slot.file v attributes → (id : List ℕ) (flags : Flags) (number : ℕ)
    → IsFileAnswer store slot.file slot.number v 0 (Open id flags) (HandleReply number)
open-answer store slot v attributes shows id flags number =
    let told = shows.opening 0 number id flags in
    FileTells (record { gave = told.0.gave; masked = told.0.masked; tells = told.1 }) (λ honest. subst (λ (x : Object). Answers x 0 (Open id flags) (HandleReply number)) (sym (shows.sound honest).1) tt)

-- the reply tells of the object
abbrev tells_object : Reply → Bool
tells_object reply = is_handle reply || is_corrupt reply

-- Where the machine opens the object if that is sound, nothing else refuses the Open.
module _ (m : MachineState) (i : ℕ) (id : List ℕ) (flags : Flags) (size : ℕ) (opens : IsOpened m i id flags size) where
  abbrev name : ObjectName
  name = name_in m i id

  abbrev damaged : Bool
  damaged = is_damaged (object_at m.objects name)

  abbrev done : Outcome
  done = open_handle m i name flags

  unrefused : (unknown full missing denied row : Bool)
      → tells_object (unless_refused ((unknown, Misuse BadFlags) ∷ (full, Misuse TooMany) ∷ (missing, Refused ItemNotFound) ∷ (denied, Refused AccessConflict) ∷ (row, Corrupt) ∷ []) m done).reply ≡ true
      → (unknown ≡ false) × (full ≡ false) × (denied ≡ false)
  unrefused true full missing denied row tells = absurd (true≢false (sym tells))
  unrefused false true missing denied row tells = absurd (true≢false (sym tells))
  unrefused false false true denied row tells = absurd (true≢false (sym tells))
  unrefused false false false true row tells = absurd (true≢false (sym tells))
  unrefused false false false false row tells = (refl, refl, refl)

  sound-tells : (row : Bool) → tells_object (unless_refused ((row, Corrupt) ∷ []) m done).reply ≡ true
  sound-tells true = refl
  sound-tells false = refl

  open-tells : tells_object (unless_refused (open_refusals m i name flags) m done).reply ≡ true
  unfolding open_of
  open-tells = ap (λ (o : Outcome). tells_object o.reply) opens.outcome ∙ sound-tells damaged

  pub opening : (number : ℕ) → number ≡ (session_at m i).next_handle → IsOpening m i name flags number
  opening number is =
      let allowed : Bool = list_all (allows_open name flags) m.sessions in
      let passed = unrefused (not (is_known flags) || has flags overwrite_bit) (has_all_handles (session_at m i)) (not (holds m.objects name)) (not allowed) damaged open-tells in
      record { known = passed.0; few = passed.1; allowed = not-false allowed passed.2; is_next = is }

  -- An outcome that gives a handle leaves it open.
  abbrev LeavesOpen : Outcome → Type 0
  LeavesOpen o = (number : ℕ) → HandleReply number ≡ o.reply → o.next ≡ done.next

  by_damage : (row : Bool) → LeavesOpen (unless_refused ((row, Corrupt) ∷ []) m done)
  by_damage true number is = absurd (true≢false (ap is_handle is))
  by_damage false number is = refl

  open-after : (number : ℕ) → HandleReply number ≡ reply_of m i (Open id flags) → state_after m i (Open id flags) ≡ done.next
  open-after number is =
      let all : LeavesOpen (open_sound m i name flags) = by_damage damaged in
      ap (λ (o : Outcome). o.next) opens.outcome ∙ all number (is ∙ ap (λ (o : Outcome). o.reply) opens.outcome)

  pub opened-session : i < length m.sessions → (number : ℕ) → HandleReply number ≡ reply_of m i (Open id flags)
      → session_at (state_after m i (Open id flags)) i ≡ moved_by (session_at m i) (Opens name flags)
  opened-session within number is =
      ap (λ (x : MachineState). session_at x i) (open-after number is)
      ∙ get_or-set_at m.sessions i i (moved_by (session_at m i) (Opens name flags)) (new_session []) refl within

-- a handle is no byte of an object
alike-handle : (number : ℕ) (meant : Reply) → (HandleReply number ≡ meant) ⊎ DiffersInBytes (HandleReply number) meant → HandleReply number ≡ meant
alike-handle number meant (inl same) = same
alike-handle number meant (inr differs) = absurd differs

-- the session with a new handle on the object of that identifier
abbrev pub opened_by : Session → (id : List ℕ) → Flags → Session
opened_by s id flags = moved_by s (Opens (named s.application id) flags)

pub moved-open : {E : Type 0} (was mid now : CallerSession E) (app id : List ℕ) (flags : Flags) → now ≡ record mid { state = moved_by mid.state (Opens (named app id) flags) } → app ≡ mid.state.application
    → mid ≡ was → now ≡ record was { state = opened_by was.state id flags }
moved-open {E = E} was mid now app id flags opened own same =
    opened
    ∙ ap (λ (a : List ℕ). record mid { state = moved_by mid.state (Opens (named a id) flags) }) own
    ∙ ap (λ (x : CallerSession E). record x { state = opened_by x.state id flags }) same

-- The rules found the entry of an object, for a session that sees the whole history.
module _ {E : Type 0} (store : Store) (knows : GateView) (entries : List (Option DirEntry)) (table : TableState) (s : CallerSession E) (id : List ℕ) (flags : Flags) (held : Held)
    (calmly : IsCalm store knows s) (is_named : IsEntryNamed entries (named s.state.application id) (Some held))
    (opens : (m : MachineState) → Matches entries table s.state m s.number → IsOpened m s.number id flags held.entry.size) where
  open-moves : (number : ℕ) → MovesAlike store knows entries table (Open id flags) (HandleReply number) s.state (record s { state = opened_by s.state id flags })
  open-moves number = record {
    was = calmly.caller;
    sees = calmly.sees;
    settled = calmly.settled;
    application = refl;
    undone = λ undone. absurd (true≢false (sym undone));
    done = λ done m at alike.
        opened-session m s.number id flags held.entry.size (opens m at) at.within number (alike-handle number (reply_of m s.number (Open id flags)) alike)
        ∙ ap (λ (x : Session). opened_by x id flags) at.session;
  }

  open-call : (m : MachineState) (reply : Reply) → Matches entries table s.state m s.number → AdmitsIfTold m s.number held.entry.size (Open id flags) reply
      → IsEntryCall m s.number held.entry 0 (Open id flags) reply
  open-call m reply at admits = record {
    named = ap (λ (x : Session). Some (named x.application id)) at.session ∙ ap Some (sym is_named.1);
    depends = opening m s.number id flags held.entry.size (opens m at) (session_at m s.number).next_handle refl;
    at = refl;
    admitted = admits;
  }

  handle-admitted : (m : MachineState) → Matches entries table s.state m s.number → AdmitsIfTold m s.number held.entry.size (Open id flags) (HandleReply s.state.next_handle)
  handle-admitted m at = opening m s.number id flags held.entry.size (opens m at) s.state.next_handle (ap (λ (x : Session). x.next_handle) (sym at.session))

-- So the number of the handle may be told, where the entry's object is loaded.
pub open-served : {F R E : Type 0} (store : Store) (gate : GateValue F R) (knows : GateView) (was : FileState) (slot : SlotValue) (s now : CallerSession E) (id : List ℕ) (flags : Flags) (held : Held)
    (number : ℕ) (attributes : List ℕ) → gate.doubt ≡ None → IsCalm store knows s → IsEntryNamed gate.dir.dir.entries (named s.state.application id) (Some held)
    → ((m : MachineState) → Matches gate.dir.dir.entries gate.open_handles s.state m s.number → IsOpened m s.number id flags held.entry.size)
    → (ready : IsReadyEntry store knows was slot held.entry None) → ShowsAttributes store.keys slot.file ready.version attributes → number ≡ s.state.next_handle
    → now ≡ record s { state = opened_by s.state id flags } → MayBeServed store gate knows slot (Open id flags) (HandleReply number) now
open-served {F = F} {R = R} {E = E} store gate knows was slot s now id flags held number attributes idle calmly is_named opens ready shows next moved =
    let entries = gate.dir.dir.entries in
    let table = gate.open_handles in
    subst (λ (x : ℕ × CallerSession E). MayBeServed store gate knows slot (Open id flags) (HandleReply x.0) x.1) (λ i. (sym next i, sym moved i)) (record {
      idle = idle;
      index = held.index;
      entry = held.entry;
      held = is_named.0;
      version = ready.version;
      at = ready.at;
      position = 0;
      answers = open-answer store slot ready.version attributes shows id flags s.state.next_handle;
      counter = tt;
      before = s.state;
      moves = open-moves store knows entries table s id flags held calmly is_named opens s.state.next_handle;
      on = λ m at.
          open-call store knows entries table s id flags held calmly is_named opens m (HandleReply s.state.next_handle) at (handle-admitted store knows entries table s id flags held calmly is_named opens m at);
    })

-- And so may the reply, where it could not be loaded.
pub unopened-served : {F R E : Type 0} (store : Store) (gate : GateValue F R) (knows : GateView) (was : FileState) (slot : SlotValue) (s now : CallerSession E) (id : List ℕ) (flags : Flags) (held : Held)
    (reply : Reply) → gate.doubt ≡ None → IsCalm store knows s → IsEntryNamed gate.dir.dir.entries (named s.state.application id) (Some held)
    → ((m : MachineState) → Matches gate.dir.dir.entries gate.open_handles s.state m s.number → IsOpened m s.number id flags held.entry.size)
    → IsReadyEntry store knows was slot held.entry (Some reply) → now ≡ s → MayBeServed store gate knows slot (Open id flags) reply now
unopened-served store gate knows was slot s now id flags held reply idle calmly is_named opens ready same =
    let entries = gate.dir.dir.entries in
    let table = gate.open_handles in
    let answers : IsFileAnswer store slot.file slot.number ready.version 0 (Open id flags) reply = ready.ready.answers 0 (Open id flags) in
    let kind : (reply ≡ Corrupt) ⊎ ((cause : Cause) × (reply ≡ NotAvailable cause)) =
    refused-or_failed store slot.file slot.number ready.version 0 (Open id flags) reply (λ partial. partial) answers ready.ready.undone in
    subst (MayBeServed store gate knows slot (Open id flags) reply) (sym same) (record {
      idle = idle;
      index = held.index;
      entry = held.entry;
      held = is_named.0;
      version = ready.version;
      at = ready.at;
      position = 0;
      answers = answers;
      counter = counter-untold store slot.file slot.number ready.version 0 (Open id flags) reply (λ partial. partial) answers gate.counter;
      before = s.state;
      moves = undone-moves store knows entries table (Open id flags) reply s calmly ready.ready.undone;
      on = λ m at.
          open-call store knows entries table s id flags held calmly is_named opens m reply at (undone-admitted m s.number held.entry.size (Open id flags) reply kind);
    })

-- Why the reply to an Open accuses the object's file, or does not.
pub opened-cause : (store : Store) (was : FileState) (slot : SlotValue) (v : Version) (unloaded : Option Reply) (s : Session) → IsReady store was slot v unloaded
    → HasToldCause was slot.file slot.number (open_reply unloaded s)
opened-cause store was slot v (Some reply) s ready = ready.cause
opened-cause store was slot v None s ready = ready.1
