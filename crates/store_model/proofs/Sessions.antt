-- No call makes a session or ends one, or changes whose it is.
use Rattle.std.proofs.Common.{◌≡◌, ◌==◌, ℕ, Bool, List, [], ◌∷◌, length, slice_set, slice_index_or, suc, zero, ap, sym, true, false, cond, not, ◌+◌, pos, ◌+ℤ◌, int_lt, Option, Some, None, refl, ◌∙◌, ◌++◌, length-set}
use Rattle.std.specs.List.{list_any}
use Rattle.std.proofs.lemmas.List.{length-map}
use Rattle.tee_types.specs.declared.call.Call.{Call}
use Rattle.tee_types.specs.declared.call.Call.TheVariants.{Create, Open, Close, Read, Write, Truncate, Seek, Rename, Delete, Info, EnumNew, EnumStart, EnumNext, EnumReset, EnumFree}
use Rattle.tee_types.specs.declared.flags.TheConstants.{READ, WRITE, WRITE_META}
use Rattle.tee_types.specs.declared.reply.Reply.{Reply}
use Rattle.tee_types.specs.declared.reply.Reply.TheVariants.{Misuse, Corrupt, Refused}
use Rattle.tee_types.specs.declared.reply.Code.TheVariants.{ItemNotFound, Overflow, AccessConflict}
use Rattle.tee_types.specs.declared.reply.Reason.TheVariants.{NoRight, TooMany}
use Rattle.tee_types.specs.Rights.{has}
use Rattle.enumerators.specs.declared.cursor.Cursor.{Cursor}
use Rattle.enumerators.specs.Enumeration.{cursor_at, has_all, reset}
use Rattle.store_model.specs.declared.session.Handle.{Handle}
use Rattle.store_model.specs.Object.{Object, Contents, Sound, Damaged, object_at, size_at, holds}
use Rattle.store_model.specs.declared.event.Event.{Event}
use Rattle.store_model.specs.declared.event.Event.TheVariants.{Call as CallEvent, Landed}
use Rattle.store_model.specs.declared.event.Mark.{Mark}
use Rattle.store_model.specs.declared.event.Mark.TheVariants.{Unchanged, Made, Doubtful}
use Rattle.store_model.specs.Record.{Record, file_of}
use Rattle.store_model.specs.Doubt.{Doubt, session_landed}
use Rattle.store_model.specs.ReplayState.{ReplayState, is_undone, replay_after_call, replay_landed, replay_after, replay}
use Rattle.store_model.specs.Legal.{IsLegalFrom}
use Rattle.store_model.specs.Laws.{SessionsStay}
use Rattle.store_model.specs.Machine.{MachineState, Outcome, Session, applications, new_session, session_at, name_in, handle_at, unless_refused, first_refusal, refuse, by_handle, by_right, of_sound}
use Rattle.store_model.specs.Handles.{create_of, open_of, close_of, create_refusals, open_refusals}
use Rattle.store_model.specs.Data.{read_of, meets_block, bytes_at, write_of, write_refusals, truncate_of, truncate_refusals, seek_of, seek_base, info_of}
use Rattle.store_model.specs.Naming.{rename_of, delete_of}
use Rattle.store_model.specs.Enumerating.{enum_new_of, enum_start_of, enum_next_of, enum_reset_of, enum_free_of, by_cursor, enum_gives, is_of, with_enumerators}
use Rattle.store_model.specs.Calls.{state_after}

-- the outcome has the sessions of the same applications as the state
abbrev Keeps : MachineState → Outcome → Type 0
Keeps s outcome = applications (outcome.next).sessions ≡ applications s.sessions

same_applications : (sessions : List Session) (i : ℕ) (session : Session) → session.application ≡ (slice_index_or sessions i (new_session [])).application → applications (slice_set sessions i session) ≡ applications sessions
same_applications [] i session h = refl
same_applications (x ∷ sessions) zero session h = ap (λ a. a ∷ applications sessions) h
same_applications (x ∷ sessions) (suc i) session h = ap (λ l. x.application ∷ l) (same_applications sessions i session h)

Keeps-unless_refused : (rows : List (Bool × Reply)) (s t : MachineState) (done : Outcome) → applications t.sessions ≡ applications s.sessions → Keeps s done → Keeps s (unless_refused rows t done)
Keeps-unless_refused rows s t done kept h = elim (first_refusal rows) as (λ first. Keeps s (elim first [ Some reply ↦ refuse t reply | None ↦ done ])) [
  | Some reply ↦ kept
  | None ↦ h
]

Keeps-cond : (b : Bool) (s : MachineState) (one other : Outcome) → Keeps s one → Keeps s other → Keeps s (cond b one other)
Keeps-cond true s one other p q = p
Keeps-cond false s one other p q = q

Keeps-by_handle : (s : MachineState) (handle : Option Handle) (done : Handle → Outcome) → ((handle : Handle) → Keeps s (done handle)) → Keeps s (by_handle s handle done)
Keeps-by_handle s None done h = refl
Keeps-by_handle s (Some handle) done h = h handle

Keeps-by_right : (s : MachineState) (right : ℕ) (handle : Option Handle) (done : Handle → Outcome) → ((handle : Handle) → Keeps s (done handle)) → Keeps s (by_right s right handle done)
Keeps-by_right s right None done h = refl
Keeps-by_right s right (Some handle) done h = Keeps-cond (has handle.flags right) s (done handle) (refuse s (Misuse NoRight)) (h handle) refl

Keeps-of_sound : (s : MachineState) (object : Option Object) (done : Contents → Outcome) → ((contents : Contents) → Keeps s (done contents)) → Keeps s (of_sound s object done)
Keeps-of_sound s None done h = refl
Keeps-of_sound s (Some (Damaged n)) done h = refl
Keeps-of_sound s (Some (Sound contents)) done h = h contents

Keeps-by_cursor : (s : MachineState) (cursor : Option Cursor) (done : Cursor → Outcome) → ((cursor : Cursor) → Keeps s (done cursor)) → Keeps s (by_cursor s cursor done)
Keeps-by_cursor s None done h = refl
Keeps-by_cursor s (Some cursor) done h = h cursor

Keeps-enum_gives : (s : MachineState) (i number : ℕ) (next : Option (List ℕ × ℕ)) → Keeps s (enum_gives s i number next)
Keeps-enum_gives s i number None = refl
Keeps-enum_gives s i number (Some (id, size)) = same_applications s.sessions i _ refl

pub applications-sessions : (s : MachineState) (i : ℕ) (call : Call) → applications (state_after s i call).sessions ≡ applications s.sessions
unfolding create_of open_of close_of read_of write_of truncate_of seek_of info_of rename_of delete_of enum_new_of enum_start_of enum_next_of enum_reset_of enum_free_of
applications-sessions s i (Create id flags attributes bytes) =
    Keeps-unless_refused (create_refusals s i (name_in s i id) flags attributes bytes) s s _ refl (same_applications s.sessions i _ refl)
applications-sessions s i (Open id flags) = Keeps-unless_refused (open_refusals s i (name_in s i id) flags) s s _ refl (same_applications s.sessions i _ refl)
applications-sessions s i (Close number) = Keeps-by_handle s (handle_at (session_at s i) number) _ (λ handle. same_applications s.sessions i _ refl)
applications-sessions s i (Read number size) =
    Keeps-by_right s READ (handle_at (session_at s i) number) _
    (λ handle. Keeps-of_sound s (object_at s.objects handle.name) _ (λ c. Keeps-unless_refused ((list_any (meets_block handle.position (handle.position + length (bytes_at c.bytes handle.position size))) c.bad, Corrupt) ∷ []) s s _ refl (same_applications s.sessions i _ refl)))
applications-sessions s i (Write number bytes) =
    Keeps-by_right s WRITE (handle_at (session_at s i) number) _
    (λ handle. Keeps-cond (length bytes == 0) s _ _ refl
    (Keeps-of_sound s (object_at s.objects handle.name) _ (λ c. Keeps-unless_refused (write_refusals c handle.position (length bytes)) s s _ refl (same_applications s.sessions i _ refl))))
applications-sessions s i (Truncate number size) =
    Keeps-by_right s WRITE (handle_at (session_at s i) number) _
    (λ handle. Keeps-of_sound s (object_at s.objects handle.name) _ (λ c. Keeps-unless_refused (truncate_refusals c size) s s _ refl refl))
applications-sessions s i (Seek number offset whence) =
    Keeps-by_handle s (handle_at (session_at s i) number) _ (λ handle. Keeps-unless_refused ((int_lt (pos 4294967295) (pos (seek_base whence handle.position (size_at s.objects handle.name)) +ℤ offset), Refused Overflow) ∷ []) s s _ refl (same_applications s.sessions i _ refl))
applications-sessions s i (Rename number id) =
    Keeps-by_right s WRITE_META (handle_at (session_at s i) number) _ (λ handle. Keeps-unless_refused ((holds s.objects (name_in s i id), Refused AccessConflict) ∷ []) s s _ refl (same_applications s.sessions i _ refl))
applications-sessions s i (Delete number) = Keeps-by_right s WRITE_META (handle_at (session_at s i) number) _ (λ handle. same_applications s.sessions i _ refl)
applications-sessions s i (Info number) =
    Keeps-by_handle s (handle_at (session_at s i) number) _ (λ handle. Keeps-of_sound s (object_at s.objects handle.name) _ (λ c. refl))
applications-sessions s i EnumNew = Keeps-unless_refused ((has_all (session_at s i).enumerators, Misuse TooMany) ∷ []) s s _ refl (same_applications s.sessions i _ refl)
applications-sessions s i (EnumStart number) =
    Keeps-by_cursor s (cursor_at (session_at s i).enumerators number) _
    (λ cursor. Keeps-unless_refused ((not (list_any (is_of (session_at s i).application) s.objects), Refused ItemNotFound) ∷ []) s (with_enumerators s i (reset (session_at s i).enumerators number)) _ (same_applications s.sessions i _ refl) (same_applications s.sessions i _ refl))
applications-sessions s i (EnumNext number) = Keeps-by_cursor s (cursor_at (session_at s i).enumerators number) _ (λ cursor. Keeps-enum_gives s i number _)
applications-sessions s i (EnumReset number) = Keeps-by_cursor s (cursor_at (session_at s i).enumerators number) _ (λ cursor. same_applications s.sessions i _ refl)
applications-sessions s i (EnumFree number) = Keeps-by_cursor s (cursor_at (session_at s i).enumerators number) _ (λ cursor. same_applications s.sessions i _ refl)

pub length-sessions : (s : MachineState) (i : ℕ) (call : Call) → length (state_after s i call).sessions ≡ length s.sessions
length-sessions s i call =
    sym (length-map (state_after s i call).sessions (λ session. session.application)) ∙ ap length (applications-sessions s i call)
    ∙ length-map s.sessions (λ session. session.application)

-- no event makes a session or ends one
undone-length : (s : MachineState) (j : ℕ) (call : Call) (b : Bool) → length (elim b as (λ _. MachineState) [ true ↦ s | false ↦ state_after s j call ]).sessions ≡ length s.sessions
undone-length s j call true = refl
undone-length s j call false = length-sessions s j call

pub length-after : (s : ReplayState) (event : Event) (file : Option ℕ) → length ((replay_after s event file).state).sessions ≡ length (s.state).sessions
length-after s (CallEvent j number call reply mark) file = marked mark
  where
    marked : (m : Mark) → length ((replay_after_call s j call reply m file).state).sessions ≡ length (s.state).sessions
    marked Unchanged = undone-length s.state j call (is_undone reply)
    marked (Made commit) = length-sessions s.state j call
    marked (Doubtful commit) = refl
length-after s (Landed commit) file = one s.doubt
  where
    one : (o : Option Doubt) → length ((replay_landed s o).state).sessions ≡ length (s.state).sessions
    one None = refl
    one (Some doubt) = length-set (s.state).sessions doubt.session (session_landed s.state doubt.session doubt.call)

pub length-replay : {Root : Type 0} (s : ReplayState) (records : List (Record Root)) → length ((replay s records).state).sessions ≡ length (s.state).sessions
length-replay s [] = refl
length-replay s (r ∷ records) = length-replay (replay_after s r.event (file_of r)) records ∙ length-after s r.event (file_of r)

-- the replay and the legality of one record more
pub replay-append : {Root : Type 0} (s : ReplayState) (xs ys : List (Record Root)) → replay s (xs ++ ys) ≡ replay (replay s xs) ys
replay-append s [] ys = refl
replay-append s (x ∷ xs) ys = replay-append (replay_after s x.event (file_of x)) xs ys

pub legal-append : {Root : Type 0} (tampered : List ℕ) (s : ReplayState) (xs ys : List (Record Root)) → IsLegalFrom tampered s xs → IsLegalFrom tampered (replay s xs) ys → IsLegalFrom tampered s (xs ++ ys)
legal-append tampered s [] ys front back = back
legal-append tampered s (x ∷ xs) ys front back = (front.0, legal-append tampered (replay_after s x.event (file_of x)) xs ys front.1 back)

pub sessions_stay : (Root : Type 0) → SessionsStay Root
sessions_stay Root s records = length-replay s records
