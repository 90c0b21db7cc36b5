-- Each live handle is on an object of its session's application, at all times.
use Rattle.std.proofs.Common.{◌≡◌, ◌==◌, ℕ, zero, suc, Bool, true, false, cond, not, List, [], ◌∷◌, ◌++◌, length, refl, ap, subst, Option, Some, None, ◌+◌, pos, ◌+ℤ◌, int_lt, slice_set, slice_index_or}
use Rattle.std.specs.List.{list_any, AllByRecursion}
use Rattle.std.specs.Map.{lookup, set_value, remove_entry}
use Rattle.tee_types.specs.Rights.{has, read_bit, write_bit, write_meta_bit}
use Rattle.tee_types.specs.declared.call.Call.{Call}
use Rattle.tee_types.specs.declared.call.Call.TheVariants.{Create, Open, Close, Read, Write, Truncate, Seek, Rename, Delete, Info, EnumNew, EnumStart, EnumNext, EnumReset, EnumFree}
use Rattle.tee_types.specs.declared.reply.Reply.{Reply}
use Rattle.tee_types.specs.declared.reply.Reply.TheVariants.{Corrupt, Misuse, Refused}
use Rattle.tee_types.specs.declared.reply.Code.TheVariants.{AccessConflict, ItemNotFound, Overflow}
use Rattle.tee_types.specs.declared.reply.Reason.TheVariants.{TooMany}
use Rattle.enumerators.specs.declared.cursor.Cursor.{Cursor}
use Rattle.enumerators.specs.Enumeration.{cursor_at, has_all, reset}
use Rattle.store_model.specs.declared.session.Handle.{Handle}
use Rattle.store_model.specs.Object.{Object, Contents, Sound, Damaged, ObjectMap, object_at, size_at, holds}
use Rattle.store_model.specs.Machine.{MachineState, Session, Outcome, new_session, session_at, applications, name_in, handle_at, unless_refused, first_refusal, refuse, by_handle, by_right, of_sound}
use Rattle.store_model.specs.Handles.{create_of, create_refusals, open_of, open_refusals, close_of}
use Rattle.store_model.specs.Data.{read_of, meets_block, bytes_at, write_of, write_refusals, truncate_of, truncate_refusals, seek_of, seek_base, info_of}
use Rattle.store_model.specs.Naming.{rename_of, delete_of}
use Rattle.store_model.specs.Enumerating.{enum_new_of, enum_start_of, enum_next_of, enum_reset_of, enum_free_of, by_cursor, enum_gives, is_of, with_enumerators}
use Rattle.store_model.specs.Calls.{outcome_of}
use Rattle.store_model.specs.Doubt.{follows, session_landed}
use Rattle.app_totals.specs.OwnHandles.{HasOwnHandles, HaveOwnHandles, KeepsOwnHandles}
use Rattle.app_totals.specs.Laws.{CallsKeepOwnHandles, LandingsKeepOwnHandles}

-- what is known of each session, and of an empty one, is known of the one at a place
pub any_session_has : (P : Session → Type 0) (sessions : List Session) (i : ℕ) → P (new_session []) → AllByRecursion P sessions → P (slice_index_or sessions i (new_session []))
any_session_has P [] i none all = none
any_session_has P (x ∷ xs) zero none all = all.0
any_session_has P (x ∷ xs) (suc i) none all = any_session_has P xs i none all.1

set_all : (P : Session → Type 0) (sessions : List Session) (i : ℕ) (y : Session) → P y → AllByRecursion P sessions → AllByRecursion P (slice_set sessions i y)
set_all P [] i y h all = tt
set_all P (x ∷ xs) zero y h all = (h, all.1)
set_all P (x ∷ xs) (suc i) y h all = (all.0, set_all P xs i y h all.1)

-- what is known of each handle is known of the one that is found
pub handle_has : (P : Handle → Type 0) (number : ℕ) (handles : List (ℕ × Handle)) (h : Handle) → AllByRecursion (λ x. P x.1) handles → lookup (λ n. n == number) handles ≡ Some h → P h
handle_has P number [] h all e = absurd (cc (e))
handle_has P number (x ∷ xs) h all e = (elim (x.0 == number) as (λ b. cond b (Some x.1) (lookup (λ n. n == number) xs) ≡ Some h → P h) [
  | true ↦ λ e. let same : x.1 ≡ h = cc (e) in subst P same all.0
  | false ↦ λ e. handle_has P number xs h all.1 e
]) e

-- the handles of a session change
module _ (P : ℕ × Handle → Type 0) where
  handles-more : (hs : List (ℕ × Handle)) (h : ℕ × Handle) → AllByRecursion P hs → P h → AllByRecursion P (hs ++ h ∷ [])
  handles-more [] h all p = (p, tt)
  handles-more (x ∷ xs) h all p = (all.0, handles-more xs h all.1 p)

  handles-less : (test : ℕ → Bool) (hs : List (ℕ × Handle)) → AllByRecursion P hs → AllByRecursion P (remove_entry test hs)
  handles-less test [] all = tt
  handles-less test (x ∷ xs) all = elim (test x.0) as (λ b. AllByRecursion P (cond b xs (x ∷ remove_entry test xs))) [ true ↦ all.1 | false ↦ (all.0, handles-less test xs all.1) ]

  handles-set : (test : ℕ → Bool) (h : Handle) (hs : List (ℕ × Handle)) → ((n : ℕ) → P (n, h)) → AllByRecursion P hs → AllByRecursion P (set_value test hs h)
  handles-set test h [] p all = tt
  handles-set test h (x ∷ xs) p all = elim (test x.0) as (λ b. AllByRecursion P (cond b ((x.0, h) ∷ xs) (x ∷ set_value test xs h))) [ true ↦ (p x.0, all.1) | false ↦ (all.0, handles-set test h xs p all.1) ]

-- a session that is set keeps its application
set_same : (sessions : List Session) (i : ℕ) (y : Session) → y.application ≡ (slice_index_or sessions i (new_session [])).application → applications (slice_set sessions i y) ≡ applications sessions
set_same [] i y its = refl
set_same (x ∷ xs) zero y its = ap (λ a. a ∷ applications xs) its
set_same (x ∷ xs) (suc i) y its = ap (λ l. x.application ∷ l) (set_same xs i y its)

module _ (s : MachineState) (i : ℕ) (handles : HaveOwnHandles s) where
  abbrev me : Session
  me = session_at s i

  own_handles : HasOwnHandles me
  own_handles = any_session_has HasOwnHandles s.sessions i tt handles

  handle_own : (number : ℕ) (h : Handle) → handle_at me number ≡ Some h → h.name.app ≡ me.application
  handle_own number h e = handle_has (λ h. h.name.app ≡ me.application) number me.handles h own_handles e

  pub record Keeps (outcome : Outcome) : Type 0 where
    pub is : KeepsOwnHandles s outcome.next

  keeps-refuse : (reply : Reply) → Keeps (refuse s reply)
  keeps-refuse reply = record { is = record { handles = handles; same = refl } }

  set_kept : (b : ObjectMap) (y : Session) → HasOwnHandles y → y.application ≡ me.application → KeepsOwnHandles s (record { objects = b; sessions = slice_set s.sessions i y })
  set_kept b y own its = record { handles = set_all HasOwnHandles s.sessions i y own handles; same = set_same s.sessions i y its }

  keeps-unless : (rows : List (Bool × Reply)) (u : MachineState) (done : Outcome) → KeepsOwnHandles s u → Keeps done → Keeps (unless_refused rows u done)
  keeps-unless rows u done kept h = elim (first_refusal rows) as (λ first. Keeps (elim first [ Some reply ↦ refuse u reply | None ↦ done ])) [
    | Some reply ↦ record { is = kept }
    | None ↦ h
  ]

  keeps-cond : (b : Bool) (one other : Outcome) → Keeps one → Keeps other → Keeps (cond b one other)
  keeps-cond true one other p q = p
  keeps-cond false one other p q = q

  keeps-by_handle : (o : Option Handle) (done : Handle → Outcome) → ((h : Handle) → o ≡ Some h → Keeps (done h)) → Keeps (by_handle s o done)
  keeps-by_handle None done q = keeps-refuse _
  keeps-by_handle (Some h) done q = q h refl

  keeps-by_right : (right : ℕ) (o : Option Handle) (done : Handle → Outcome) → ((h : Handle) → o ≡ Some h → Keeps (done h)) → Keeps (by_right s right o done)
  keeps-by_right right None done q = keeps-refuse _
  keeps-by_right right (Some h) done q = keeps-cond (has h.flags right) _ _ (q h refl) (keeps-refuse _)

  keeps-of_sound : (o : Option Object) (done : Contents → Outcome) → ((c : Contents) → Keeps (done c)) → Keeps (of_sound s o done)
  keeps-of_sound None done q = keeps-refuse _
  keeps-of_sound (Some (Damaged n)) done q = keeps-refuse _
  keeps-of_sound (Some (Sound c)) done q = q c

  keeps-by_cursor : (o : Option Cursor) (done : Cursor → Outcome) → ((c : Cursor) → Keeps (done c)) → Keeps (by_cursor s o done)
  keeps-by_cursor None done q = keeps-refuse _
  keeps-by_cursor (Some c) done q = q c

  keeps-gives : (number : ℕ) (next : Option (List ℕ × ℕ)) → Keeps (enum_gives s i number next)
  keeps-gives number None = keeps-refuse _
  keeps-gives number (Some (id, size)) = record { is = set_kept _ _ own_handles refl }

  kept_self : KeepsOwnHandles s s
  kept_self = record { handles = handles; same = refl }

  more : (n : ℕ) (h : Handle) → h.name.app ≡ me.application → AllByRecursion (λ (x : ℕ × Handle). (x.1).name.app ≡ me.application) (me.handles ++ (n, h) ∷ [])
  more n h its = handles-more (λ (x : ℕ × Handle). (x.1).name.app ≡ me.application) me.handles (n, h) own_handles its

  less : (number : ℕ) → AllByRecursion (λ (x : ℕ × Handle). (x.1).name.app ≡ me.application) (remove_entry (λ n. n == number) me.handles)
  less number = handles-less (λ (x : ℕ × Handle). (x.1).name.app ≡ me.application) (λ n. n == number) me.handles own_handles

  other : (number : ℕ) (h : Handle) → h.name.app ≡ me.application → AllByRecursion (λ (x : ℕ × Handle). (x.1).name.app ≡ me.application) (set_value (λ n. n == number) me.handles h)
  other number h its = handles-set (λ (x : ℕ × Handle). (x.1).name.app ≡ me.application) (λ n. n == number) h me.handles (λ n. its) own_handles

  pub keeps_outcome : (call : Call) → Keeps (outcome_of s i call)
  unfolding create_of open_of close_of read_of write_of truncate_of seek_of info_of rename_of delete_of enum_new_of enum_start_of enum_next_of enum_reset_of enum_free_of
  keeps_outcome (Create id flags attributes bytes) = keeps-unless (create_refusals s i (name_in s i id) flags attributes bytes) s _ kept_self (record { is = set_kept _ _ (more _ _ refl) refl })
  keeps_outcome (Open id flags) = keeps-unless (open_refusals s i (name_in s i id) flags) s _ kept_self (record { is = set_kept _ _ (more _ _ refl) refl })
  keeps_outcome (Close number) = keeps-by_handle (handle_at me number) _ (λ h e. record { is = set_kept _ _ (less number) refl })
  keeps_outcome (Read number size) =
      keeps-by_right read_bit (handle_at me number) _
      (λ h e. keeps-of_sound (object_at s.objects h.name) _
      (λ c. keeps-unless ((list_any (meets_block h.position (h.position + length (bytes_at c.bytes h.position size))) c.bad, Corrupt) ∷ []) s _ kept_self (record { is = set_kept _ _ (other number _ (handle_own number h e)) refl })))
  keeps_outcome (Write number bytes) =
      keeps-by_right write_bit (handle_at me number) _
      (λ h e. keeps-cond (length bytes == 0) _ _ (record { is = kept_self }) (keeps-of_sound (object_at s.objects h.name) _
      (λ c. keeps-unless (write_refusals c h.position (length bytes)) s _ kept_self (record { is = set_kept _ _ (other number _ (handle_own number h e)) refl }))))
  keeps_outcome (Truncate number size) =
      keeps-by_right write_bit (handle_at me number) _
      (λ h e. keeps-of_sound (object_at s.objects h.name) _ (λ c. keeps-unless (truncate_refusals c size) s _ kept_self (record { is = record { handles = handles; same = refl } })))
  keeps_outcome (Seek number offset whence) =
      keeps-by_handle (handle_at me number) _
      (λ h e. keeps-unless ((int_lt (pos 4294967295) (pos (seek_base whence h.position (size_at s.objects h.name)) +ℤ offset), Refused Overflow) ∷ []) s _ kept_self (record { is = set_kept _ _ (other number _ (handle_own number h e)) refl }))
  keeps_outcome (Rename number id) =
      keeps-by_right write_meta_bit (handle_at me number) _
      (λ h e. keeps-unless ((holds s.objects (name_in s i id), Refused AccessConflict) ∷ []) s _ kept_self (record { is = set_kept _ _ (other number _ refl) refl }))
  keeps_outcome (Delete number) = keeps-by_right write_meta_bit (handle_at me number) _ (λ h e. record { is = set_kept _ _ (less number) refl })
  keeps_outcome (Info number) = keeps-by_handle (handle_at me number) _ (λ h e. keeps-of_sound (object_at s.objects h.name) _ (λ c. record { is = kept_self }))
  keeps_outcome EnumNew = keeps-unless ((has_all me.enumerators, Misuse TooMany) ∷ []) s _ kept_self (record { is = set_kept _ _ own_handles refl })
  keeps_outcome (EnumStart number) =
      keeps-by_cursor (cursor_at me.enumerators number) _
      (λ c. keeps-unless ((not (list_any (is_of me.application) s.objects), Refused ItemNotFound) ∷ []) (with_enumerators s i (reset me.enumerators number)) _ (set_kept _ _ own_handles refl) (record { is = set_kept _ _ own_handles refl }))
  keeps_outcome (EnumNext number) = keeps-by_cursor (cursor_at me.enumerators number) _ (λ c. keeps-gives number _)
  keeps_outcome (EnumReset number) = keeps-by_cursor (cursor_at me.enumerators number) _ (λ c. record { is = set_kept _ _ own_handles refl })
  keeps_outcome (EnumFree number) = keeps-by_cursor (cursor_at me.enumerators number) _ (λ c. record { is = set_kept _ _ own_handles refl })

  -- a landing
  follows_kept : (number : ℕ) (id : List ℕ) (o : Option Handle) → HasOwnHandles (follows s i number id o) × ((follows s i number id o).application ≡ me.application)
  follows_kept number id None = (own_handles, refl)
  follows_kept number id (Some h) = (other number _ refl, refl)

  pub landed_kept : (call : Call) → HasOwnHandles (session_landed s i call) × ((session_landed s i call).application ≡ me.application)
  landed_kept (Create id flags attributes bytes) = (own_handles, refl)
  landed_kept (Open id flags) = (own_handles, refl)
  landed_kept (Close number) = (own_handles, refl)
  landed_kept (Read number size) = (own_handles, refl)
  landed_kept (Write number bytes) = (own_handles, refl)
  landed_kept (Truncate number size) = (own_handles, refl)
  landed_kept (Seek number offset whence) = (own_handles, refl)
  landed_kept (Rename number id) = follows_kept number id (handle_at me number)
  landed_kept (Delete number) = (less number, refl)
  landed_kept (Info number) = (own_handles, refl)
  landed_kept EnumNew = (own_handles, refl)
  landed_kept (EnumStart number) = (own_handles, refl)
  landed_kept (EnumNext number) = (own_handles, refl)
  landed_kept (EnumReset number) = (own_handles, refl)
  landed_kept (EnumFree number) = (own_handles, refl)

pub calls_keep_own_handles : CallsKeepOwnHandles
calls_keep_own_handles s i call handles = (keeps_outcome s i handles call).is

pub landings_keep_own_handles : LandingsKeepOwnHandles
landings_keep_own_handles s doubt handles = let y = landed_kept s doubt.session handles doubt.call in set_kept s doubt.session handles _ _ y.0 y.1
