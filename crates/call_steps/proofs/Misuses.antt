-- Which calls by a handle, or on an enumerator, are a misuse.
use Rattle.std.proofs.Common.{◌≡◌, ℕ, ℤ, pos, ◌+ℤ◌, int_lt, Bool, true, false, not, List, [], ◌∷◌, Option, Some, None, refl, sym, ap, ◌∙◌, subst}
use Rattle.std.specs.List.{list_any}
use Rattle.std.specs.Option.{option_map}
use Rattle.tee_types.specs.declared.call.Call.{Call}
use Rattle.tee_types.specs.declared.call.Call.TheVariants.{Close, Seek, EnumNew, EnumStart, EnumNext, EnumReset, EnumFree}
use Rattle.tee_types.specs.declared.call.Whence.{Whence}
use Rattle.tee_types.specs.declared.reply.Reason.{Reason}
use Rattle.tee_types.specs.declared.reply.Reason.TheVariants.{BadHandle, BadEnumerator, TooMany}
use Rattle.tee_types.specs.declared.reply.Reply.{Reply}
use Rattle.tee_types.specs.declared.reply.Reply.TheVariants.{Done, Handle as HandleReply, Refused, Misuse}
use Rattle.tee_types.specs.declared.reply.Code.TheVariants.{ItemNotFound, Overflow}
use Rattle.enumerators.specs.declared.cursor.Cursor.{Cursor}
use Rattle.enumerators.specs.Enumeration.{EnumeratorTable, allocated, cursor_at, freed, has_all, reset, started}
use Rattle.store_model.specs.declared.session.Handle.{Handle as HandleValue}
use Rattle.store_model.specs.Calls.{reply_of}
use Rattle.store_model.specs.Data.{at_least_zero, greatest_position, seek_base, seek_of, with_position}
use Rattle.store_model.specs.Enumerating.{by_cursor, enum_free_of, enum_gives, enum_new_of, enum_next_of, enum_reset_of, enum_start_of, is_of, next_object, shown, with_enumerators}
use Rattle.store_model.specs.Object.{size_at}
use Rattle.store_model.specs.Files.{is_misuse}
use Rattle.store_model.specs.Handles.{close_of}
use Rattle.store_model.specs.Machine.{MachineState, Outcome, Session, by_handle, handle_at, session_at, unless_refused, with_session, without_handle}
use Rattle.call_rules.specs.Told.{IsTold}
use Rattle.call_rules.proofs.Closing.{close_refused}
use Rattle.call_rules.proofs.DataCalls.{seek_missed}
use Rattle.call_rules.proofs.Enumerators.{new_full, start_missed, next_missed, reset_missed, free_missed}
use Rattle.call_steps.specs.Rulings.{IsMisuse, reason_unless, reason_where}

-- a call by a handle or on an enumerator: that misuse where there is none, and no misuse where there is one
by-place : {A : Type 0} (s : MachineState) (i : ℕ) (caller : Session) (call : Call) (place : Option A) (reason : Reason)
    → (place ≡ None → IsTold s i call (Misuse reason) caller) → ((a : A) → place ≡ Some a → is_misuse (reply_of s i call) ≡ false)
    → IsMisuse s i caller call (reason_unless place reason)
by-place s i caller call None reason missed proper = missed refl
by-place s i caller call (Some a) reason missed proper = proper a refl

-- no misuse is given where a row refuses with a code, and where none does
one-row : (b : Bool) (s : MachineState) (done : Outcome) (reply : Reply) → is_misuse reply ≡ false → is_misuse done.reply ≡ false
    → is_misuse (unless_refused ((b, reply) ∷ []) s done).reply ≡ false
one-row true s done reply refused passed = refused
one-row false s done reply refused passed = passed

gives-proper : (s : MachineState) (i number : ℕ) (next : Option (List ℕ × ℕ)) → is_misuse (enum_gives s i number next).reply ≡ false
gives-proper s i number None = refl
gives-proper s i number (Some (id, size)) = refl

module _ (s : MachineState) (i : ℕ) (caller : Session) (is : session_at s i ≡ caller) (number : ℕ) where
  live-handle : (h : HandleValue) → handle_at caller number ≡ Some h → handle_at (session_at s i) number ≡ Some h
  live-handle h at = ap (λ (x : Session). handle_at x number) is ∙ at

  live-cursor : (c : Cursor) → cursor_at caller.enumerators number ≡ Some c → cursor_at (session_at s i).enumerators number ≡ Some c
  live-cursor c at = ap (λ (x : Session). cursor_at x.enumerators number) is ∙ at

  abbrev closed : HandleValue → Outcome
  closed handle = record { reply = Done; next = with_session s i (without_handle (session_at s i) number) }

  close-proper : (h : HandleValue) → handle_at caller number ≡ Some h → is_misuse (reply_of s i (Close number)) ≡ false
  unfolding close_of
  close-proper h at = ap (λ (o : Option HandleValue). is_misuse (by_handle s o closed).reply) (live-handle h at)

  pub close-misuse : IsMisuse s i caller (Close number) (reason_unless (handle_at caller number) BadHandle)
  close-misuse = by-place s i caller (Close number) (handle_at caller number) BadHandle (close_refused s i caller is number) close-proper

  abbrev target : (offset : ℤ) (whence : Whence) → HandleValue → ℤ
  target offset whence handle = pos (seek_base whence handle.position (size_at s.objects handle.name)) +ℤ offset

  abbrev moved : (offset : ℤ) (whence : Whence) → HandleValue → Outcome
  moved offset whence handle = record { reply = Done; next = with_position s i number handle (at_least_zero (target offset whence handle)) }

  abbrev seeking : (offset : ℤ) (whence : Whence) → HandleValue → Outcome
  seeking offset whence handle = unless_refused ((int_lt (pos greatest_position) (target offset whence handle), Refused Overflow) ∷ []) s (moved offset whence handle)

  seek-proper : (offset : ℤ) (whence : Whence) (h : HandleValue) → handle_at caller number ≡ Some h → is_misuse (reply_of s i (Seek number offset whence)) ≡ false
  unfolding seek_of
  seek-proper offset whence h at =
      ap (λ (o : Option HandleValue). is_misuse (by_handle s o (seeking offset whence)).reply) (live-handle h at)
      ∙ one-row (int_lt (pos greatest_position) (target offset whence h)) s (moved offset whence h) (Refused Overflow) refl refl

  pub seek-misuse : (offset : ℤ) (whence : Whence) → IsMisuse s i caller (Seek number offset whence) (reason_unless (handle_at caller number) BadHandle)
  seek-misuse offset whence =
      by-place s i caller (Seek number offset whence) (handle_at caller number) BadHandle (seek_missed s i caller is number offset whence) (seek-proper offset whence)

  abbrev table : EnumeratorTable
  table = (session_at s i).enumerators

  abbrev lacks : Bool
  lacks = not (list_any (is_of (session_at s i).application) s.objects)

  abbrev begun : Outcome
  begun = record { reply = Done; next = with_enumerators s i (started table number) }

  abbrev starting : Cursor → Outcome
  starting cursor = unless_refused ((lacks, Refused ItemNotFound) ∷ []) (with_enumerators s i (reset table number)) begun

  start-proper : (c : Cursor) → cursor_at caller.enumerators number ≡ Some c → is_misuse (reply_of s i (EnumStart number)) ≡ false
  unfolding enum_start_of
  start-proper c at =
      ap (λ (o : Option Cursor). is_misuse (by_cursor s o starting).reply) (live-cursor c at)
      ∙ one-row lacks (with_enumerators s i (reset table number)) begun (Refused ItemNotFound) refl refl

  pub start-misuse : IsMisuse s i caller (EnumStart number) (reason_unless (cursor_at caller.enumerators number) BadEnumerator)
  start-misuse = by-place s i caller (EnumStart number) (cursor_at caller.enumerators number) BadEnumerator (start_missed s i caller is number) start-proper

  abbrev next : Cursor → Option (List ℕ × ℕ)
  next cursor = option_map shown (next_object s.objects (session_at s i).application cursor)

  abbrev nexting : Cursor → Outcome
  nexting cursor = enum_gives s i number (next cursor)

  next-proper : (c : Cursor) → cursor_at caller.enumerators number ≡ Some c → is_misuse (reply_of s i (EnumNext number)) ≡ false
  unfolding enum_next_of
  next-proper c at =
      ap (λ (o : Option Cursor). is_misuse (by_cursor s o nexting).reply) (live-cursor c at) ∙ gives-proper s i number (next c)

  pub next-misuse : IsMisuse s i caller (EnumNext number) (reason_unless (cursor_at caller.enumerators number) BadEnumerator)
  next-misuse = by-place s i caller (EnumNext number) (cursor_at caller.enumerators number) BadEnumerator (next_missed s i caller is number) next-proper

  abbrev resetting : Cursor → Outcome
  resetting cursor = record { reply = Done; next = with_enumerators s i (reset table number) }

  reset-proper : (c : Cursor) → cursor_at caller.enumerators number ≡ Some c → is_misuse (reply_of s i (EnumReset number)) ≡ false
  unfolding enum_reset_of
  reset-proper c at = ap (λ (o : Option Cursor). is_misuse (by_cursor s o resetting).reply) (live-cursor c at)

  pub reset-misuse : IsMisuse s i caller (EnumReset number) (reason_unless (cursor_at caller.enumerators number) BadEnumerator)
  reset-misuse = by-place s i caller (EnumReset number) (cursor_at caller.enumerators number) BadEnumerator (reset_missed s i caller is number) reset-proper

  abbrev freeing : Cursor → Outcome
  freeing cursor = record { reply = Done; next = with_enumerators s i (freed table number) }

  free-proper : (c : Cursor) → cursor_at caller.enumerators number ≡ Some c → is_misuse (reply_of s i (EnumFree number)) ≡ false
  unfolding enum_free_of
  free-proper c at = ap (λ (o : Option Cursor). is_misuse (by_cursor s o freeing).reply) (live-cursor c at)

  pub free-misuse : IsMisuse s i caller (EnumFree number) (reason_unless (cursor_at caller.enumerators number) BadEnumerator)
  free-misuse = by-place s i caller (EnumFree number) (cursor_at caller.enumerators number) BadEnumerator (free_missed s i caller is number) free-proper

module _ (s : MachineState) (i : ℕ) (caller : Session) (is : session_at s i ≡ caller) where
  abbrev made : EnumeratorTable → Outcome
  made table = record { reply = HandleReply table.next; next = with_enumerators s i (allocated table) }

  new-proper : has_all caller.enumerators ≡ false → is_misuse (reply_of s i EnumNew) ≡ false
  unfolding enum_new_of
  new-proper room =
      ap (λ (x : Session). is_misuse (unless_refused ((has_all x.enumerators, Misuse TooMany) ∷ []) s (made x.enumerators)).reply) is
      ∙ ap (λ (b : Bool). is_misuse (unless_refused ((b, Misuse TooMany) ∷ []) s (made caller.enumerators)).reply) room

  new-cases : (full : Bool) → has_all caller.enumerators ≡ full → IsMisuse s i caller EnumNew (reason_where full TooMany)
  new-cases true full = new_full s i caller is full caller refl
  new-cases false room = new-proper room

  pub new-misuse : IsMisuse s i caller EnumNew (reason_where (has_all caller.enumerators) TooMany)
  new-misuse = new-cases (has_all caller.enumerators) refl

-- in other words
pub misuse-as : (s : MachineState) (i : ℕ) (caller : Session) (call other : Call) (found reason : Option Reason) → call ≡ other → found ≡ reason
    → IsMisuse s i caller other reason → IsMisuse s i caller call found
misuse-as s i caller call other found reason is same misuse =
    subst (λ (p : Call × Option Reason). IsMisuse s i caller p.0 p.1) (λ j. (sym is j, sym same j)) misuse
