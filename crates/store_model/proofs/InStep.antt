-- A call over two maps that differ only in damage: it is answered alike where its object is the same in both, or is not looked into.
use Rattle.std.proofs.Common.{◌≡◌, ◌⊎◌, ℕ, Bool, true, false, cond, not, ◌&&◌, ◌||◌, List, [], ◌∷◌, length, ap, sym, ◌∙◌, refl, subst, inl, inr, Option, Some, None, true≢false, ◌+◌, pos, ◌+ℤ◌, int_lt, ℤ, lt-ltb, arith}
use Rattle.std.specs.Prelude.{◌==◌, nat_lt, nat_le}
use Rattle.std.specs.List.{list_any, list_all, find}
use Rattle.std.specs.Option.{option_map}
use Rattle.std.specs.Ordering.{is_eq, is_lt}
use Rattle.std.proofs.lemmas.Bool.{cond-false}
use Rattle.tee_types.specs.Limits.{most_attribute_bytes, most_data_bytes}
use Rattle.tee_types.specs.Identifier.{bytes_cmp}
use Rattle.tee_types.specs.Rights.{has, is_known, overwrite_bit, read_bit, write_bit, write_meta_bit}
use Rattle.tee_types.specs.declared.flags.Flags.{Flags}
use Rattle.tee_types.specs.declared.call.Call.{Call}
use Rattle.tee_types.specs.declared.call.Call.TheVariants.{Create, Open, Close, Read, Write, Truncate, Seek, Rename, Delete, Info, EnumNew, EnumStart, EnumNext, EnumReset, EnumFree}
use Rattle.tee_types.specs.declared.call.Whence.{Whence}
use Rattle.tee_types.specs.declared.reply.Reply.{Reply}
use Rattle.tee_types.specs.declared.reply.Reply.TheVariants.{Done, Info as InfoReply, Misuse, Corrupt, Refused}
use Rattle.tee_types.specs.declared.reply.Code.TheVariants.{AccessConflict, BadParameters, ItemNotFound, NoSpace, Overflow}
use Rattle.tee_types.specs.declared.reply.Reason.TheVariants.{BadHandle, BadFlags, TooMany, NoRight}
use Rattle.enumerators.specs.declared.cursor.Cursor.{Cursor}
use Rattle.enumerators.specs.declared.cursor.Cursor.TheVariants.{Idle, First, After}
use Rattle.enumerators.specs.Enumeration.{cursor_at, has_all, reset, advanced}
use Rattle.store_model.specs.declared.session.Handle.{Handle}
use Rattle.store_model.specs.declared.name.ObjectName.{ObjectName}
use Rattle.store_model.specs.Object.{Object, Contents, Sound, Damaged, ObjectMap, most_objects, size_of, size_at, object_at, holds, is_damaged}
use Rattle.store_model.specs.Machine.{MachineState, Outcome, session_at, name_in, handle_at, has_all_handles, unless_refused, first_refusal, refuse, by_handle, by_right, of_sound}
use Rattle.store_model.specs.Handles.{create_of, create_refusals, open_of, open_refusals, open_handle, close_of, has_open, allows_open}
use Rattle.store_model.specs.Data.{read_of, read_from, bytes_at, meets_block, write_of, write_from, write_refusals, truncate_of, truncate_from, truncate_refusals, seek_of, seek_base, at_least_zero, with_position, info_of}
use Rattle.store_model.specs.Naming.{rename_of, delete_of}
use Rattle.store_model.specs.Enumerating.{enum_new_of, enum_start_of, enum_next_of, enum_reset_of, enum_free_of, by_cursor, enum_gives, is_of, shown, next_object, with_enumerators}
use Rattle.store_model.specs.Calls.{outcome_of, is_handle}
use Rattle.store_model.specs.Files.{is_misuse, is_corrupt, name_by, object_named, reads_file}
use Rattle.store_model.proofs.MapLaws.{mapped}
use Rattle.store_model.proofs.Closeness.{listing, same-holds, same-sizes, same-size, same-length}

-- the two outcomes have one reply, and the same sessions
pub record Agree (one other : Outcome) : Type 0 where
  pub reply : other.reply ≡ one.reply
  pub sessions : (other.next).sessions ≡ (one.next).sessions

-- the state with another map
abbrev pub over : MachineState → ObjectMap → MachineState
over s objects = record s { objects = objects }

Agree-refl : (s t : MachineState) (reply : Reply) → t.sessions ≡ s.sessions → Agree (record { reply = reply; next = s }) (record { reply = reply; next = t })
Agree-refl s t reply same = record { reply = refl; sessions = same }

module _ (s t : MachineState) (same : t.sessions ≡ s.sessions) where
  Agree-rows : (rows : List (Bool × Reply)) (one other : Outcome) → Agree one other → Agree (unless_refused rows s one) (unless_refused rows t other)
  Agree-rows rows one other agree = elim (first_refusal rows) as (λ first. Agree (elim first [ Some reply ↦ refuse s reply | None ↦ one ]) (elim first [ Some reply ↦ refuse t reply | None ↦ other ])) [
    | Some reply ↦ Agree-refl s t reply same
    | None ↦ agree
  ]

  Agree-unless : (rows rows' : List (Bool × Reply)) (one other : Outcome) → rows' ≡ rows → Agree one other → Agree (unless_refused rows s one) (unless_refused rows' t other)
  Agree-unless rows rows' one other is agree =
      subst (λ r. Agree (unless_refused rows s one) (unless_refused r t other)) (sym is) (Agree-rows rows one other agree)

  Agree-cond : (b : Bool) (one one' other other' : Outcome) → (b ≡ true → Agree one other) → (b ≡ false → Agree one' other') → Agree (cond b one one') (cond b other other')
  Agree-cond true one one' other other' p q = p refl
  Agree-cond false one one' other other' p q = q refl

  Agree-by_handle : (handle : Option Handle) (done done' : Handle → Outcome) → ((h : Handle) → handle ≡ Some h → Agree (done h) (done' h)) → Agree (by_handle s handle done) (by_handle t handle done')
  Agree-by_handle None done done' q = Agree-refl s t (Misuse BadHandle) same
  Agree-by_handle (Some h) done done' q = q h refl

  Agree-by_right : (right : ℕ) (handle : Option Handle) (done done' : Handle → Outcome) → ((h : Handle) → handle ≡ Some h → has h.flags right ≡ true → Agree (done h) (done' h))
      → Agree (by_right s right handle done) (by_right t right handle done')
  Agree-by_right right None done done' q = Agree-refl s t (Misuse BadHandle) same
  Agree-by_right right (Some h) done done' q =
      Agree-cond (has h.flags right) (done h) (refuse s (Misuse NoRight)) (done' h) (refuse t (Misuse NoRight)) (q h refl) (λ _. Agree-refl s t (Misuse NoRight) same)

  Agree-by_cursor : (cursor : Option Cursor) (done done' : Cursor → Outcome) → ((c : Cursor) → Agree (done c) (done' c)) → Agree (by_cursor s cursor done) (by_cursor t cursor done')
  Agree-by_cursor None done done' q = record { reply = refl; sessions = same }
  Agree-by_cursor (Some c) done done' q = q c

  of_sound-same : (o : Option Object) (done done' : Contents → Outcome) → ((c : Contents) → Agree (done c) (done' c)) → Agree (of_sound s o done) (of_sound t o done')
  of_sound-same None done done' q = Agree-refl s t (Misuse BadHandle) same
  of_sound-same (Some (Damaged n)) done done' q = Agree-refl s t Corrupt same
  of_sound-same (Some (Sound c)) done done' q = q c

  -- an object of another damage is met only where the call is no misuse
  Agree-of_sound : (o o' : Option Object) (done done' : Contents → Outcome) → option_map size_of o' ≡ option_map size_of o → (o' ≡ o) ⊎ (is_misuse (of_sound s o done).reply ≡ true)
      → ((c : Contents) → is_misuse (done c).reply ≡ false) → ((c : Contents) → Agree (done c) (done' c)) → Agree (of_sound s o done) (of_sound t o' done')
  Agree-of_sound o o' done done' sizes (inl is) fine q =
      subst (λ (x : Option Object). Agree (of_sound s o done) (of_sound t x done')) (sym is) (of_sound-same o done done' q)
  Agree-of_sound None None done done' sizes (inr misuse) fine q = Agree-refl s t (Misuse BadHandle) same
  Agree-of_sound None (Some x) done done' sizes (inr misuse) fine q = absurd (cc (sizes))
  Agree-of_sound (Some (Damaged n)) o' done done' sizes (inr misuse) fine q = absurd (true≢false (sym misuse))
  Agree-of_sound (Some (Sound c)) o' done done' sizes (inr misuse) fine q = absurd (true≢false (sym misuse ∙ fine c))

  Agree-gives : (i number : ℕ) (next : Option (List ℕ × ℕ)) → Agree (enum_gives s i number next) (enum_gives t i number next)
  Agree-gives i number None = record { reply = refl; sessions = same }
  Agree-gives i number (Some (id, size)) = record { reply = refl; sessions = λ k. (with_enumerators (record s { sessions = same k }) i (advanced (session_at (record s { sessions = same k }) i).enumerators number id)).sessions }

-- none of these rows is a misuse
abbrev pub NoMisuses : List (Bool × Reply) → Type 0
NoMisuses [] = Unit {0}
NoMisuses (row ∷ rows) = (is_misuse row.1 ≡ false) × NoMisuses rows

pub no_misuse-unless : (s : MachineState) (rows : List (Bool × Reply)) (done : Outcome) → NoMisuses rows → is_misuse done.reply ≡ false → is_misuse (unless_refused rows s done).reply ≡ false
no_misuse-unless s [] done none fine = fine
no_misuse-unless s ((true, reply) ∷ rows) done none fine = none.0
no_misuse-unless s ((false, reply) ∷ rows) done none fine = no_misuse-unless s rows done none.1 fine

-- what is told by names and sizes
any-mapped : {X Y : Type 0} (p : ObjectName → Bool) (f : X → Y) (m : List (ObjectName × X)) → list_any (λ e. p e.0) m ≡ list_any (λ e. p e.0) (mapped f m)
any-mapped p f [] = refl
any-mapped p f (e ∷ m) = ap (λ b. p e.0 || b) (any-mapped p f m)

find-mapped : {X Y : Type 0} (p : ObjectName → Bool) (f : X → Y) (m : List (ObjectName × X)) → option_map (λ e. (e.0, f e.1)) (find (λ e. p e.0) m) ≡ find (λ e. p e.0) (mapped f m)
find-mapped p f [] = refl
find-mapped p f (e ∷ m) = elim (p e.0) as (λ b. option_map (λ e. (e.0, f e.1)) (cond b (Some e) (find (λ e. p e.0) m)) ≡ cond b (Some (e.0, f e.1)) (find (λ e. p e.0) (mapped f m))) [
  | true ↦ refl
  | false ↦ find-mapped p f m
]

-- an open is refused before damage is looked at, or it is answered with a handle or with damage
abbrev pub rows_of_open : Bool → Bool → Bool → Bool → Bool → List (Bool × Reply)
rows_of_open flags full missing conflict damaged =
    (flags, Misuse BadFlags) ∷ (full, Misuse TooMany) ∷ (missing, Refused ItemNotFound) ∷ (conflict, Refused AccessConflict) ∷ (damaged, Corrupt) ∷ []

opened-unread : (s t : MachineState) (one other : Outcome) (flags full missing conflict damaged other_damaged : Bool) → t.sessions ≡ s.sessions → is_handle one.reply ≡ true
    → (is_handle (unless_refused (rows_of_open flags full missing conflict damaged) s one).reply || is_corrupt (unless_refused (rows_of_open flags full missing conflict damaged) s one).reply) ≡ false
    → Agree (unless_refused (rows_of_open flags full missing conflict damaged) s one) (unless_refused (rows_of_open flags full missing conflict other_damaged) t other)
opened-unread s t one other true full missing conflict damaged other_damaged same gives unread = record { reply = refl; sessions = same }
opened-unread s t one other false true missing conflict damaged other_damaged same gives unread = record { reply = refl; sessions = same }
opened-unread s t one other false false true conflict damaged other_damaged same gives unread = record { reply = refl; sessions = same }
opened-unread s t one other false false false true damaged other_damaged same gives unread = record { reply = refl; sessions = same }
opened-unread s t one other false false false false true other_damaged same gives unread = absurd (true≢false unread)
opened-unread s t one other false false false false false other_damaged same gives unread = absurd (true≢false (sym (ap (λ c. c || is_corrupt one.reply) gives) ∙ unread))

-- whether an open is a misuse does not depend on damage
pub open-misuse : (s t : MachineState) (one other : Outcome) (flags full missing conflict damaged other_damaged : Bool) → is_misuse one.reply ≡ false → is_misuse other.reply ≡ false
    → is_misuse (unless_refused (rows_of_open flags full missing conflict other_damaged) t other).reply ≡ is_misuse (unless_refused (rows_of_open flags full missing conflict damaged) s one).reply
open-misuse s t one other true full missing conflict damaged other_damaged fine fine' = refl
open-misuse s t one other false true missing conflict damaged other_damaged fine fine' = refl
open-misuse s t one other false false true conflict damaged other_damaged fine fine' = refl
open-misuse s t one other false false false true damaged other_damaged fine fine' = refl
open-misuse s t one other false false false false true true fine fine' = refl
open-misuse s t one other false false false false true false fine fine' = fine'
open-misuse s t one other false false false false false true fine fine' = sym fine
open-misuse s t one other false false false false false false fine fine' = fine' ∙ sym fine

-- the machine over two maps with one listing
module _ (s : MachineState) (b : ObjectMap) (i : ℕ) (listed : listing b ≡ listing s.objects) where
  any-same : (application : List ℕ) → list_any (is_of application) b ≡ list_any (is_of application) s.objects
  any-same application =
      any-mapped (λ n. is_eq (bytes_cmp application n.app)) size_of b ∙ ap (list_any (λ e. is_eq (bytes_cmp application (e.0).app))) listed
      ∙ sym (any-mapped (λ n. is_eq (bytes_cmp application n.app)) size_of s.objects)

  found-same : (p : ObjectName → Bool) → option_map shown (find (λ e. p e.0) b) ≡ option_map shown (find (λ e. p e.0) s.objects)
  found-same p =
      told (find (λ e. p e.0) b) ∙ ap tell (find-mapped p size_of b ∙ ap (find (λ e. p e.0)) listed ∙ sym (find-mapped p size_of s.objects)) ∙ sym (told (find (λ e. p e.0) s.objects))
    where
      tell : Option (ObjectName × ℕ) → Option (List ℕ × ℕ)
      tell o = option_map (λ e. ((e.0).id, e.1)) o

      told : (o : Option (ObjectName × Object)) → option_map shown o ≡ tell (option_map (λ e. (e.0, size_of e.1)) o)
      told None = refl
      told (Some e) = refl

  next-same : (application : List ℕ) (cursor : Cursor) → option_map shown (next_object b application cursor) ≡ option_map shown (next_object s.objects application cursor)
  next-same application Idle = refl
  next-same application First = found-same (λ n. is_eq (bytes_cmp application n.app))
  next-same application (After id) = found-same (λ n. is_eq (bytes_cmp application n.app) && is_lt (bytes_cmp id n.id))

  -- the object that the call names is the same in both maps, or the machine's answer does not tell of what its file holds
  abbrev pub Matches : Call → Reply → Type 0
  Matches call meant = (name : ObjectName) → object_named s i call ≡ Some name → (object_at b name ≡ object_at s.objects name) ⊎ (reads_file call meant ≡ false)

  abbrev create_rows : Flags → ObjectName → List ℕ → List ℕ → Bool → ℕ → List (Bool × Reply)
  create_rows flags name attributes bytes held count =
      (not (is_known flags), Misuse BadFlags)
      ∷ (has_all_handles (session_at s i), Misuse TooMany)
      ∷ (nat_lt most_attribute_bytes (length attributes), Refused BadParameters)
      ∷ (held && not (has flags overwrite_bit), Refused AccessConflict)
      ∷ (held && list_any (has_open name) s.sessions, Refused AccessConflict)
      ∷ (nat_lt most_data_bytes (length bytes) || (not held && nat_le most_objects count), Refused NoSpace)
      ∷ []

  agree-create : (id : List ℕ) (flags : Flags) (attributes bytes : List ℕ) → Agree (create_of s i id flags attributes bytes) (create_of (over s b) i id flags attributes bytes)
  unfolding create_of
  agree-create id flags attributes bytes =
      let name = name_in s i id in
      let held = same-holds s.objects b listed name in
      let count = same-length s.objects b listed in
      Agree-unless s (over s b) refl (create_refusals s i name flags attributes bytes) (create_refusals (over s b) i name flags attributes bytes) _ _
      (λ k. create_rows flags name attributes bytes (held k) (count k)) (record { reply = refl; sessions = refl })

  abbrev pub open_rows : Flags → ObjectName → Bool → Bool → List (Bool × Reply)
  open_rows flags name held damaged =
      rows_of_open (not (is_known flags) || has flags overwrite_bit) (has_all_handles (session_at s i)) (not held) (not (list_all (allows_open name flags) s.sessions)) damaged

  agree-open : (id : List ℕ) (flags : Flags) → Matches (Open id flags) (open_of s i id flags).reply → Agree (open_of s i id flags) (open_of (over s b) i id flags)
  unfolding open_of
  agree-open id flags matches = one (matches name refl)
    where
      name : ObjectName
      name = name_in s i id

      held : holds b (name_in s i id) ≡ holds s.objects (name_in s i id)
      held = same-holds s.objects b listed (name_in s i id)

      one : (object_at b (name_in s i id) ≡ object_at s.objects (name_in s i id)) ⊎ (reads_file (Open id flags) (unless_refused (open_refusals s i (name_in s i id) flags) s (open_handle s i (name_in s i id) flags)).reply ≡ false)
          → Agree (unless_refused (open_refusals s i (name_in s i id) flags) s (open_handle s i (name_in s i id) flags))
          (unless_refused (open_refusals (over s b) i (name_in s i id) flags) (over s b) (open_handle (over s b) i (name_in s i id) flags))
      one (inl same) = Agree-unless s (over s b) refl (open_refusals s i (name_in s i id) flags) (open_refusals (over s b) i (name_in s i id) flags) _ _
          (λ k. open_rows flags (name_in s i id) (held k) (is_damaged (same k))) (record { reply = refl; sessions = refl })
      one (inr unread) =
          subst (λ (h : Bool). Agree (unless_refused (open_rows flags (name_in s i id) (holds s.objects (name_in s i id)) (is_damaged (object_at s.objects (name_in s i id)))) s (open_handle s i (name_in s i id) flags))
          (unless_refused (open_rows flags (name_in s i id) h (is_damaged (object_at b (name_in s i id)))) (over s b) (open_handle (over s b) i (name_in s i id) flags))) (sym held)
          (opened-unread s (over s b) (open_handle s i (name_in s i id) flags) (open_handle (over s b) i (name_in s i id) flags) _ _ _ _ _ _ refl refl unread)

  -- what a call on the data of a handle's object does
  abbrev named_by : (number : ℕ) (h : Handle) → handle_at (session_at s i) number ≡ Some h → name_by s i number ≡ Some h.name
  named_by number h is = ap (option_map (λ (handle : Handle). handle.name)) is

  abbrev pub read_rows : ℕ → Handle → Contents → List (Bool × Reply)
  read_rows size h c = (list_any (meets_block h.position (h.position + length (bytes_at c.bytes h.position size))) c.bad, Corrupt) ∷ []

  not-not : (b : Bool) → not b ≡ false → b ≡ true
  not-not true is = refl
  not-not false is = absurd (true≢false is)

  -- the reply of a call by a right, where there is a handle with it
  right-reply : (right number : ℕ) (h : Handle) (done : Handle → Outcome) → handle_at (session_at s i) number ≡ Some h → has h.flags right ≡ true
      → by_right s right (handle_at (session_at s i) number) done ≡ done h
  right-reply right number h done is can =
      ap (λ (o : Option Handle). by_right s right o done) is ∙ ap (λ (c : Bool). cond c (done h) (refuse s (Misuse NoRight))) can

  handle-reply : (number : ℕ) (h : Handle) (done : Handle → Outcome) → handle_at (session_at s i) number ≡ Some h → by_handle s (handle_at (session_at s i) number) done ≡ done h
  handle-reply number h done is = ap (λ (o : Option Handle). by_handle s o done) is

  either-misuse : (name : ObjectName) (meant reply : Reply) → meant ≡ reply → (object_at b name ≡ object_at s.objects name) ⊎ (not (is_misuse meant) ≡ false)
      → (object_at b name ≡ object_at s.objects name) ⊎ (is_misuse reply ≡ true)
  either-misuse name meant reply is (inl same) = inl same
  either-misuse name meant reply is (inr unread) = inr (sym (ap is_misuse is) ∙ not-not (is_misuse meant) unread)

  agree-read : (number size : ℕ) → Matches (Read number size) (read_of s i number size).reply → Agree (read_of s i number size) (read_of (over s b) i number size)
  unfolding read_of
  agree-read number size matches =
      let done : Handle → Outcome = λ h. of_sound s (object_at s.objects h.name) (read_from s i number size h) in
      Agree-by_right s (over s b) refl read_bit (handle_at (session_at s i) number) done (λ h. of_sound (over s b) (object_at b h.name) (read_from (over s b) i number size h))
      (λ h is can. Agree-of_sound s (over s b) refl (object_at s.objects h.name) (object_at b h.name) (read_from s i number size h) (read_from (over s b) i number size h)
      (same-sizes s.objects b listed h.name)
      (either-misuse h.name _ (done h).reply (ap (λ (o : Outcome). o.reply) (right-reply read_bit number h done is can)) (matches h.name (named_by number h is)))
      (λ c. no_misuse-unless s (read_rows size h c) _ (refl, tt) refl)
      (λ c. Agree-rows s (over s b) refl (read_rows size h c) _ _ (record { reply = refl; sessions = refl })))

  agree-truncate : (number size : ℕ) → Matches (Truncate number size) (truncate_of s i number size).reply → Agree (truncate_of s i number size) (truncate_of (over s b) i number size)
  unfolding truncate_of
  agree-truncate number size matches =
      let done : Handle → Outcome = λ h. of_sound s (object_at s.objects h.name) (truncate_from s size h) in
      Agree-by_right s (over s b) refl write_bit (handle_at (session_at s i) number) done (λ h. of_sound (over s b) (object_at b h.name) (truncate_from (over s b) size h))
      (λ h is can. Agree-of_sound s (over s b) refl (object_at s.objects h.name) (object_at b h.name) (truncate_from s size h) (truncate_from (over s b) size h)
      (same-sizes s.objects b listed h.name)
      (either-misuse h.name _ (done h).reply (ap (λ (o : Outcome). o.reply) (right-reply write_bit number h done is can)) (matches h.name (named_by number h is)))
      (λ c. no_misuse-unless s (truncate_refusals c size) _ (refl, (refl, tt)) refl)
      (λ c. Agree-rows s (over s b) refl (truncate_refusals c size) _ _ (record { reply = refl; sessions = refl })))

  agree-info : (number : ℕ) → Matches (Info number) (info_of s i number).reply → Agree (info_of s i number) (info_of (over s b) i number)
  unfolding info_of
  agree-info number matches =
      let told : MachineState → Handle → Contents → Outcome = λ t h c. record { reply = InfoReply (length c.bytes) h.position h.flags c.attributes; next = t } in
      let done : Handle → Outcome = λ h. of_sound s (object_at s.objects h.name) (told s h) in
      Agree-by_handle s (over s b) refl (handle_at (session_at s i) number) done (λ h. of_sound (over s b) (object_at b h.name) (told (over s b) h))
      (λ h is. Agree-of_sound s (over s b) refl (object_at s.objects h.name) (object_at b h.name) (told s h) (told (over s b) h)
      (same-sizes s.objects b listed h.name)
      (either-misuse h.name _ (done h).reply (ap (λ (o : Outcome). o.reply) (handle-reply number h done is)) (matches h.name (named_by number h is)))
      (λ c. refl) (λ c. record { reply = refl; sessions = refl }))

  some-bytes : (bytes : List ℕ) → (length bytes == 0) ≡ false → nat_lt 0 (length bytes) ≡ true
  some-bytes [] none = absurd (true≢false none)
  some-bytes (x ∷ bytes) none = lt-ltb 0 (length (x ∷ bytes)) (omega arith)

  agree-write : (number : ℕ) (bytes : List ℕ) → Matches (Write number bytes) (write_of s i number bytes).reply → Agree (write_of s i number bytes) (write_of (over s b) i number bytes)
  unfolding write_of
  agree-write number bytes matches =
      let inner : MachineState → Handle → Outcome = λ t h. of_sound t (object_at t.objects h.name) (write_from t i number bytes h) in
      let none : MachineState → Outcome = λ t. record { reply = Done; next = t } in
      let done : Handle → Outcome = λ h. cond (length bytes == 0) (none s) (inner s h) in
      Agree-by_right s (over s b) refl write_bit (handle_at (session_at s i) number) done (λ h. cond (length bytes == 0) (none (over s b)) (inner (over s b) h))
      (λ h is can. Agree-cond s (over s b) refl (length bytes == 0) (none s) (inner s h) (none (over s b)) (inner (over s b) h) (λ _. record { reply = refl; sessions = refl })
      (λ some. Agree-of_sound s (over s b) refl (object_at s.objects h.name) (object_at b h.name) (write_from s i number bytes h) (write_from (over s b) i number bytes h)
      (same-sizes s.objects b listed h.name)
      (either-misuse h.name _ (inner s h).reply
      (ap (λ (o : Outcome). o.reply) (right-reply write_bit number h done is can ∙ cond-false (length bytes == 0) (none s) (inner s h) some))
      (written-unread _ some (matches h.name (named_by number h is))))
      (λ c. no_misuse-unless s (write_refusals c h.position (length bytes)) _ (refl, (refl, (refl, tt))) refl)
      (λ c. Agree-rows s (over s b) refl (write_refusals c h.position (length bytes)) _ _ (record { reply = refl; sessions = refl }))))
    where
      written-unread : {P : Type 0} (meant : Reply) → (length bytes == 0) ≡ false → P ⊎ ((not (is_misuse meant) && nat_lt 0 (length bytes)) ≡ false) → P ⊎ (not (is_misuse meant) ≡ false)
      written-unread meant some (inl p) = inl p
      written-unread meant some (inr unread) = inr (drop_true (not (is_misuse meant)) (ap (λ c. not (is_misuse meant) && c) (sym (some-bytes bytes some)) ∙ unread))
        where
          drop_true : (c : Bool) → (c && true) ≡ false → c ≡ false
          drop_true true is = is
          drop_true false is = refl

  abbrev sought : ℕ → ℤ → Whence → MachineState → Handle → ℕ → Outcome
  sought number offset whence t h size =
      let target = pos (seek_base whence h.position size) +ℤ offset in
      unless_refused ((int_lt (pos 4294967295) target, Refused Overflow) ∷ []) t (record { reply = Done; next = with_position t i number h (at_least_zero target) })

  sought-alike : (number : ℕ) (offset : ℤ) (whence : Whence) (h : Handle) (size : ℕ) → Agree (sought number offset whence s h size) (sought number offset whence (over s b) h size)
  sought-alike number offset whence h size =
      Agree-rows s (over s b) refl ((int_lt (pos 4294967295) (pos (seek_base whence h.position size) +ℤ offset), Refused Overflow) ∷ []) _ _ (record { reply = refl; sessions = refl })

  agree-seek : (number : ℕ) (offset : ℤ) (whence : Whence) → Agree (seek_of s i number offset whence) (seek_of (over s b) i number offset whence)
  unfolding seek_of
  agree-seek number offset whence =
      Agree-by_handle s (over s b) refl (handle_at (session_at s i) number) _ _ (λ h is. one h (size_at b h.name) (same-size s.objects b listed h.name))
    where
      one : (h : Handle) (size : ℕ) → size ≡ size_at s.objects h.name → Agree (sought number offset whence s h (size_at s.objects h.name)) (sought number offset whence (over s b) h size)
      one h size is = subst (λ (n : ℕ). Agree (sought number offset whence s h (size_at s.objects h.name)) (sought number offset whence (over s b) h n)) (sym is)
          (sought-alike number offset whence h (size_at s.objects h.name))

  -- A call is answered alike.
  pub agree : (call : Call) → Matches call (outcome_of s i call).reply → Agree (outcome_of s i call) (outcome_of (over s b) i call)
  unfolding close_of rename_of delete_of enum_new_of enum_start_of enum_next_of enum_reset_of enum_free_of
  agree (Create id flags attributes bytes) matches = agree-create id flags attributes bytes
  agree (Open id flags) matches = agree-open id flags matches
  agree (Close number) matches = Agree-by_handle s (over s b) refl (handle_at (session_at s i) number) _ _ (λ h is. record { reply = refl; sessions = refl })
  agree (Read number size) matches = agree-read number size matches
  agree (Write number bytes) matches = agree-write number bytes matches
  agree (Truncate number size) matches = agree-truncate number size matches
  agree (Seek number offset whence) matches = agree-seek number offset whence
  agree (Rename number id) matches =
      Agree-by_right s (over s b) refl write_meta_bit (handle_at (session_at s i) number) _ _
      (λ h is can. Agree-unless s (over s b) refl ((holds s.objects (name_in s i id), Refused AccessConflict) ∷ []) ((holds b (name_in s i id), Refused AccessConflict) ∷ []) _ _
      (ap (λ (c : Bool). (c, Refused AccessConflict) ∷ []) (same-holds s.objects b listed (name_in s i id))) (record { reply = refl; sessions = refl }))
  agree (Delete number) matches = Agree-by_right s (over s b) refl write_meta_bit (handle_at (session_at s i) number) _ _ (λ h is can. record { reply = refl; sessions = refl })
  agree (Info number) matches = agree-info number matches
  agree EnumNew matches = Agree-rows s (over s b) refl ((has_all (session_at s i).enumerators, Misuse TooMany) ∷ []) _ _ (record { reply = refl; sessions = refl })
  agree (EnumStart number) matches =
      Agree-by_cursor s (over s b) refl (cursor_at (session_at s i).enumerators number) _ _
      (λ c. Agree-unless (with_enumerators s i (reset (session_at s i).enumerators number)) (with_enumerators (over s b) i (reset (session_at s i).enumerators number)) refl
      ((not (list_any (is_of (session_at s i).application) s.objects), Refused ItemNotFound) ∷ []) ((not (list_any (is_of (session_at s i).application) b), Refused ItemNotFound) ∷ []) _ _
      (ap (λ (c : Bool). (not c, Refused ItemNotFound) ∷ []) (any-same (session_at s i).application)) (record { reply = refl; sessions = refl }))
  agree (EnumNext number) matches =
      Agree-by_cursor s (over s b) refl (cursor_at (session_at s i).enumerators number) _ _
      (λ c. subst (λ (o : Option (List ℕ × ℕ)). Agree (enum_gives s i number (option_map shown (next_object s.objects (session_at s i).application c))) (enum_gives (over s b) i number o))
      (sym (next-same (session_at s i).application c)) (Agree-gives s (over s b) refl i number (option_map shown (next_object s.objects (session_at s i).application c))))
  agree (EnumReset number) matches = Agree-by_cursor s (over s b) refl (cursor_at (session_at s i).enumerators number) _ _ (λ c. record { reply = refl; sessions = refl })
  agree (EnumFree number) matches = Agree-by_cursor s (over s b) refl (cursor_at (session_at s i).enumerators number) _ _ (λ c. record { reply = refl; sessions = refl })
