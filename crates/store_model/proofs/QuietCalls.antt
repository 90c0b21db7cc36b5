-- A call whose reply is no commit leaves the map of objects.
use Rattle.std.proofs.Common.{◌≡◌, ◌+◌, ◌-◌, ◌*◌, ℕ, Bool, true, false, not, ◌&&◌, List, [], ◌∷◌, ◌++◌, length, take, replicate, filter, min, max, Option, Some, None, cond, sym, ap, ◌∙◌, refl, inl, inr, true≢false, arith, append-nil, take_all, le-ltb, lt-ltb, ne_eqb, is_eq, pos, ◌+ℤ◌, int_lt}
use Rattle.std.specs.Prelude.{◌==◌, nat_lt}
use Rattle.std.specs.List.{list_any}
use Rattle.std.proofs.lemmas.Bool.{cases_eq, cond-true}
use Rattle.tee_types.specs.Rights.{has}
use Rattle.tee_types.specs.Rights.{read_bit, write_bit, write_meta_bit}
use Rattle.tee_types.specs.declared.call.Call.{Call}
use Rattle.tee_types.specs.declared.call.Call.TheVariants.{Create, Open, Close, Read, Write, Truncate, Seek, Rename, Delete, Info, EnumNew, EnumStart, EnumNext, EnumReset, EnumFree}
use Rattle.tee_types.specs.declared.reply.Reply.{Reply}
use Rattle.tee_types.specs.declared.reply.Reply.TheVariants.{Done, Misuse, Corrupt, Refused}
use Rattle.tee_types.specs.declared.reply.Reason.TheVariants.{BadHandle, BadEnumerator, NoRight, TooMany}
use Rattle.tee_types.specs.declared.reply.Code.TheVariants.{ItemNotFound, Overflow, AccessConflict}
use Rattle.enumerators.specs.declared.cursor.Cursor.{Cursor}
use Rattle.enumerators.specs.Enumeration.{cursor_at, has_all}
use Rattle.store_model.specs.declared.event.Mark.TheVariants.{Unchanged}
use Rattle.store_model.specs.declared.session.Handle.{Handle}
use Rattle.store_model.specs.Object.{Object, Contents, Sound, Damaged, object_at, changed_object, holds, size_at, size_of}
use Rattle.store_model.specs.Name.{name_cmp}
use Rattle.store_model.specs.Machine.{MachineState, Outcome, name_in, session_at, handle_at, unless_refused, refuse, by_handle, by_right, of_sound}
use Rattle.store_model.specs.Handles.{create_of, create_refusals, open_of, open_refusals, close_of}
use Rattle.store_model.specs.Data.{read_of, bytes_at, seek_base, write_of, write_from, truncate_of, truncate_from, truncate_refusals, with_contents, write_refusals, seek_of, info_of, meets_block, resized_contents}
use Rattle.store_model.specs.Naming.{rename_of, delete_of}
use Rattle.store_model.specs.Enumerating.{enum_new_of, enum_start_of, enum_next_of, enum_reset_of, enum_free_of, by_cursor, enum_gives, is_of}
use Rattle.store_model.specs.Calls.{outcome_of, state_after, is_commit, size_by}
use Rattle.store_model.specs.ReplayState.{ReplayState, is_undone, replay_after_call}
use Rattle.store_model.specs.Legal.{IsLegalAnswer, is_commit_due, mark_of}
use Rattle.store_model.specs.Legal.IsLegalAnswer.{Answered, Unavailable, Doubted, FoundCorrupt, Spent}
use Rattle.store_model.specs.Laws.{OthersKeepMaps, UnchangedMapsStay}
use Rattle.std.proofs.lemmas.Map.Steps.{set_value_same}

-- where the reply is no commit, the map of objects is left
record IsKept (s : MachineState) (commit : Reply → Bool) (outcome : Outcome) : Type 0 where
  kept : commit outcome.reply ≡ false → (outcome.next).objects ≡ s.objects

module _ (s : MachineState) (commit : Reply → Bool) where
  kept-same : (outcome : Outcome) → (outcome.next).objects ≡ s.objects → IsKept s commit outcome
  kept-same outcome same = record { kept = λ _. same }

  kept-commit : (outcome : Outcome) → commit outcome.reply ≡ true → IsKept s commit outcome
  kept-commit outcome made = record { kept = λ none. absurd (true≢false (sym made ∙ none)) }

  kept-unless : (rows : List (Bool × Reply)) (done : Outcome) → IsKept s commit done → IsKept s commit (unless_refused rows s done)
  kept-unless [] done q = q
  kept-unless ((true, reply) ∷ rows) done q = kept-same (refuse s reply) refl
  kept-unless ((false, reply) ∷ rows) done q = kept-unless rows done q

  kept-cond : (b : Bool) (one other : Outcome) → (b ≡ true → IsKept s commit one) → (b ≡ false → IsKept s commit other) → IsKept s commit (cond b one other)
  kept-cond true one other p q = p refl
  kept-cond false one other p q = q refl

  kept-handle : (handle : Option Handle) (done : Handle → Outcome) → ((h : Handle) → handle ≡ Some h → IsKept s commit (done h)) → IsKept s commit (by_handle s handle done)
  kept-handle None done q = kept-same (refuse s (Misuse BadHandle)) refl
  kept-handle (Some handle) done q = q handle refl

  kept-right : (right : ℕ) (handle : Option Handle) (done : Handle → Outcome) → ((h : Handle) → handle ≡ Some h → IsKept s commit (done h)) → IsKept s commit (by_right s right handle done)
  kept-right right None done q = kept-same (refuse s (Misuse BadHandle)) refl
  kept-right right (Some handle) done q = kept-cond (has handle.flags right) (done handle) (refuse s (Misuse NoRight)) (λ _. q handle refl) (λ _. kept-same (refuse s (Misuse NoRight)) refl)

  kept-sound : (object : Option Object) (done : Contents → Outcome) → ((c : Contents) → object ≡ Some (Sound c) → IsKept s commit (done c)) → IsKept s commit (of_sound s object done)
  kept-sound None done q = kept-same (refuse s (Misuse BadHandle)) refl
  kept-sound (Some (Damaged n)) done q = kept-same (refuse s Corrupt) refl
  kept-sound (Some (Sound contents)) done q = q contents refl

  kept-cursor : (cursor : Option Cursor) (done : Cursor → Outcome) → ((c : Cursor) → IsKept s commit (done c)) → IsKept s commit (by_cursor s cursor done)
  kept-cursor None done q = kept-same (refuse s (Misuse BadEnumerator)) refl
  kept-cursor (Some cursor) done q = q cursor

  kept-gives : (i number : ℕ) (next : Option (List ℕ × ℕ)) → IsKept s commit (enum_gives s i number next)
  kept-gives i number None = kept-same (refuse s (Refused ItemNotFound)) refl
  kept-gives i number (Some (id, size)) = kept-same _ refl

  -- a start that may find no object
  kept-found : (lacks : Bool) (reset : MachineState) (done : Outcome) → reset.objects ≡ s.objects → (done.next).objects ≡ s.objects
      → IsKept s commit (unless_refused ((lacks, Refused ItemNotFound) ∷ []) reset done)
  kept-found true reset done r d = kept-same (refuse reset (Refused ItemNotFound)) r
  kept-found false reset done r d = kept-same done d

-- the same size leaves the contents
filter-same : (p : ℕ → Bool) (xs : List ℕ) → ((x : ℕ) → p x ≡ true) → filter p xs ≡ xs
filter-same p [] all = refl
filter-same p (x ∷ xs) all = cond-true (p x) (x ∷ filter p xs) (filter p xs) (all x) ∙ ap (λ l. x ∷ l) (filter-same p xs all)

misses-same : (n k : ℕ) → not (meets_block (min n n) (max n n) k) ≡ true
misses-same n k =
    let a : min n n ≡ n = omega arith in
    let b : max n n ≡ n = omega arith in
    let off : nat_lt n n ≡ false = le-ltb n n (omega arith) in
    ap (λ m. not (meets_block m (max n n) k)) a ∙ ap (λ m. not (meets_block n m k)) b
    ∙ ap (λ x. not ((x && nat_lt (4096 * (k - 1)) n) && nat_lt n (4096 * k))) off

resized-same : (c : Contents) (n : ℕ) → n ≡ length c.bytes → resized_contents c n ≡ c
resized-same c n is =
    let whole : take n c.bytes ≡ c.bytes = take_all n c.bytes (omega (arith, is)) in
    let none : n - length c.bytes ≡ 0 = omega (arith, is) in
    let bytes : take n c.bytes ++ replicate (n - length c.bytes) 0 ≡ c.bytes =
    ap (λ m. take n c.bytes ++ replicate m 0) none ∙ append-nil (take n c.bytes) ∙ whole in
    let bad : filter (λ k. not (meets_block (min n (length c.bytes)) (max n (length c.bytes)) k)) c.bad ≡ c.bad =
    ap (λ m. filter (λ k. not (meets_block (min n m) (max n m) k)) c.bad) (sym is) ∙ filter-same _ c.bad (misses-same n) in
    λ j. record c { bytes = bytes j; bad = bad j }

-- a truncate to the size that the object has leaves it
truncate_done : (s : MachineState) (i number size : ℕ) (h : Handle) (c : Contents) → handle_at (session_at s i) number ≡ Some h → object_at s.objects h.name ≡ Some (Sound c)
    → IsKept s (is_commit s i (Truncate number size)) (truncate_from s size h c)
truncate_done s i number size h c is found =
    kept-unless s (is_commit s i (Truncate number size)) (truncate_refusals c size) (record { reply = Done; next = with_contents s h (resized_contents c size) })
    (record {
      kept = λ none.
          let found_size : size_at s.objects h.name ≡ length c.bytes = ap (λ (o : Option Object). elim o [ Some object ↦ size_of object | None ↦ 0 ]) found in
          let was : size_by s.objects (handle_at (session_at s i) number) ≡ length c.bytes = ap (size_by s.objects) is ∙ found_size in
          let same : size ≡ length c.bytes = elim (cases_eq size (size_by s.objects (handle_at (session_at s i) number))) [
            | inl e ↦ e ∙ was
            | inr other ↦ absurd (true≢false (sym (ap not (ne_eqb size (size_by s.objects (handle_at (session_at s i) number)) other)) ∙ none))
          ] in
          ap (λ (x : Contents). changed_object s.objects h.name (Sound x)) (resized-same c size same)
          ∙ set_value_same (λ n. is_eq (name_cmp h.name n)) s.objects (Sound c) found;
    })

truncate_kept : (s : MachineState) (i number size : ℕ) → IsKept s (is_commit s i (Truncate number size)) (outcome_of s i (Truncate number size))
unfolding truncate_of
truncate_kept s i number size =
    kept-right s (is_commit s i (Truncate number size)) write_bit (handle_at (session_at s i) number) (λ h. of_sound s (object_at s.objects h.name) (truncate_from s size h))
    (λ h is. kept-sound s (is_commit s i (Truncate number size)) (object_at s.objects h.name) (truncate_from s size h) (λ c found. truncate_done s i number size h c is found))

-- a write of some bytes that is done is a commit
some-commit : (bytes : List ℕ) → (length bytes == 0) ≡ false → nat_lt 0 (length bytes) ≡ true
some-commit [] none = absurd (true≢false none)
some-commit (x ∷ bytes) none = lt-ltb 0 (length (x ∷ bytes)) (omega arith)

write_kept : (s : MachineState) (i number : ℕ) (bytes : List ℕ) → IsKept s (is_commit s i (Write number bytes)) (outcome_of s i (Write number bytes))
unfolding write_of
write_kept s i number bytes =
    let commit : Reply → Bool = is_commit s i (Write number bytes) in
    kept-right s commit write_bit (handle_at (session_at s i) number)
    (λ h. cond (length bytes == 0) (record { reply = Done; next = s }) (of_sound s (object_at s.objects h.name) (write_from s i number bytes h)))
    (λ h _. kept-cond s commit (length bytes == 0) (record { reply = Done; next = s }) (of_sound s (object_at s.objects h.name) (write_from s i number bytes h)) (λ _. kept-same s commit (record { reply = Done; next = s }) refl)
    (λ some_. kept-sound s commit (object_at s.objects h.name) (write_from s i number bytes h)
    (λ c _. kept-unless s commit (write_refusals c h.position (length bytes)) _ (kept-commit s commit _ (some-commit bytes some_)))))

kept_call : (s : MachineState) (i : ℕ) (call : Call) → IsKept s (is_commit s i call) (outcome_of s i call)
unfolding create_of open_of close_of read_of seek_of info_of rename_of delete_of enum_new_of enum_start_of enum_next_of enum_reset_of enum_free_of
kept_call s i (Create id flags attributes bytes) =
    kept-unless s _ (create_refusals s i (name_in s i id) flags attributes bytes) _ (kept-commit s _ _ refl)
kept_call s i (Open id flags) = kept-unless s _ (open_refusals s i (name_in s i id) flags) _ (kept-same s _ _ refl)
kept_call s i (Close number) = kept-handle s _ (handle_at (session_at s i) number) _ (λ h _. kept-same s _ _ refl)
kept_call s i (Read number size) =
    kept-right s _ read_bit (handle_at (session_at s i) number) _
    (λ h _. kept-sound s _ (object_at s.objects h.name) _
    (λ c _. kept-unless s _ ((list_any (meets_block h.position (h.position + length (bytes_at c.bytes h.position size))) c.bad, Corrupt) ∷ []) _ (kept-same s _ _ refl)))
kept_call s i (Write number bytes) = write_kept s i number bytes
kept_call s i (Truncate number size) = truncate_kept s i number size
kept_call s i (Seek number offset whence) =
    kept-handle s _ (handle_at (session_at s i) number) _
    (λ h _. kept-unless s _ ((int_lt (pos 4294967295) (pos (seek_base whence h.position (size_at s.objects h.name)) +ℤ offset), Refused Overflow) ∷ []) _ (kept-same s _ _ refl))
kept_call s i (Rename number id) =
    kept-right s _ write_meta_bit (handle_at (session_at s i) number) _
    (λ h _. kept-unless s _ ((holds s.objects (name_in s i id), Refused AccessConflict) ∷ []) _ (kept-commit s _ _ refl))
kept_call s i (Delete number) = kept-right s _ write_meta_bit (handle_at (session_at s i) number) _ (λ h _. kept-commit s _ _ refl)
kept_call s i (Info number) =
    kept-handle s _ (handle_at (session_at s i) number) _ (λ h _. kept-sound s _ (object_at s.objects h.name) _ (λ c _. kept-same s _ _ refl))
kept_call s i EnumNew = kept-unless s _ ((has_all (session_at s i).enumerators, Misuse TooMany) ∷ []) _ (kept-same s _ _ refl)
kept_call s i (EnumStart number) =
    kept-cursor s _ (cursor_at (session_at s i).enumerators number) _
    (λ c. kept-found s _ (not (list_any (is_of (session_at s i).application) s.objects)) _ _ refl refl)
kept_call s i (EnumNext number) = kept-cursor s _ (cursor_at (session_at s i).enumerators number) _ (λ c. kept-gives s _ i number _)
kept_call s i (EnumReset number) = kept-cursor s _ (cursor_at (session_at s i).enumerators number) _ (λ c. kept-same s _ _ refl)
kept_call s i (EnumFree number) = kept-cursor s _ (cursor_at (session_at s i).enumerators number) _ (λ c. kept-same s _ _ refl)

pub others_keep_maps : OthersKeepMaps
others_keep_maps s i call none = (kept_call s i call).kept none

module _ (s : ReplayState) (session : ℕ) (call : Call) (file : Option ℕ) where
  -- where the machine does not commit, an event that is no commit leaves the map, whatever it replies
  quiet_reply : (reply : Reply) → is_commit_due s session call ≡ false → ((replay_after_call s session call reply Unchanged file).state).objects ≡ (s.state).objects
  quiet_reply reply none = elim (is_undone reply) as (λ (b : Bool). (elim b as (λ _. MachineState) [ true ↦ s.state | false ↦ state_after s.state session call ]).objects ≡ (s.state).objects) [
    | true ↦ refl
    | false ↦ (kept_call s.state session call).kept none
  ]

  -- a call that is not done leaves the state
  undone_reply : (reply : Reply) → is_undone reply ≡ true → ((replay_after_call s session call reply Unchanged file).state).objects ≡ (s.state).objects
  undone_reply reply undone = ap (λ (b : Bool). (elim b as (λ _. MachineState) [ true ↦ s.state | false ↦ state_after s.state session call ]).objects) undone

  unmade : (b : Bool) (counter : ℕ) → Unchanged ≡ mark_of counter b → b ≡ false
  unmade true counter is = absurd (cc (is))
  unmade false counter is = refl

  quiet_call : (tampered : List ℕ) (reply : Reply) → IsLegalAnswer tampered s session call reply Unchanged file
      → ((replay_after_call s session call reply Unchanged file).state).objects ≡ (s.state).objects
  quiet_call tampered reply (Answered answered) = quiet_reply reply (unmade (is_commit_due s session call) s.counter answered.marked)
  quiet_call tampered reply (Unavailable unavailable) = undone_reply reply (ap is_undone unavailable.replied)
  quiet_call tampered reply (Doubted doubted) = absurd (cc (doubted.marked))
  quiet_call tampered reply (FoundCorrupt corrupt) = undone_reply reply (ap is_undone corrupt.replied)
  quiet_call tampered reply (Spent spent) = undone_reply reply (ap is_undone spent.replied)

pub unchanged_maps_stay : UnchangedMapsStay
unchanged_maps_stay tampered s session call reply file legal = quiet_call s session call file tampered reply legal.answer
