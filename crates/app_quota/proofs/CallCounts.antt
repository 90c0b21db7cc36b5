-- How many objects of some applications a call leaves.
use Rattle.std.proofs.Common.{◌≡◌, ◌⊎◌, ℕ, ◌+◌, ◌≤◌, Bool, true, false, cond, List, [], ◌∷◌, length, filter, refl, sym, ap, ◌∙◌, inl, inr, Some, None, arith}
use Rattle.std.specs.declared.cmp.Ordering.TheVariants.{Less, Equal, Greater}
use Rattle.std.specs.Ordering.{match_ordering}
use Rattle.std.specs.Map.{set_value, remove_entry}
use Rattle.std.specs.BTreeMap.{insert_entry}
use Rattle.tee_types.specs.declared.call.Call.{Call}
use Rattle.tee_types.specs.declared.call.Call.TheVariants.{Create, Open, Close, Read, Write, Truncate, Seek, Rename, Delete, Info, EnumNew, EnumStart, EnumNext, EnumReset, EnumFree}
use Rattle.store_model.specs.declared.name.ObjectName.{ObjectName}
use Rattle.store_model.specs.Name.{name_cmp}
use Rattle.store_model.specs.Object.{Object, Sound, ObjectMap, object_at, with_object, without_object, moved_object}
use Rattle.store_model.specs.Machine.{MachineState, session_at, name_in}
use Rattle.store_model.specs.Calls.{is_commit, reply_of, state_after}
use Rattle.store_model.specs.Makes.{MapChange, changed_map, MakesChange}
use Rattle.store_model.specs.Makes.MapChange.{Put, Change, Move, Remove}
use Rattle.store_model.proofs.Maps.{at, insert_entry-less, insert_entry-equal, insert_entry-greater}
use Rattle.store_model.proofs.MadeChanges.{commits_make_changes}
use Rattle.store_model.proofs.QuietCalls.{others_keep_maps}
use Rattle.app_totals.specs.OwnHandles.{HasOwnHandles, HaveOwnHandles}
use Rattle.app_totals.specs.Meant.{meant_objects}
use Rattle.app_totals.proofs.Names.{alike_apps}
use Rattle.app_totals.proofs.MeantCreates.{handles_are_granted}
use Rattle.app_totals.proofs.OwnHandles.{any_session_has, handle_has}

-- the objects of some applications
module _ (f : List ℕ → Bool) where
  abbrev pub some_of : ObjectMap → ObjectMap
  some_of m = filter (λ e. f (e.0).app) m

  some-at : (b : Bool) (e : ObjectName × Object) (m : ObjectMap) → f (e.0).app ≡ b → length (some_of (e ∷ m)) ≡ length (cond b (e ∷ some_of m) (some_of m))
  some-at b e m h = ap (λ c. length (cond c (e ∷ some_of m) (some_of m))) h

  put-other : (name : ObjectName) (x : Object) → f name.app ≡ false → (m : ObjectMap) → length (some_of (insert_entry name_cmp m name x)) ≡ length (some_of m)
  put-other name x other [] = some-at false (name, x) [] other
  put-other name x other (e ∷ m) = (elim (name_cmp name e.0) as (λ o. name_cmp name e.0 ≡ o → length (some_of (insert_entry name_cmp (e ∷ m) name x)) ≡ length (some_of (e ∷ m))) [
    | Less ↦ λ h. ap (λ l. length (some_of l)) (insert_entry-less name x e m h) ∙ some-at false (name, x) (e ∷ m) other
    | Equal ↦ λ h. ap (λ l. length (some_of l)) (insert_entry-equal name x e m h) ∙ (elim (f (e.0).app) as (λ b. length (cond b ((e.0, x) ∷ some_of m) (some_of m)) ≡ length (cond b (e ∷ some_of m) (some_of m))) [ true ↦ refl | false ↦ refl ])
    | Greater ↦ λ h.
        let rest = put-other name x other m in
        ap (λ l. length (some_of l)) (insert_entry-greater name x e m h)
        ∙ (elim (f (e.0).app) as (λ b. length (cond b (e ∷ some_of (insert_entry name_cmp m name x)) (some_of (insert_entry name_cmp m name x))) ≡ length (cond b (e ∷ some_of m) (some_of m))) [ true ↦ omega (arith, rest) | false ↦ rest ])
  ]) refl

  put-more : (name : ObjectName) (x : Object) (m : ObjectMap) → length (some_of (insert_entry name_cmp m name x)) ≤ length (some_of m) + 1
  put-more name x [] = elim (f name.app) as (λ b. length {A = ObjectName × Object} (cond b ((name, x) ∷ []) []) ≤ 1) [ true ↦ omega arith | false ↦ omega arith ]
  put-more name x (e ∷ m) = elim (name_cmp name e.0) as (λ o. length (some_of (match_ordering o ((name, x) ∷ e ∷ m) ((e.0, x) ∷ m) (e ∷ insert_entry name_cmp m name x))) ≤ length (some_of (e ∷ m)) + 1) [
    | Less ↦ elim (f name.app) as (λ b. length (cond b ((name, x) ∷ some_of (e ∷ m)) (some_of (e ∷ m))) ≤ length (some_of (e ∷ m)) + 1) [ true ↦ omega arith | false ↦ omega arith ]
    | Equal ↦ elim (f (e.0).app) as (λ b. length (cond b ((e.0, x) ∷ some_of m) (some_of m)) ≤ length (cond b (e ∷ some_of m) (some_of m)) + 1) [ true ↦ omega arith | false ↦ omega arith ]
    | Greater ↦
        let rest = put-more name x m in
        elim (f (e.0).app) as (λ b. length (cond b (e ∷ some_of (insert_entry name_cmp m name x)) (some_of (insert_entry name_cmp m name x))) ≤ length (cond b (e ∷ some_of m) (some_of m)) + 1) [ true ↦ omega (arith, rest) | false ↦ omega (arith, rest) ]
  ]

  change-same : (test : ObjectName → Bool) (x : Object) (m : ObjectMap) → length (some_of (set_value test m x)) ≡ length (some_of m)
  change-same test x [] = refl
  change-same test x (e ∷ m) =
      let rest = change-same test x m in
      elim (test e.0) as (λ c. length (some_of (cond c ((e.0, x) ∷ m) (e ∷ set_value test m x))) ≡ length (some_of (e ∷ m))) [
        | true ↦ elim (f (e.0).app) as (λ b. length (cond b ((e.0, x) ∷ some_of m) (some_of m)) ≡ length (cond b (e ∷ some_of m) (some_of m))) [ true ↦ refl | false ↦ refl ]
        | false ↦ elim (f (e.0).app) as (λ b. length (cond b (e ∷ some_of (set_value test m x)) (some_of (set_value test m x))) ≡ length (cond b (e ∷ some_of m) (some_of m))) [ true ↦ omega (arith, rest) | false ↦ rest ]
      ]

  remove-less : (test : ObjectName → Bool) (m : ObjectMap) → length (some_of (remove_entry test m)) ≤ length (some_of m)
  remove-less test [] = omega arith
  remove-less test (e ∷ m) =
      let rest = remove-less test m in
      elim (test e.0) as (λ c. length (some_of (cond c m (e ∷ remove_entry test m))) ≤ length (some_of (e ∷ m))) [
        | true ↦ elim (f (e.0).app) as (λ b. length (some_of m) ≤ length (cond b (e ∷ some_of m) (some_of m))) [ true ↦ omega arith | false ↦ omega arith ]
        | false ↦ elim (f (e.0).app) as (λ b. length (cond b (e ∷ some_of (remove_entry test m)) (some_of (remove_entry test m))) ≤ length (cond b (e ∷ some_of m) (some_of m))) [ true ↦ omega (arith, rest) | false ↦ omega (arith, rest) ]
      ]

  -- one that is counted goes
  remove-held : (name : ObjectName) (x : Object) → f name.app ≡ true → (m : ObjectMap) → object_at m name ≡ Some x → length (some_of (remove_entry (at name) m)) + 1 ≤ length (some_of m)
  remove-held name x mine [] found = absurd (cc (found))
  remove-held name x mine (e ∷ m) found = (elim (at name e.0) as (λ c. at name e.0 ≡ c → cond c (Some e.1) (object_at m name) ≡ Some x → length (some_of (cond c m (e ∷ remove_entry (at name) m))) + 1 ≤ length (some_of (e ∷ m))) [
    | true ↦ λ hit _.
        let its : f (e.0).app ≡ true = ap f (sym (alike_apps name e.0 hit)) ∙ mine in
        let long = some-at true e m its in
        omega (arith, long)
    | false ↦ λ miss found.
        let rest = remove-held name x mine m found in
        elim (f (e.0).app) as (λ b. length (cond b (e ∷ some_of (remove_entry (at name) m)) (some_of (remove_entry (at name) m))) + 1 ≤ length (cond b (e ∷ some_of m) (some_of m))) [ true ↦ omega (arith, rest) | false ↦ omega (arith, rest) ]
  ]) refl found

  -- one that has another name of its application
  move-less : (old new : ObjectName) → new.app ≡ old.app → (m : ObjectMap) → length (some_of (moved_object m old new)) ≤ length (some_of m)
  move-less old new same m = (elim (object_at m old) as (λ o. object_at m old ≡ o → length (some_of (elim o [ Some object ↦ with_object (without_object m old) new object | None ↦ m ])) ≤ length (some_of m)) [
    | Some x ↦ λ found. (elim (f old.app) as (λ b. f old.app ≡ b → length (some_of (insert_entry name_cmp (without_object m old) new x)) ≤ length (some_of m)) [
      | true ↦ λ mine.
          let less = remove-held old x mine m found in
          let more = put-more new x (without_object m old) in
          omega (arith, less, more)
      | false ↦ λ other.
          let less = remove-less (at old) m in
          let kept = put-other new x (ap f same ∙ other) (without_object m old) in
          omega (arith, less, kept)
    ]) refl
    | None ↦ λ none. omega arith
  ]) refl

  -- what a call leaves of them: no more, or it is a create that is granted
  Leaves : MachineState → ℕ → Call → Type 0
  Leaves s i call =
      (length (some_of (state_after s i call).objects) ≤ length (some_of s.objects)) ⊎ ((f (session_at s i).application ≡ true) × ((state_after s i call).objects ≡ meant_objects s i call))

  leaves-put : (s : MachineState) (i : ℕ) (call : Call) (name : ObjectName) (x : Object) → is_commit s i call (reply_of s i call) ≡ true → MakesChange s i call (Put name x) → (state_after s i call).objects ≡ with_object s.objects name x → Leaves s i call
  unfolding Leaves
  leaves-put s i (Create id flags attributes bytes) name x commit makes leaves = (elim (f (session_at s i).application) as (λ b. f (session_at s i).application ≡ b → Leaves s i (Create id flags attributes bytes)) [
    | true ↦ λ mine. inr (
      mine,
      leaves ∙ (λ k. with_object s.objects (makes.0 k) (makes.1 k))
          ∙ ap (λ b. cond b (with_object s.objects (name_in s i id) (Sound (record { attributes = attributes; bytes = bytes; bad = [] }))) s.objects) (sym (handles_are_granted s i id flags attributes bytes commit)),
    )
    | false ↦ λ other.
        let same = put-other name x (ap (λ (n : ObjectName). f n.app) makes.0 ∙ other) s.objects in
        let all = ap (λ (m : ObjectMap). length (some_of m)) leaves in
        inl (omega (arith, same, all))
  ]) refl
  leaves-put s i (Open id flags) name x commit makes leaves = absurd makes
  leaves-put s i (Close handle) name x commit makes leaves = absurd makes
  leaves-put s i (Read handle size) name x commit makes leaves = absurd makes
  leaves-put s i (Write handle bytes) name x commit makes leaves = absurd makes
  leaves-put s i (Truncate handle size) name x commit makes leaves = absurd makes
  leaves-put s i (Seek handle offset whence) name x commit makes leaves = absurd makes
  leaves-put s i (Rename handle id) name x commit makes leaves = absurd makes
  leaves-put s i (Delete handle) name x commit makes leaves = absurd makes
  leaves-put s i (Info handle) name x commit makes leaves = absurd makes
  leaves-put s i EnumNew name x commit makes leaves = absurd makes
  leaves-put s i (EnumStart number) name x commit makes leaves = absurd makes
  leaves-put s i (EnumNext number) name x commit makes leaves = absurd makes
  leaves-put s i (EnumReset number) name x commit makes leaves = absurd makes
  leaves-put s i (EnumFree number) name x commit makes leaves = absurd makes

  -- a rename is from a name of the session's application to another of it
  same_app : (s : MachineState) (i : ℕ) (call : Call) (old new : ObjectName) → HaveOwnHandles s → MakesChange s i call (Move old new) → new.app ≡ old.app
  same_app s i (Rename handle id) old new handles makes =
      ap (λ (n : ObjectName). n.app) makes.1
      ∙ sym (handle_has (λ h. h.name.app ≡ (session_at s i).application) handle (session_at s i).handles (makes.0).handle (any_session_has HasOwnHandles s.sessions i tt handles) (makes.0).live)
      ∙ ap (λ (n : ObjectName). n.app) (makes.0).named
  same_app s i (Create id flags attributes bytes) old new handles makes = absurd makes
  same_app s i (Open id flags) old new handles makes = absurd makes
  same_app s i (Close handle) old new handles makes = absurd makes
  same_app s i (Read handle size) old new handles makes = absurd makes
  same_app s i (Write handle bytes) old new handles makes = absurd makes
  same_app s i (Truncate handle size) old new handles makes = absurd makes
  same_app s i (Seek handle offset whence) old new handles makes = absurd makes
  same_app s i (Delete handle) old new handles makes = absurd makes
  same_app s i (Info handle) old new handles makes = absurd makes
  same_app s i EnumNew old new handles makes = absurd makes
  same_app s i (EnumStart number) old new handles makes = absurd makes
  same_app s i (EnumNext number) old new handles makes = absurd makes
  same_app s i (EnumReset number) old new handles makes = absurd makes
  same_app s i (EnumFree number) old new handles makes = absurd makes

  leaves-change : (s : MachineState) (i : ℕ) (call : Call) (change : MapChange) → HaveOwnHandles s → is_commit s i call (reply_of s i call) ≡ true → MakesChange s i call change → (state_after s i call).objects ≡ changed_map change s.objects → Leaves s i call
  unfolding Leaves
  leaves-change s i call (Put name x) handles commit makes leaves = leaves-put s i call name x commit makes leaves
  leaves-change s i call (Change name x) handles commit makes leaves =
      let same = change-same (at name) x s.objects in
      let all = ap (λ (m : ObjectMap). length (some_of m)) leaves in
      inl (omega (arith, same, all))
  leaves-change s i call (Move old new) handles commit makes leaves =
      let less = move-less old new (same_app s i call old new handles makes) s.objects in
      let all = ap (λ (m : ObjectMap). length (some_of m)) leaves in
      inl (omega (arith, less, all))
  leaves-change s i call (Remove name) handles commit makes leaves =
      let less = remove-less (at name) s.objects in
      let all = ap (λ (m : ObjectMap). length (some_of m)) leaves in
      inl (omega (arith, less, all))

  pub leaves_some : (s : MachineState) (i : ℕ) (call : Call) → HaveOwnHandles s
      → (length (some_of (state_after s i call).objects) ≤ length (some_of s.objects)) ⊎ ((f (session_at s i).application ≡ true) × ((state_after s i call).objects ≡ meant_objects s i call))
  unfolding Leaves
  leaves_some s i call handles = (elim (is_commit s i call (reply_of s i call)) as (λ b. is_commit s i call (reply_of s i call) ≡ b → Leaves s i call) [
    | true ↦ λ commit. let made = commits_make_changes s i call commit in leaves-change s i call made.0 handles commit made.1.makes made.1.leaves
    | false ↦ λ none.
        let all = ap (λ (m : ObjectMap). length (some_of m)) (others_keep_maps s i call none) in
        inl (omega (arith, all))
  ]) refl
