-- What single calls leave their application.
use Rattle.std.proofs.Common.{◌≡◌, ◌+◌, ◌-◌, ◌≤◌, ℕ, Bool, true, false, true≢false, cond, ◌||◌, List, [], ◌∷◌, refl, sym, ap, ◌∙◌, Option, Some, None, is_some, arith}
use Rattle.std.specs.Prelude.{nat_lt, sum_by}
use Rattle.std.proofs.lemmas.Bool.Decides.{nat_tests}
use Rattle.std.specs.Ordering.{is_eq}
use Rattle.std.specs.Map.{keys_of, remove_entry}
use Rattle.std.specs.List.Sorted.{IsStrictlySortedBy}
use Rattle.tee_types.specs.Identifier.{bytes_cmp}
use Rattle.tee_types.specs.declared.call.Call.{Call}
use Rattle.tee_types.specs.declared.call.Call.TheVariants.{Create, Open, Close, Read, Write, Truncate, Seek, Rename, Delete, Info, EnumNew, EnumStart, EnumNext, EnumReset, EnumFree}
use Rattle.store_model.specs.declared.name.ObjectName.{ObjectName}
use Rattle.store_model.specs.Name.{name_cmp}
use Rattle.store_model.specs.Object.{Object, ObjectMap, size_of, object_at, holds, with_object, without_object, changed_object, moved_object}
use Rattle.store_model.specs.Machine.{MachineState, session_at, name_in}
use Rattle.store_model.specs.Calls.{reply_of, state_after, is_commit}
use Rattle.store_model.proofs.Maps.{at}
use Rattle.store_model.proofs.CloseCommits.{rename-left, delete-left}
use Rattle.store_model.proofs.QuietCalls.{others_keep_maps}
use Rattle.app_totals.specs.declared.numbers.Totals.{Totals}
use Rattle.app_totals.specs.Totals.{totals_of}
use Rattle.app_totals.specs.Meant.{sound_state, held_by, raised, grown, resized_totals, may_grow}
use Rattle.app_totals.specs.OwnHandles.{HasOwnHandles}
use Rattle.app_totals.proofs.Names.{itself}
use Rattle.app_totals.proofs.OwnHandles.{handle_has}
use Rattle.app_totals.proofs.Listings.{totals_of-listing, listing-sound}
use Rattle.app_totals.proofs.Weights.{with-held, weigh-changed, weigh-with, weigh-without, weigh-without-le, one_of, bytes_in, one_of-by_name, bytes_in-by_name, totals-weigh}

not_less : (a b : ℕ) → b ≤ a → nat_lt a b ≡ false
not_less a b le = grind (arith, nat_tests)

less : (a b : ℕ) → a + 1 ≤ b → nat_lt a b ≡ true
less a b lt = grind (arith, nat_tests)

-- what is left where no number rises, where bytes do, and where an object comes
pub raised-none : (before after : Totals) → after.objects ≤ before.objects → after.bytes ≤ before.bytes → raised before after ≡ None
raised-none before after objects bytes k =
    cond (not_less before.objects after.objects objects k || not_less before.bytes after.bytes bytes k) (Some after) None

pub raised-more : (before after : Totals) (n : ℕ) → after.objects ≡ before.objects + 1 → after.bytes ≡ before.bytes + n
    → raised before after ≡ Some (record { objects = before.objects + 1; bytes = before.bytes + n })
raised-more before after n objects bytes =
    ap (λ b. cond (b || nat_lt before.bytes after.bytes) (Some after) None) (less before.objects after.objects (omega (arith, objects)))
    ∙ (λ k. Some (record { objects = objects k; bytes = bytes k }))

pub raised-resized : (before after : Totals) (old new : ℕ) → after.objects ≡ before.objects → after.bytes + old ≡ before.bytes + new → raised before after ≡ resized_totals before old new
raised-resized before after old new objects bytes = (elim (nat_lt old new) as (λ b. nat_lt old new ≡ b → raised before after ≡ cond b (Some (record before { bytes = before.bytes + (new - old) })) None) [
  | true ↦ λ h.
      let lt : old + 1 ≤ new = grind (arith, nat_tests, h) in
      let more : after.bytes ≡ before.bytes + (new - old) = omega (arith, lt, bytes) in
      let rises : before.bytes + 1 ≤ after.bytes = omega (arith, lt, bytes) in
      (λ k. cond (not_less before.objects after.objects (omega (arith, objects)) k || less before.bytes after.bytes rises k) (Some after) None)
      ∙ (λ k. Some (record { objects = objects k; bytes = more k }))
  | false ↦ λ h.
      let le : new ≤ old = grind (arith, nat_tests, h) in
      raised-none before after (omega (arith, objects)) (omega (arith, bytes, le))
]) refl

-- what is not held stays so where another one goes
none-without : (name : ObjectName) (test : ObjectName → Bool) (m : ObjectMap) → holds m name ≡ false → holds (remove_entry test m) name ≡ false
none-without name test [] free = refl
none-without name test (e ∷ m) free = (elim (at name e.0) as (λ b. at name e.0 ≡ b → is_some (cond b (Some e.1) (object_at m name)) ≡ false → holds (cond (test e.0) m (e ∷ remove_entry test m)) name ≡ false) [
  | true ↦ λ hit held. absurd (true≢false held)
  | false ↦ λ miss off. elim (test e.0) as (λ b. holds (cond b m (e ∷ remove_entry test m)) name ≡ false) [
    | true ↦ off
    | false ↦ ap (λ b. is_some (cond b (Some e.1) (object_at (remove_entry test m) name))) miss ∙ none-without name test m off
  ]
]) refl free

module _ (app : List ℕ) where
  abbrev weigh : ObjectMap → Totals
  weigh m = record { objects = sum_by (one_of app) m; bytes = sum_by (bytes_in app) m }

  abbrev IsOwn : ObjectName → Type 0
  IsOwn name = is_eq (bytes_cmp app name.app) ≡ true

  own_one : (name : ObjectName) (x : Object) → IsOwn name → one_of app (name, x) ≡ 1
  own_one name x its = ap (λ b. cond b 1 0) its

  own_bytes : (name : ObjectName) (x : Object) → IsOwn name → bytes_in app (name, x) ≡ size_of x
  own_bytes name x its = ap (λ b. cond b (size_of x) 0) its

  by_weights : (a b : ObjectMap) → raised (totals_of app a) (totals_of app b) ≡ raised (weigh a) (weigh b)
  by_weights a b k = raised (totals-weigh app a k) (totals-weigh app b k)

  -- an own object is another one
  pub raised-changed : (m : ObjectMap) (name : ObjectName) (old x : Object) → IsOwn name → object_at m name ≡ Some old
      → raised (totals_of app m) (totals_of app (changed_object m name x)) ≡ resized_totals (totals_of app m) (size_of old) (size_of x)
  raised-changed m name old x its found =
      let objects = weigh-changed (one_of app) (one_of-by_name app) name old x m found in
      let bytes = weigh-changed (bytes_in app) (bytes_in-by_name app) name old x m found in
      let one_old = own_one name old its in
      let one_new = own_one name x its in
      let was = own_bytes name old its in
      let now = own_bytes name x its in
      by_weights m (changed_object m name x)
      ∙ raised-resized (weigh m) (weigh (changed_object m name x)) (size_of old) (size_of x) (omega (arith, objects, one_old, one_new)) (omega (arith, bytes, was, now))
      ∙ ap (λ (t : Totals). resized_totals t (size_of old) (size_of x)) (sym (totals-weigh app m))

  -- an own object comes
  pub raised-with : (m : ObjectMap) (name : ObjectName) (x : Object) → IsOwn name → holds m name ≡ false
      → raised (totals_of app m) (totals_of app (with_object m name x)) ≡ Some (record { objects = (totals_of app m).objects + 1; bytes = (totals_of app m).bytes + size_of x })
  raised-with m name x its free =
      let objects = weigh-with (one_of app) (one_of-by_name app) name x m free in
      let bytes = weigh-with (bytes_in app) (bytes_in-by_name app) name x m free in
      let one = own_one name x its in
      let now = own_bytes name x its in
      by_weights m (with_object m name x)
      ∙ raised-more (weigh m) (weigh (with_object m name x)) (size_of x) (omega (arith, objects, one)) (omega (arith, bytes, now))
      ∙ ap (λ (t : Totals). Some (record { objects = t.objects + 1; bytes = t.bytes + size_of x })) (sym (totals-weigh app m))

  -- an own object takes the place of another one
  pub raised-held : (m : ObjectMap) (name : ObjectName) (old x : Object) → IsStrictlySortedBy name_cmp (keys_of m) → IsOwn name → object_at m name ≡ Some old
      → raised (totals_of app m) (totals_of app (with_object m name x)) ≡ resized_totals (totals_of app m) (size_of old) (size_of x)
  raised-held m name old x rising its found =
      ap (λ (l : ObjectMap). raised (totals_of app m) (totals_of app l)) (with-held name x old m rising found) ∙ raised-changed m name old x its found

  -- objects go
  raised-without : (m : ObjectMap) (name : ObjectName) → raised (totals_of app m) (totals_of app (without_object m name)) ≡ None
  raised-without m name =
      by_weights m (without_object m name)
      ∙ raised-none (weigh m) (weigh (without_object m name)) (weigh-without-le (one_of app) (one_of-by_name app) (at name) m) (weigh-without-le (bytes_in app) (bytes_in-by_name app) (at name) m)

  -- an own object gets another own name
  raised-moved : (m : ObjectMap) (old new : ObjectName) → IsOwn old → IsOwn new → holds m new ≡ false → raised (totals_of app m) (totals_of app (moved_object m old new)) ≡ None
  raised-moved m old new was its free = one (object_at m old) refl
    where
      moved : Option Object → ObjectMap
      moved o = elim o [ Some object ↦ with_object (without_object m old) new object | None ↦ m ]

      one : (o : Option Object) → object_at m old ≡ o → raised (totals_of app m) (totals_of app (moved o)) ≡ None
      one None none = raised-none (totals_of app m) (totals_of app m) (omega arith) (omega arith)
      one (Some x) found =
          let gone = without_object m old in
          let off = none-without new (at old) m free in
          let less_one = weigh-without (one_of app) (one_of-by_name app) old x m found in
          let less_bytes = weigh-without (bytes_in app) (bytes_in-by_name app) old x m found in
          let more_one = weigh-with (one_of app) (one_of-by_name app) new x gone off in
          let more_bytes = weigh-with (bytes_in app) (bytes_in-by_name app) new x gone off in
          let a = own_one old x was in
          let b = own_one new x its in
          let c = own_bytes old x was in
          let d = own_bytes new x its in
          by_weights m (with_object gone new x)
          ∙ raised-none (weigh m) (weigh (with_object gone new x)) (omega (arith, less_one, more_one, a, b)) (omega (arith, less_bytes, more_bytes, c, d))

module _ (s : MachineState) (i : ℕ) where
  abbrev t : MachineState
  t = sound_state s

  abbrev app_of : List ℕ
  app_of = (session_at s i).application

  -- what is raised over the sound state is what is raised
  pub over-sound : (left : ObjectMap) → raised (held_by s i) (totals_of app_of left) ≡ raised (totals_of app_of t.objects) (totals_of app_of left)
  over-sound left = ap (λ (before : Totals). raised before (totals_of app_of left)) (sym (totals_of-listing app_of s.objects t.objects (listing-sound s.objects)))

  pub unmoved-none : (left : ObjectMap) → left ≡ t.objects → raised (held_by s i) (totals_of app_of left) ≡ None
  unmoved-none left same =
      over-sound left
      ∙ ap (λ (m : ObjectMap). raised (totals_of app_of t.objects) (totals_of app_of m)) same
      ∙ raised-none (totals_of app_of t.objects) (totals_of app_of t.objects) (omega arith) (omega arith)

  kept-none : (call : Call) → is_commit t i call (reply_of t i call) ≡ false → raised (held_by s i) (totals_of app_of (state_after t i call).objects) ≡ None
  kept-none call none = unmoved-none (state_after t i call).objects (others_keep_maps t i call none)

  rename-none : HasOwnHandles (session_at s i) → (number : ℕ) (id : List ℕ) → grown s i (Rename number id) ≡ None
  rename-none own number id = one (is_commit t i (Rename number id) (reply_of t i (Rename number id))) refl
    where
      one : (b : Bool) → is_commit t i (Rename number id) (reply_of t i (Rename number id)) ≡ b → grown s i (Rename number id) ≡ None
      one false none = kept-none (Rename number id) none
      one true due =
          let x = rename-left t i number id due in
          let its : x.handle.name.app ≡ app_of = handle_has (λ h. h.name.app ≡ app_of) number (session_at s i).handles x.handle own x.live in
          over-sound (state_after t i (Rename number id)).objects
          ∙ ap (λ (m : ObjectMap). raised (totals_of app_of t.objects) (totals_of app_of m)) x.leaves
          ∙ raised-moved app_of t.objects x.handle.name (name_in t i id) (ap (λ (a : List ℕ). is_eq (bytes_cmp app_of a)) its ∙ itself app_of) (itself app_of) x.free

  delete-none : (number : ℕ) → grown s i (Delete number) ≡ None
  delete-none number = one (is_commit t i (Delete number) (reply_of t i (Delete number))) refl
    where
      one : (b : Bool) → is_commit t i (Delete number) (reply_of t i (Delete number)) ≡ b → grown s i (Delete number) ≡ None
      one false none = kept-none (Delete number) none
      one true due =
          let x = delete-left t i number due in
          over-sound (state_after t i (Delete number)).objects
          ∙ ap (λ (m : ObjectMap). raised (totals_of app_of t.objects) (totals_of app_of m)) x.leaves
          ∙ raised-without app_of t.objects x.handle.name

  -- A quiet call raises nothing.
  pub quiet-none : HasOwnHandles (session_at s i) → (call : Call) → may_grow call ≡ false → grown s i call ≡ None
  quiet-none own (Create id flags attributes bytes) quiet = absurd (true≢false quiet)
  quiet-none own (Write number bytes) quiet = absurd (true≢false quiet)
  quiet-none own (Truncate number size) quiet = absurd (true≢false quiet)
  quiet-none own (Rename number id) quiet = rename-none own number id
  quiet-none own (Delete number) quiet = delete-none number
  quiet-none own (Open id flags) quiet = kept-none (Open id flags) refl
  quiet-none own (Close number) quiet = kept-none (Close number) refl
  quiet-none own (Read number size) quiet = kept-none (Read number size) refl
  quiet-none own (Seek number offset whence) quiet = kept-none (Seek number offset whence) refl
  quiet-none own (Info number) quiet = kept-none (Info number) refl
  quiet-none own EnumNew quiet = kept-none EnumNew refl
  quiet-none own (EnumStart number) quiet = kept-none (EnumStart number) refl
  quiet-none own (EnumNext number) quiet = kept-none (EnumNext number) refl
  quiet-none own (EnumReset number) quiet = kept-none (EnumReset number) refl
  quiet-none own (EnumFree number) quiet = kept-none (EnumFree number) refl
