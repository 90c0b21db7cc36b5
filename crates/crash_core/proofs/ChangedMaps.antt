-- The change of the directory's entries is the change of the map.
use Rattle.std.proofs.Common.{◌≡◌, ◌<◌, ℕ, true, List, length, Option, Some, None, refl, sym, ap, subst, ◌∙◌, arith}
use Rattle.std.specs.Prelude.{slice_set}
use Rattle.std.specs.Option.{option_map}
use Rattle.std.proofs.lemmas.List.{length-map}
use Rattle.tee_types.specs.declared.call.Call.{Call}
use Rattle.tee_types.specs.declared.call.Call.TheVariants.{Create, Write, Truncate, Rename, Delete}
use Rattle.store_model.specs.declared.session.Handle.{Handle}
use Rattle.store_model.specs.declared.name.ObjectName.{ObjectName}
use Rattle.store_model.specs.Object.{Contents, Object, ObjectMap, Sound, changed_object, object_at, with_object, without_object}
use Rattle.store_model.specs.Machine.{MachineState, handle_at, session_at}
use Rattle.store_model.specs.Calls.{is_commit, reply_of, state_after}
use Rattle.store_model.specs.Makes.{Change, CommitsMakeChanges, HasContents, IsNamedBy, MakesChange, MapChange, Move, Remove, changed_map}
use Rattle.store_model.specs.Makes.{Put as PutObject}
use Rattle.store_model.proofs.Maps.{moved_object-held, set_value-insert_entry}
use Rattle.dir_records.specs.declared.entry.DirEntry.{DirEntry}
use Rattle.crash_core.specs.Entries.{name_of}
use Rattle.crash_core.specs.EntryLists.{AreDistinct, IsAlone, entry_at}
use Rattle.crash_core.specs.declared.change.EntryChange.{EntryChange}
use Rattle.crash_core.specs.declared.change.EntryChange.TheVariants.{Clear, Put}
use Rattle.crash_core.specs.EntryChanges.{Enters, IsChange, IsEntryOf, IsPlaceOf, changed, index_of}
use Rattle.crash_core.specs.Mounting.{Held, map_of}
use Rattle.crash_core.specs.Holding.{entries_held, held_at}
use Rattle.crash_core.proofs.EntryMaps.{IsApart, Lacks, insert_twice, pulled, put_over, remove_inserted, rest_all, rest_lacks}
use Rattle.crash_core.proofs.Lists.{changed_held, entry_held, map_at, set_else, set_here}

some_held : (o : Option Held) (f : DirEntry) → option_map (λ (h : Held). h.entry) o ≡ Some f → (x : Held) × (o ≡ Some x) × (x.entry ≡ f)
some_held None f is = absurd (cc (is))
some_held (Some x) f is = (x, refl, cc (is))

none_held : (o : Option Held) → option_map (λ (h : Held). h.entry) o ≡ None → o ≡ None
none_held None is = refl
none_held (Some x) is = absurd (cc (is))

some_is : {A : Type 0} (o : Option A) (a b : A) → o ≡ Some a → o ≡ Some b → a ≡ b
some_is o a b x y = let both : Some a ≡ Some b = sym x ∙ y in cc (both)

-- THE CHANGE OF A MAP
-- Entries that hold a map of objects, without doubles of a name, also after a change.
module _ (objects : ObjectMap) (entries : List (Option DirEntry)) (held : List (Option Held)) (holds : entries_held held ≡ entries) (map_is : map_of held ≡ objects) (distinct : AreDistinct entries) where
  at_entry : (index : ℕ) (o : Option DirEntry) → entry_at entries index ≡ o → option_map (λ (h : Held). h.entry) (held_at held index) ≡ o
  at_entry index o is = sym (map_at (option_map (λ (h : Held). h.entry)) held index refl) ∙ ap (λ (l : List (Option DirEntry)). entry_at l index) holds ∙ is

  apart_of : (index : ℕ) (name : ObjectName) → IsAlone entries index name → IsApart held index name
  apart_of index name alone other y ne there = alone other y.entry ne (entry_held held entries other y holds there)

  -- the rest of the map, without a place
  abbrev pub rest_of : ℕ → ObjectMap
  rest_of index = map_of (slice_set held index None)

  long : (index : ℕ) → index < length entries → index < length held
  long index lt = omega (arith, lt, ap length holds, length-map held (option_map (λ (h : Held). h.entry)))

  -- the map, where an entry of that name stands at the place
  old_map : (index : ℕ) (f : DirEntry) → entry_at entries index ≡ Some f → (x : Object) × (objects ≡ with_object (rest_of index) (name_of f) x) × Lacks (name_of f) (rest_of index)
  old_map index f at =
      let found = some_held (held_at held index) f (at_entry index (Some f) at) in
      let x : Held = found.0 in
      let alone : IsApart held index (name_of f) = apart_of index (name_of f) (distinct index f at) in
      let names : name_of x.entry ≡ name_of f = ap name_of found.2 in
      let there : map_of held ≡ with_object (rest_of index) (name_of x.entry) x.object = pulled held index x found.1 (subst (IsApart held index) (sym names) alone) in
      (x.object, sym map_is ∙ there ∙ ap (λ (n : ObjectName). with_object (rest_of index) n x.object) names, rest_lacks held index (name_of f) alone)

  -- by the name that it was asked for
  named_map : (index : ℕ) (name : ObjectName) → IsEntryOf entries index name → (x : Object) × (objects ≡ with_object (rest_of index) name x) × Lacks name (rest_of index)
  named_map index name was =
      let old = old_map index was.entry was.at in
      (old.0, old.1 ∙ ap (λ (n : ObjectName). with_object (rest_of index) n old.0) was.named, subst (λ (n : ObjectName). Lacks n (rest_of index)) was.named old.2)

  -- the map with an entry put there
  new_map : (index : ℕ) (e : DirEntry) (object : Object) (name : ObjectName) → name_of e ≡ name → index < length entries → IsAlone entries index (name_of e)
      → map_of (changed_held held (Put index e) object) ≡ with_object (rest_of index) name object
  new_map index e object name named lt alone =
      put_over held index (record { entry = e; object = object }) (long index lt) (apart_of index (name_of e) alone)
      ∙ ap (λ (n : ObjectName). with_object (rest_of index) n object) named

  -- an entry that is put is alone of its name
  alone_put : (index : ℕ) (e : DirEntry) → index < length entries → AreDistinct (changed entries (Put index e)) → IsAlone entries index (name_of e)
  alone_put index e lt after other f ne there =
      after index e (set_here entries index (Some e) lt) other f ne (set_else entries index (Some e) other ne ∙ there)

  created : (index : ℕ) (name : ObjectName) (object : Object) (o : Option DirEntry) → entry_at entries index ≡ o → IsPlaceOf name o → with_object (rest_of index) name object ≡ with_object objects name object
  created index name object None at place =
      let free : rest_of index ≡ objects = rest_all held index (none_held (held_at held index) (at_entry index None at)) ∙ map_is in
      ap (λ (m : ObjectMap). with_object m name object) free
  created index name object (Some f) at place =
      let was = named_map index name (record { entry = f; at = at; named = place }) in
      sym (insert_twice (rest_of index) name was.0 object) ∙ ap (λ (m : ObjectMap). with_object m name object) (sym was.1)

  replaced : (index : ℕ) (name : ObjectName) (object : Object) → IsEntryOf entries index name → with_object (rest_of index) name object ≡ changed_object objects name object
  replaced index name object at =
      let was = named_map index name at in
      sym (set_value-insert_entry name was.0 object (rest_of index)) ∙ ap (λ (m : ObjectMap). changed_object m name object) (sym was.1)

  -- without the object of an entry, the rest is left
  gone : (index : ℕ) (name : ObjectName) → IsEntryOf entries index name → without_object objects name ≡ rest_of index
  gone index name at =
      let was = named_map index name at in
      ap (λ (m : ObjectMap). without_object m name) was.1 ∙ remove_inserted (rest_of index) name was.0 was.2

  entered : (made : MapChange) (counter : ℕ) (change : EntryChange) (object : Object) → Enters made objects entries counter change object → index_of change < length entries
      → AreDistinct (changed entries change) → map_of (changed_held held change object) ≡ changed_map made objects
  entered (PutObject name x) counter (Put index e) object enters lt after =
      new_map index e object name enters.0.named lt (alone_put index e lt after)
      ∙ created index name object (entry_at entries index) refl enters.0.place
      ∙ ap (with_object objects name) enters.1
  entered (Change name x) counter (Put index e) object enters lt after =
      new_map index e object name enters.0.named lt (alone_put index e lt after)
      ∙ replaced index name object enters.0.was
      ∙ ap (changed_object objects name) enters.1
  entered (Move old new) counter (Put index e) object enters lt after =
      new_map index e object new enters.0.named lt (alone_put index e lt after)
      ∙ ap (λ (m : ObjectMap). with_object m new object) (sym (gone index old enters.0.was))
      ∙ sym (moved_object-held objects old new object enters.1)
  entered (Remove name) counter (Clear index) object enters lt after = sym (gone index name enters)
  entered (PutObject name x) counter (Clear index) object enters lt after = absurd enters
  entered (Change name x) counter (Clear index) object enters lt after = absurd enters
  entered (Move old new) counter (Clear index) object enters lt after = absurd enters
  entered (Remove name) counter (Put index e) object enters lt after = absurd enters

  -- The map of what is held after a change of the entries is the changed map.
  pub change_enters : (counter : ℕ) (made : MapChange) (change : EntryChange) (object : Object) → IsChange objects entries counter made change object → AreDistinct (changed entries change)
      → map_of (changed_held held change object) ≡ changed_map made objects
  change_enters counter made change object is after = entered made counter change object is.enters is.place after

-- THE CHANGE OF A CALL
module _ (s : MachineState) (i : ℕ) where
  one_name : (number : ℕ) (a b : ObjectName) → IsNamedBy s i number a → IsNamedBy s i number b → a ≡ b
  one_name number a b x y =
      sym x.named ∙ ap (λ (h : Handle). h.name) (some_is (handle_at (session_at s i) number) x.handle y.handle x.live y.live) ∙ y.named

  one_object : (number : ℕ) (a b : ObjectName) (x y : Object) (next : Handle → Contents → Contents) → HasContents s i number a x next → HasContents s i number b y next → (a ≡ b) × (x ≡ y)
  one_object number a b x y next p q =
      let handles : p.handle ≡ q.handle = some_is (handle_at (session_at s i) number) p.handle q.handle p.live q.live in
      let names : a ≡ b = sym p.named ∙ ap (λ (h : Handle). h.name) handles ∙ q.named in
      let both : Sound p.old ≡ Sound q.old = some_is (object_at s.objects b) (Sound p.old) (Sound q.old) (ap (object_at s.objects) (sym names) ∙ p.was) q.was in
      let olds : p.old ≡ q.old = cc (both) in
      (names, p.is ∙ (λ j. Sound (next (handles j) (olds j))) ∙ sym q.is)

  -- a call makes one change
  pub one_change : (call : Call) (a b : MapChange) → MakesChange s i call a → MakesChange s i call b → a ≡ b
  one_change (Create id flags attributes bytes) (PutObject n x) (PutObject m y) p q = λ j. PutObject ((p.0 ∙ sym q.0) j) ((p.1 ∙ sym q.1) j)
  one_change (Create id flags attributes bytes) (PutObject n x) b p q = absurd q
  one_change (Write handle bytes) (Change n x) (Change m y) p q = let both = one_object handle n m x y _ p q in λ j. Change (both.0 j) (both.1 j)
  one_change (Write handle bytes) (Change n x) b p q = absurd q
  one_change (Truncate handle size) (Change n x) (Change m y) p q = let both = one_object handle n m x y _ p q in λ j. Change (both.0 j) (both.1 j)
  one_change (Truncate handle size) (Change n x) b p q = absurd q
  one_change (Rename handle id) (Move n x) (Move m y) p q = let names : n ≡ m = one_name handle n m p.0 q.0 in λ j. Move (names j) ((p.1 ∙ sym q.1) j)
  one_change (Rename handle id) (Move n x) b p q = absurd q
  one_change (Delete handle) (Remove n) (Remove m) p q = let names : n ≡ m = one_name handle n m p q in λ j. Remove (names j)
  one_change (Delete handle) (Remove n) b p q = absurd q
  one_change call a b p q = absurd p

  -- which is what the machine leaves
  pub made_leaves : CommitsMakeChanges → (call : Call) (made : MapChange) → is_commit s i call (reply_of s i call) ≡ true → MakesChange s i call made
      → (state_after s i call).objects ≡ changed_map made s.objects
  made_leaves commits call made due makes =
      let found = commits s i call due in
      found.1.leaves ∙ ap (λ (c : MapChange). changed_map c s.objects) (one_change call found.0 made found.1.makes makes)
