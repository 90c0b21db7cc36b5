-- Two maps of objects that differ only in damage, at objects whose files no record names; and what a change makes of them.
use Rattle.std.proofs.Common.{◌≡◌, ◌⊎◌, ℕ, suc, Bool, true, false, cond, List, [], ◌∷◌, length, ap, sym, ◌∙◌, refl, subst, inl, inr, Option, Some, None, is_some, true≢false}
use Rattle.std.specs.Option.{option_map, IsSome}
use Rattle.std.specs.Map.{keys_of, lookup, set_value, remove_entry}
use Rattle.std.specs.BTreeMap.{insert_entry}
use Rattle.std.specs.List.Sorted.{IsStrictlySortedBy}
use Rattle.store_model.specs.declared.name.ObjectName.{ObjectName}
use Rattle.store_model.specs.Name.{name_cmp}
use Rattle.store_model.specs.Object.{Object, ObjectMap, size_of, size_at, object_at, holds, with_object, without_object, changed_object, moved_object}
use Rattle.store_model.specs.Record.{Record, is_named}
use Rattle.store_model.specs.Files.{FileMap, with_file, moved_file}
use Rattle.store_model.proofs.Maps.{at, moved_object-held}
use Rattle.store_model.proofs.MapLaws.{mapped, lookup-mapped, mapped-with, mapped-without, mapped-changed, object_at-tied, object_at-with, object_at-without, object_at-changed}

-- the names of the objects, with their sizes
abbrev pub listing : ObjectMap → List (ObjectName × ℕ)
listing objects = mapped size_of objects

abbrev pub IsRising : ObjectMap → Type 0
IsRising objects = IsStrictlySortedBy name_cmp (keys_of objects)

-- the object of that name has a file that none of these records names
pub record IsUnnamed {Root : Type 0} (files : FileMap) (records : List (Record Root)) (name : ObjectName) : Type 0 where
  pub file : ℕ
  pub of_object : files name ≡ Some file
  pub unnamed : is_named records file ≡ false

pub record AreClose {Root : Type 0} (files : FileMap) (records : List (Record Root)) (a b : ObjectMap) : Type 0 where
  pub listed : listing b ≡ listing a
  pub each : (name : ObjectName) → (object_at b name ≡ object_at a name) ⊎ IsUnnamed files records name

-- what equal listings tell
module _ (a b : ObjectMap) (listed : listing b ≡ listing a) where
  pub same-sizes : (name : ObjectName) → option_map size_of (object_at b name) ≡ option_map size_of (object_at a name)
  same-sizes name = sym (lookup-mapped size_of (at name) b) ∙ ap (lookup (at name)) listed ∙ lookup-mapped size_of (at name) a

  pub same-holds : (name : ObjectName) → holds b name ≡ holds a name
  same-holds name = held (object_at b name) ∙ ap is_some (same-sizes name) ∙ sym (held (object_at a name))
    where
      held : (o : Option Object) → is_some o ≡ is_some (option_map size_of o)
      held None = refl
      held (Some x) = refl

  pub same-size : (name : ObjectName) → size_at b name ≡ size_at a name
  same-size name = sized (object_at b name) ∙ ap or_zero (same-sizes name) ∙ sym (sized (object_at a name))
    where
      or_zero : Option ℕ → ℕ
      or_zero None = 0
      or_zero (Some n) = n

      sized : (o : Option Object) → elim o as (λ _. ℕ) [ Some object ↦ size_of object | None ↦ 0 ] ≡ or_zero (option_map size_of o)
      sized None = refl
      sized (Some x) = refl

  pub same-keys : keys_of b ≡ keys_of a
  same-keys = keyed b ∙ ap keys_of listed ∙ sym (keyed a)
    where
      keyed : (m : ObjectMap) → keys_of m ≡ keys_of (mapped size_of m)
      keyed [] = refl
      keyed (e ∷ m) = ap (λ l. e.0 ∷ l) (keyed m)

  pub same-length : length b ≡ length a
  same-length = long b ∙ ap length listed ∙ sym (long a)
    where
      long : (m : ObjectMap) → length m ≡ length (mapped size_of m)
      long [] = refl
      long (e ∷ m) = ap suc (long m)

unnamed-elsewhere : {Root : Type 0} (files : FileMap) (records : List (Record Root)) (name q : ObjectName) (file : Option ℕ) (b : Bool) → at name q ≡ b → b ≡ false
    → IsUnnamed files records q → IsUnnamed (with_file files name file) records q
unnamed-elsewhere files records name q file b is off u = record {
  file = u.file;
  of_object = ap (λ (c : Bool). cond c file (files q)) (is ∙ off) ∙ u.of_object;
  unnamed = u.unnamed;
}

-- an object is put
pub close-put : {Root : Type 0} (files : FileMap) (records : List (Record Root)) (a b : ObjectMap) (name : ObjectName) (x : Object) (file : Option ℕ)
    → AreClose files records a b → AreClose (with_file files name file) records (with_object a name x) (with_object b name x)
close-put files records a b name x file close = record {
  listed = mapped-with size_of name x b ∙ ap (λ l. insert_entry name_cmp l name (size_of x)) close.listed ∙ sym (mapped-with size_of name x a);
  each = λ q. one q (at name q) refl (close.each q);
}
  where
    one : (q : ObjectName) (c : Bool) → at name q ≡ c → (object_at b q ≡ object_at a q) ⊎ IsUnnamed files records q
        → (object_at (with_object b name x) q ≡ object_at (with_object a name x) q) ⊎ IsUnnamed (with_file files name file) records q
    one q true is old =
        let here : (m : ObjectMap) → object_at (with_object m name x) q ≡ Some x = λ m. object_at-with m name q x ∙ ap (λ (c : Bool). cond c (Some x) (object_at m q)) is in
        inl (here b ∙ sym (here a))
    one q false is (inl same) =
        let there : (m : ObjectMap) → object_at (with_object m name x) q ≡ object_at m q = λ m. object_at-with m name q x ∙ ap (λ (c : Bool). cond c (Some x) (object_at m q)) is in
        inl (there b ∙ same ∙ sym (there a))
    one q false is (inr u) = inr (unnamed-elsewhere files records name q file false is refl u)

-- the object is another one
pub close-changed : {Root : Type 0} (files : FileMap) (records : List (Record Root)) (a b : ObjectMap) (name : ObjectName) (x : Object) → IsSome (object_at a name) → IsSome (object_at b name)
    → AreClose files records a b → AreClose files records (changed_object a name x) (changed_object b name x)
close-changed files records a b name x there_a there_b close = record {
  listed = mapped-changed size_of (at name) x b ∙ ap (λ l. set_value (at name) l (size_of x)) close.listed ∙ sym (mapped-changed size_of (at name) x a);
  each = λ q. one q (at name q) refl (close.each q);
}
  where
    one : (q : ObjectName) (c : Bool) → at name q ≡ c → (object_at b q ≡ object_at a q) ⊎ IsUnnamed files records q
        → (object_at (changed_object b name x) q ≡ object_at (changed_object a name x) q) ⊎ IsUnnamed files records q
    one q true is old =
        let here : (m : ObjectMap) → IsSome (object_at m name) → object_at (changed_object m name x) q ≡ Some x = λ m some. object_at-changed m name q x some ∙ ap (λ (c : Bool). cond c (Some x) (object_at m q)) is in
        inl (here b there_b ∙ sym (here a there_a))
    one q false is (inl same) =
        let there : (m : ObjectMap) → IsSome (object_at m name) → object_at (changed_object m name x) q ≡ object_at m q = λ m some. object_at-changed m name q x some ∙ ap (λ (c : Bool). cond c (Some x) (object_at m q)) is in
        inl (there b there_b ∙ same ∙ sym (there a there_a))
    one q false is (inr u) = inr u

-- the object is gone
pub close-removed : {Root : Type 0} (files : FileMap) (records : List (Record Root)) (a b : ObjectMap) (name : ObjectName) → IsRising a → IsRising b
    → AreClose files records a b → AreClose (with_file files name None) records (without_object a name) (without_object b name)
close-removed files records a b name rising_a rising_b close = record {
  listed = mapped-without size_of (at name) b ∙ ap (λ l. remove_entry (at name) l) close.listed ∙ sym (mapped-without size_of (at name) a);
  each = λ q. one q (at name q) refl (close.each q);
}
  where
    one : (q : ObjectName) (c : Bool) → at name q ≡ c → (object_at b q ≡ object_at a q) ⊎ IsUnnamed files records q
        → (object_at (without_object b name) q ≡ object_at (without_object a name) q) ⊎ IsUnnamed (with_file files name None) records q
    one q true is old =
        let here : (m : ObjectMap) → IsRising m → object_at (without_object m name) q ≡ None = λ m rising. object_at-without m name q rising ∙ ap (λ (c : Bool). cond c None (object_at m q)) is in
        inl (here b rising_b ∙ sym (here a rising_a))
    one q false is (inl same) =
        let there : (m : ObjectMap) → IsRising m → object_at (without_object m name) q ≡ object_at m q = λ m rising. object_at-without m name q rising ∙ ap (λ (c : Bool). cond c None (object_at m q)) is in
        inl (there b rising_b ∙ same ∙ sym (there a rising_a))
    one q false is (inr u) = inr (unnamed-elsewhere files records name q None false is refl u)

-- an object that one map has, and the other too, is moved
module _ {Root : Type 0} (files : FileMap) (records : List (Record Root)) (a b : ObjectMap) (old new : ObjectName) (x y : Object)
    (sizes : size_of y ≡ size_of x) (either : (y ≡ x) ⊎ IsUnnamed files records old) (rising_a : IsRising a) (rising_b : IsRising b) (close : AreClose files records a b) where
  abbrev gone_a : ObjectMap
  gone_a = without_object a old

  abbrev gone_b : ObjectMap
  gone_b = without_object b old

  abbrev gone_files : FileMap
  gone_files = with_file files old None

  put-moved : AreClose (moved_file files old new) records (with_object gone_a new x) (with_object gone_b new y)
  put-moved = record {
    listed = mapped-with size_of new y gone_b ∙ ap (λ l. insert_entry name_cmp l new (size_of y)) rest.listed
        ∙ ap (λ n. insert_entry name_cmp (listing gone_a) new n) sizes ∙ sym (mapped-with size_of new x gone_a);
    each = λ q. one q (at new q) refl (rest.each q) either;
  }
    where
      rest : AreClose gone_files records gone_a gone_b
      rest = close-removed files records a b old rising_a rising_b close

      one : (q : ObjectName) (c : Bool) → at new q ≡ c → (object_at gone_b q ≡ object_at gone_a q) ⊎ IsUnnamed gone_files records q → (y ≡ x) ⊎ IsUnnamed files records old
          → (object_at (with_object gone_b new y) q ≡ object_at (with_object gone_a new x) q) ⊎ IsUnnamed (moved_file files old new) records q
      one q true is gone (inl same) =
          let here : (m : ObjectMap) (z : Object) → object_at (with_object m new z) q ≡ Some z = λ m z. object_at-with m new q z ∙ ap (λ (c : Bool). cond c (Some z) (object_at m q)) is in
          inl (here gone_b y ∙ ap (λ (z : Object). Some z) same ∙ sym (here gone_a x))
      one q true is gone (inr u) = inr (record {
        file = u.file;
        of_object = ap (λ (c : Bool). cond c (files old) (gone_files q)) is ∙ u.of_object;
        unnamed = u.unnamed;
      })
      one q false is (inl same) moved =
          let there : (m : ObjectMap) (z : Object) → object_at (with_object m new z) q ≡ object_at m q = λ m z. object_at-with m new q z ∙ ap (λ (c : Bool). cond c (Some z) (object_at m q)) is in
          inl (there gone_b y ∙ same ∙ sym (there gone_a x))
      one q false is (inr u) moved = inr (unnamed-elsewhere gone_files records new q (files old) false is refl u)

  pub close-moved : object_at a old ≡ Some x → object_at b old ≡ Some y → AreClose (moved_file files old new) records (moved_object a old new) (moved_object b old new)
  close-moved is_a is_b =
      subst (λ (m : ObjectMap). AreClose (moved_file files old new) records m (moved_object b old new)) (sym (moved_object-held a old new x is_a))
      (subst (λ (m : ObjectMap). AreClose (moved_file files old new) records (with_object gone_a new x) m) (sym (moved_object-held b old new y is_b)) put-moved)

-- a name that nothing has, moved to one that is free
pub close-moved_none : {Root : Type 0} (files : FileMap) (records : List (Record Root)) (a b : ObjectMap) (old new : ObjectName) → object_at a old ≡ None → holds a new ≡ false
    → AreClose files records a b → AreClose (moved_file files old new) records (moved_object a old new) (moved_object b old new)
close-moved_none files records a b old new none free close =
    let none_b : object_at b old ≡ None = no_size (object_at b old) (same-sizes a b close.listed old ∙ ap (option_map size_of) none) in
    let stays : (m : ObjectMap) → object_at m old ≡ None → moved_object m old new ≡ m =
    λ m is. ap (λ (o : Option Object). elim o as (λ _. ObjectMap) [ Some object ↦ with_object (without_object m old) new object | None ↦ m ]) is in
    subst (λ (m : ObjectMap). AreClose (moved_file files old new) records m (moved_object b old new)) (sym (stays a none))
    (subst (λ (m : ObjectMap). AreClose (moved_file files old new) records a m) (sym (stays b none_b))
    (record { listed = close.listed; each = λ q. one q (at new q) refl (at old q) refl (close.each q) }))
  where
    no_size : (o : Option Object) → option_map size_of o ≡ None → o ≡ None
    no_size None is = refl
    no_size (Some z) is = absurd (cc (is))

    nothing : (o : Option Object) → is_some o ≡ false → o ≡ None
    nothing None is = refl
    nothing (Some z) is = absurd (true≢false is)

    one : (q : ObjectName) (c : Bool) → at new q ≡ c → (d : Bool) → at old q ≡ d → (object_at b q ≡ object_at a q) ⊎ IsUnnamed files records q
        → (object_at b q ≡ object_at a q) ⊎ IsUnnamed (moved_file files old new) records q
    one q true is d was (inl same) = inl same
    one q false is d was (inl same) = inl same
    one q true is d was (inr u) =
        let empty_a : object_at a q ≡ None = sym (object_at-tied a new q is) ∙ nothing (object_at a new) free in
        inl (no_size (object_at b q) (same-sizes a b close.listed q ∙ ap (option_map size_of) empty_a) ∙ sym empty_a)
    one q false is true was (inr u) =
        let empty_a : object_at a q ≡ None = sym (object_at-tied a old q was) ∙ none in
        inl (no_size (object_at b q) (same-sizes a b close.listed q ∙ ap (option_map size_of) empty_a) ∙ sym empty_a)
    one q false is false was (inr u) =
        inr (unnamed-elsewhere (with_file files old None) records new q (files old) false is refl (unnamed-elsewhere files records old q None false was refl u))
