-- Maps whose names rise are the same where they have the same object under each name; and what the map of held entries has.
use Rattle.std.proofs.Common.{◌≡◌, ℕ, suc, inl, inr, true, false, cond, List, [], ◌∷◌, Option, Some, None, refl, sym, ap, ◌∙◌, is_eq}
use Rattle.std.specs.Prelude.{slice_set}
use Rattle.std.specs.declared.cmp.Ordering.{Ordering}
use Rattle.std.specs.declared.cmp.Ordering.TheVariants.{Less, Equal, Greater}
use Rattle.std.specs.Ordering.{ordering_reverse}
use Rattle.std.specs.List.Sorted.{IsStrictlySortedBy}
use Rattle.std.proofs.lemmas.Bool.{cases_Bool, cond-true, cond-false}
use Rattle.store_model.specs.declared.name.ObjectName.{ObjectName}
use Rattle.store_model.specs.Name.{name_cmp}
use Rattle.store_model.specs.Object.{Object, ObjectMap, object_at}
use Rattle.store_model.proofs.Maps.{IsBelow, IsBelow-trans, at, name_cmp_total}
use Rattle.store_model.proofs.MapLaws.{object_at-tied, object_at-with, rising-with}
use Rattle.store_model.proofs.Closeness.{IsRising}
use Rattle.crash_core.specs.Entries.{name_of}
use Rattle.crash_core.specs.Mounting.{Held, map_of}
use Rattle.crash_core.specs.Holding.{held_at}
use Rattle.crash_core.proofs.EntryMaps.{IsApart, pulled, self}
use Rattle.crash_core.proofs.Names.{alike_is}
use Rattle.core_laws.proofs.Mending.{none_some, some_same}

-- what is below a map is no name of it
none_below : (name : ObjectName) (m : ObjectMap) → IsBelow name m → object_at m name ≡ None
none_below name [] below = refl
none_below name (e ∷ m) below = ap (λ (o : Ordering). cond (is_eq o) (Some e.1) (object_at m name)) below.0 ∙ none_below name m below.1

first_at : (e : ObjectName × Object) (m : ObjectMap) → object_at (e ∷ m) e.0 ≡ Some e.1
first_at e m = ap (λ (o : Ordering). cond (is_eq o) (Some e.1) (object_at m e.0)) (self e.0)

-- a name below the first of a map whose names rise
none_under : (name : ObjectName) (e : ObjectName × Object) (m : ObjectMap) → name_cmp name e.0 ≡ Less → IsBelow e.0 m → object_at (e ∷ m) name ≡ None
none_under name e m less below = none_below name (e ∷ m) (less, IsBelow-trans name e.0 m less below)

-- Where both begin with one name, the rests have the same.
rests_same : (d e : ObjectName × Object) (a b : ObjectMap) → d.0 ≡ e.0 → IsBelow d.0 a → IsBelow e.0 b → ((name : ObjectName) → object_at (d ∷ a) name ≡ object_at (e ∷ b) name)
    → (name : ObjectName) → object_at a name ≡ object_at b name
rests_same d e a b one below under same name = elim (cases_Bool (at name d.0)) [
  | inl tied ↦
      let there : at name e.0 ≡ true = ap (at name) (sym one) ∙ tied in
      object_at-tied a name d.0 tied ∙ none_below d.0 a below
      ∙ sym (object_at-tied b name e.0 there ∙ none_below e.0 b under)
  | inr off ↦
      let there : at name e.0 ≡ false = ap (at name) (sym one) ∙ off in
      sym (cond-false (at name d.0) (Some d.1) (object_at a name) off) ∙ same name
      ∙ cond-false (at name e.0) (Some e.1) (object_at b name) there
]

pub same_maps : (a b : ObjectMap) → IsRising a → IsRising b → ((name : ObjectName) → object_at a name ≡ object_at b name) → a ≡ b
unfolding IsStrictlySortedBy
same_maps [] [] rising_a rising_b same = refl
same_maps [] (e ∷ b) rising_a rising_b same = absurd (none_some e.1 (same e.0 ∙ first_at e b))
same_maps (d ∷ a) [] rising_a rising_b same = absurd (none_some d.1 (sym (same d.0) ∙ first_at d a))
same_maps (d ∷ a) (e ∷ b) rising_a rising_b same = (elim (name_cmp d.0 e.0) as (λ o. name_cmp d.0 e.0 ≡ o → d ∷ a ≡ e ∷ b) [
  | Less ↦ λ h. absurd (none_some d.1 (sym (none_under d.0 e b h rising_b.0) ∙ sym (same d.0) ∙ first_at d a))
  | Equal ↦ λ h.
      let name : d.0 ≡ e.0 = alike_is d.0 e.0 (ap is_eq h) in
      let here : object_at (e ∷ b) d.0 ≡ Some e.1 = ap (object_at (e ∷ b)) name ∙ first_at e b in
      let object : d.1 ≡ e.1 = some_same d.1 e.1 (sym (first_at d a) ∙ same d.0 ∙ here) in
      let rest : a ≡ b = same_maps a b rising_a.1 rising_b.1 (rests_same d e a b name rising_a.0 rising_b.0 same) in
      (λ i. (name i, object i) ∷ rest i)
  | Greater ↦ λ h.
      let turned : name_cmp e.0 d.0 ≡ Less = name_cmp_total.antisymm e.0 d.0 ∙ ap ordering_reverse h in
      absurd (none_some e.1 (sym (none_under e.0 d a turned rising_a.0) ∙ same e.0 ∙ first_at e b))
]) refl

-- THE MAP OF HELD ENTRIES
pub map_rising : (held : List (Option Held)) → IsRising (map_of held)
unfolding IsStrictlySortedBy
map_rising [] = tt
map_rising (None ∷ held) = map_rising held
map_rising (Some h ∷ held) = rising-with (map_of held) (name_of h.entry) h.object (map_rising held)

-- the object of a held entry stands under its name, if no other has it
pub map_found : (held : List (Option Held)) (index : ℕ) (h : Held) (name : ObjectName) → held_at held index ≡ Some h → IsApart held index (name_of h.entry)
    → at (name_of h.entry) name ≡ true → object_at (map_of held) name ≡ Some h.object
map_found held index h name stood apart tied =
    let rest : ObjectMap = map_of (slice_set held index None) in
    ap (λ (m : ObjectMap). object_at m name) (pulled held index h stood apart)
    ∙ object_at-with rest (name_of h.entry) name h.object
    ∙ cond-true (at (name_of h.entry) name) (Some h.object) (object_at rest name) tied

-- and under no other name any
pub map_none : (held : List (Option Held)) (name : ObjectName) → ((index : ℕ) (h : Held) → held_at held index ≡ Some h → at (name_of h.entry) name ≡ false) → object_at (map_of held) name ≡ None
map_none [] name off = refl
map_none (None ∷ held) name off = map_none held name (λ index h stood. off (suc index) h stood)
map_none (Some h ∷ held) name off =
    object_at-with (map_of held) (name_of h.entry) name h.object
    ∙ cond-false (at (name_of h.entry) name) (Some h.object) (object_at (map_of held) name) (off 0 h refl)
    ∙ map_none held name (λ index x stood. off (suc index) x stood)
