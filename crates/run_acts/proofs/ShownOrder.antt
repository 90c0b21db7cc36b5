-- Objects that are shown from the least name on are the objects of all entries, in the order of their names.
use Rattle.std.proofs.Common.{◌≡◌, ◌∙◌, ℕ, zero, suc, true, false, List, [], ◌∷◌, Option, Some, None, is_eq, refl, sym, ap, subst, inl, inr, ◌⊎◌, true≢false}
use Rattle.std.specs.Ordering.{is_le, is_lt, ordering_reverse}
use Rattle.std.specs.declared.cmp.Ordering.TheVariants.{Less, Equal, Greater}
use Rattle.std.specs.List.Sorted.{IsStrictlySortedBy}
use Rattle.std.proofs.lemmas.Bool.{cases_Bool, cases_eq, cond-false, cond-true}
use Rattle.disk_model.specs.State.{FileState}
use Rattle.dir_records.specs.declared.entry.DirEntry.{DirEntry}
use Rattle.store_model.specs.declared.name.ObjectName.{ObjectName}
use Rattle.store_model.specs.Name.{name_cmp}
use Rattle.store_model.specs.Object.{Object, ObjectMap, object_at}
use Rattle.store_model.proofs.Closeness.{IsRising}
use Rattle.store_model.proofs.MapLaws.{alike}
use Rattle.store_model.proofs.Maps.{IsBelow, at, name_cmp_total}
use Rattle.crash_core.specs.Entries.{name_of}
use Rattle.crash_core.specs.EntryLists.{AreDistinct, entry_at}
use Rattle.crash_core.proofs.EntryMaps.{self}
use Rattle.object_calls.specs.OpeningEntries.{IsNonePast, is_past}
use Rattle.object_calls.specs.Next.{IsShown}
use Rattle.run_acts.specs.LineObjects.{entry_shown}
use Rattle.run_acts.specs.ListedObjects.{ShownStep, ShowsAll, name_shown, objects_of}
use Rattle.run_acts.proofs.ListedEntries.{is_less, past_then}

-- each name of the map is above
abbrev AreAllPast : Option ObjectName → ObjectMap → Type 0
AreAllPast after [] = Unit {0}
AreAllPast after (e ∷ m) = (is_past after e.0 ≡ true) × AreAllPast after m

all_past_then : (after : Option ObjectName) (a : ObjectName) (m : ObjectMap) → is_past after a ≡ true → AreAllPast (Some a) m → AreAllPast after m
all_past_then after a [] past all = tt
all_past_then after a (e ∷ m) past all = (past_then after a e.0 past all.0, all_past_then after a m past all.1)

all_below : (a : ObjectName) (m : ObjectMap) → AreAllPast (Some a) m → IsBelow a m
all_below a [] all = tt
all_below a (e ∷ m) all = (is_less a e.0 all.0, all_below a m all.1)

-- a name that stands first in a map, and one that does not
at_first : (q : ObjectName) (e : ObjectName × Object) (m : ObjectMap) → at q e.0 ≡ true → object_at (e ∷ m) q ≡ Some e.1
at_first q e m tied = cond-true (at q e.0) (Some e.1) (object_at m q) tied

at_later : (q : ObjectName) (e : ObjectName × Object) (m : ObjectMap) → at q e.0 ≡ false → object_at (e ∷ m) q ≡ object_at m q
at_later q e m off = cond-false (at q e.0) (Some e.1) (object_at m q) off

-- an entry of that name, or none
pub find_named : (entries : List (Option DirEntry)) (q : ObjectName)
    → ((index : ℕ) × (e : DirEntry) × (entry_at entries index ≡ Some e) × (at (name_of e) q ≡ true)) ⊎ ((index : ℕ) (e : DirEntry) → entry_at entries index ≡ Some e → at (name_of e) q ≡ false)
find_named [] q = inr (λ index e is. absurd (cc (is)))
find_named (None ∷ entries) q = elim (find_named entries q) [
  | inl found ↦ inl (suc found.0, found.1, found.2, found.3)
  | inr none ↦ inr (λ index e is. none_at index e is none)
]
  where
    none_at : (index : ℕ) (e : DirEntry) → entry_at (None ∷ entries) index ≡ Some e → ((k : ℕ) (f : DirEntry) → entry_at entries k ≡ Some f → at (name_of f) q ≡ false) → at (name_of e) q ≡ false
    none_at zero e is none = absurd (cc (is))
    none_at (suc k) e is none = none k e is
find_named (Some d ∷ entries) q = elim (cases_Bool (at (name_of d) q)) [
  | inl tied ↦ inl (0, d, refl, tied)
  | inr off ↦ elim (find_named entries q) [
    | inl found ↦ inl (suc found.0, found.1, found.2, found.3)
    | inr none ↦ inr (λ index e is. none_at index e is off none)
  ]
]
  where
    none_at : (index : ℕ) (e : DirEntry) → entry_at (Some d ∷ entries) index ≡ Some e → at (name_of d) q ≡ false → ((k : ℕ) (f : DirEntry) → entry_at entries k ≡ Some f → at (name_of f) q ≡ false) → at (name_of e) q ≡ false
    none_at zero e is off none = let same : d ≡ e = cc (is) in ap (λ (x : DirEntry). at (name_of x) q) (sym same) ∙ off
    none_at (suc k) e is off none = none k e is

module _ (entries : List (Option DirEntry)) (key : List ℕ) where
  shown_name : (after : Option ObjectName) (files : ℕ → FileState) (s : ShownStep) (shown : IsShown entries after key files s.files s.shown) → name_shown s.shown ≡ name_of shown.entry
  shown_name after files s shown = λ i. record { app = shown.app i; id = shown.id i }

  shown_past : (after : Option ObjectName) (files : ℕ → FileState) (s : ShownStep) (shown : IsShown entries after key files s.files s.shown) → is_past after (name_shown s.shown) ≡ true
  shown_past after files s shown = ap (is_past after) (shown_name after files s shown) ∙ shown.next.past

  shows_past : (after : Option ObjectName) (files : ℕ → FileState) (steps : List ShownStep) (last : Option ObjectName) (left : ℕ → FileState)
      → ShowsAll entries key after files steps last left → AreAllPast after (objects_of steps)
  shows_past after files [] last left shows = tt
  shows_past after files (s ∷ steps) last left shows = (
    shown_past after files s shows.0,
    all_past_then after (name_shown s.shown) (objects_of steps) (shown_past after files s shows.0) (shows_past (Some (name_shown s.shown)) s.files steps last left shows.1),
  )

  -- the names rise
  pub shows_rising : (after : Option ObjectName) (files : ℕ → FileState) (steps : List ShownStep) (last : Option ObjectName) (left : ℕ → FileState)
      → ShowsAll entries key after files steps last left → IsRising (objects_of steps)
  unfolding IsStrictlySortedBy
  shows_rising after files [] last left shows = tt
  shows_rising after files (s ∷ steps) last left shows = (
    all_below (name_shown s.shown) (objects_of steps) (shows_past (Some (name_shown s.shown)) s.files steps last left shows.1),
    shows_rising (Some (name_shown s.shown)) s.files steps last left shows.1,
  )

  -- a name that no entry has is none of theirs
  pub shows_absent : (after : Option ObjectName) (files : ℕ → FileState) (steps : List ShownStep) (last : Option ObjectName) (left : ℕ → FileState)
      → ShowsAll entries key after files steps last left → (q : ObjectName) → ((index : ℕ) (e : DirEntry) → entry_at entries index ≡ Some e → at (name_of e) q ≡ false)
      → object_at (objects_of steps) q ≡ None
  shows_absent after files [] last left shows q off = refl
  shows_absent after files (s ∷ steps) last left shows q off =
      let shown = shows.0 in
      let apart : at q (name_shown s.shown) ≡ false =
      ap (at q) (shown_name after files s shown) ∙ alike.symm q (name_of shown.entry) ∙ off shown.next.index shown.entry shown.next.at in
      at_later q (entry_shown s.shown) (objects_of steps) apart ∙ shows_absent (Some (name_shown s.shown)) s.files steps last left shows.1 q off

  module _ (P : DirEntry → Object → Type 0) where
    -- each object that was shown is as it should be for its entry
    abbrev pub HaveAll : (after : Option ObjectName) (files : ℕ → FileState) (steps : List ShownStep) (last : Option ObjectName) (left : ℕ → FileState) → ShowsAll entries key after files steps last left → Type 0
    HaveAll after files [] last left shows = Unit {0}
    HaveAll after files (s ∷ steps) last left shows = P (shows.0).entry (entry_shown s.shown).1 × HaveAll (Some (name_shown s.shown)) s.files steps last left shows.1

    -- the object under the name of an entry
    abbrev pub IsUnder : DirEntry → ObjectMap → Type 0
    IsUnder e m = (x : Object) × (object_at m (name_of e) ≡ Some x) × P e x

    module _ (distinct : AreDistinct entries) where
      -- two entries of one name are one
      one_entry : (i j : ℕ) (e f : DirEntry) → entry_at entries i ≡ Some e → entry_at entries j ≡ Some f → is_eq (name_cmp (name_of e) (name_of f)) ≡ true → e ≡ f
      one_entry i j e f here there tied = elim (cases_eq j i) [
        | inl same ↦ cc (here, there, ap (entry_at entries) same)
        | inr other ↦ absurd (true≢false (sym tied ∙ distinct i e here j f other there))
      ]

      first_under : (after : Option ObjectName) (files : ℕ → FileState) (s : ShownStep) (m : ObjectMap) (shown : IsShown entries after key files s.files s.shown)
          → P shown.entry (entry_shown s.shown).1 → (index : ℕ) (e : DirEntry) → entry_at entries index ≡ Some e → name_cmp (name_of shown.entry) (name_of e) ≡ Equal → IsUnder e (entry_shown s.shown ∷ m)
      first_under after files s m shown have index e is equal =
          let same : shown.entry ≡ e = one_entry shown.next.index index shown.entry e shown.next.at is (ap is_eq equal) in
          let named : name_shown s.shown ≡ name_of e = shown_name after files s shown ∙ ap (λ (f : DirEntry). name_of f) same in (
            (entry_shown s.shown).1,
            at_first (name_of e) (entry_shown s.shown) m (ap (λ (n : ObjectName). at (name_of e) n) named ∙ ap is_eq (self (name_of e))),
            subst (λ (f : DirEntry). P f (entry_shown s.shown).1) same have,
          )

      later_under : (s : ShownStep) (m : ObjectMap) (f e : DirEntry) → name_shown s.shown ≡ name_of f → name_cmp (name_of f) (name_of e) ≡ Less → IsUnder e m → IsUnder e (entry_shown s.shown ∷ m)
      later_under s m f e named less under =
          let turned : name_cmp (name_of e) (name_of f) ≡ Greater = name_cmp_total.antisymm (name_of e) (name_of f) ∙ ap ordering_reverse less in
          let off : at (name_of e) (name_shown s.shown) ≡ false = ap (at (name_of e)) named ∙ ap is_eq turned in
          (under.0, at_later (name_of e) (entry_shown s.shown) m off ∙ under.1, under.2)

      -- every entry that is past the beginning has its object
      pub shows_under : (after : Option ObjectName) (files : ℕ → FileState) (steps : List ShownStep) (last : Option ObjectName) (left : ℕ → FileState)
          (shows : ShowsAll entries key after files steps last left) → HaveAll after files steps last left shows → IsNonePast entries last
          → (index : ℕ) (e : DirEntry) → entry_at entries index ≡ Some e → is_past after (name_of e) ≡ true → IsUnder e (objects_of steps)
      shows_under after files [] last left shows have none index e is past = absurd (none index e is (ap (λ (a : Option ObjectName). is_past a (name_of e)) shows.0 ∙ past))
      shows_under after files (s ∷ steps) last left shows have none index e is past =
          let shown = shows.0 in
          let named = shown_name after files s shown in
          (elim (name_cmp (name_of shown.entry) (name_of e)) as (λ o. name_cmp (name_of shown.entry) (name_of e) ≡ o → is_le o ≡ true → IsUnder e (objects_of (s ∷ steps))) [
            | Less ↦ λ h le.
                later_under s (objects_of steps) shown.entry e named h
                (shows_under (Some (name_shown s.shown)) s.files steps last left shows.1 have.1 none index e is
                (ap (λ (n : ObjectName). is_lt (name_cmp n (name_of e))) named ∙ ap is_lt h))
            | Equal ↦ λ h le. first_under after files s (objects_of steps) shown have.0 index e is h
            | Greater ↦ λ h le. absurd (true≢false (sym le))
          ]) refl (shown.next.least index e is past)
