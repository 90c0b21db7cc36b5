-- The least of the names so far.
use Rattle.std.proofs.Common.{◌≡◌, ◌∙◌, ◌+◌, ◌<◌, ◌&&◌, if◌then◌else◌, ℕ, Bool, true, false, List, Option, Some, None, length, refl, sym, ap, subst, inl, inr, arith, true≢false}
use Rattle.std.specs.Ordering.{is_le, is_lt, ordering_reverse}
use Rattle.std.specs.declared.cmp.Ordering.{Ordering}
use Rattle.std.specs.declared.cmp.Ordering.TheVariants.{Less, Equal, Greater}
use Rattle.std.proofs.lemmas.Bool.{cases_lt}
use Rattle.std.proofs.lemmas.Cmp.{alike_right}
use Rattle.store_model.specs.declared.name.ObjectName.{ObjectName}
use Rattle.store_model.specs.Name.{name_cmp}
use Rattle.store_model.proofs.Maps.{name_cmp_total}
use Rattle.dir_records.specs.declared.entry.DirEntry.{DirEntry}
use Rattle.crash_core.specs.Entries.{name_of}
use Rattle.crash_core.specs.EntryLists.{entry_at}
use Rattle.crash_core.proofs.Doubles.{below as at_below}
use Rattle.crash_core.proofs.EntryMaps.{self}
use Rattle.object_calls.specs.OpeningEntries.{IsNextEntry, is_nearer, is_past, nearer_of}

-- the least above among the first entries
pub record IsLeastBefore (entries : List (Option DirEntry)) (after : Option ObjectName) (count : ℕ) (e : DirEntry) : Type 0 where
  pub index : ℕ
  pub within : index < count
  pub at : entry_at entries index ≡ Some e
  pub past : is_past after (name_of e) ≡ true
  pub least : (other : ℕ) (f : DirEntry) → other < count → entry_at entries other ≡ Some f → is_past after (name_of f) ≡ true → is_le (name_cmp (name_of e) (name_of f)) ≡ true

abbrev pub IsNextBefore : List (Option DirEntry) → Option ObjectName → (count : ℕ) → Option DirEntry → Type 0
IsNextBefore entries after count (Some e) = IsLeastBefore entries after count e
IsNextBefore entries after count None = (index : ℕ) (e : DirEntry) → index < count → entry_at entries index ≡ Some e → is_past after (name_of e) ≡ true → ⊥

-- what is not above is no greater
not_less : (a b : ObjectName) → is_lt (name_cmp a b) ≡ false → is_le (name_cmp b a) ≡ true
not_less a b far = (elim (name_cmp a b) as (λ o. name_cmp a b ≡ o → is_lt o ≡ false → is_le (name_cmp b a) ≡ true) [
  | Less ↦ λ h low. absurd (true≢false low)
  | Equal ↦ λ h low. ap is_le (name_cmp_total.antisymm b a ∙ ap ordering_reverse h)
  | Greater ↦ λ h low. ap is_le (name_cmp_total.antisymm b a ∙ ap ordering_reverse h)
]) refl far

is_less : (o : Ordering) → is_lt o ≡ true → o ≡ Less
is_less Less is = refl
is_less Equal is = absurd (true≢false (sym is))
is_less Greater is = absurd (true≢false (sym is))

-- below one that is no greater
less_then : (a b c : ObjectName) → name_cmp a b ≡ Less → is_le (name_cmp b c) ≡ true → is_le (name_cmp a c) ≡ true
less_then a b c less upto = (elim (name_cmp b c) as (λ o. name_cmp b c ≡ o → is_le o ≡ true → is_le (name_cmp a c) ≡ true) [
  | Less ↦ λ h is. ap is_le (name_cmp_total.trans a b c less h)
  | Equal ↦ λ h is. ap is_le (sym (alike_right name_cmp_total b c a h) ∙ less)
  | Greater ↦ λ h is. absurd (true≢false (sym is))
]) refl upto

pub next_none : (entries : List (Option DirEntry)) (after : Option ObjectName) → IsNextBefore entries after 0 None
next_none entries after index e lt at past = absurd (omega (arith, lt))

module _ (entries : List (Option DirEntry)) (after : Option ObjectName) (i : ℕ) where
  -- the best stays where the entry at the place is not above, or not below the best
  kept : (best : Option DirEntry) → IsNextBefore entries after i best
      → ((f : DirEntry) → entry_at entries i ≡ Some f → is_past after (name_of f) ≡ true → is_nearer best (name_of f) ≡ false) → IsNextBefore entries after (i + 1) best
  kept None before far = λ index e lt at past. elim (cases_lt index i) [
    | inl low ↦ before index e low at past
    | inr high ↦
        let same : index ≡ i = omega (arith, lt, high) in
        true≢false (far e (sym (ap (entry_at entries) same) ∙ at) past)
  ]
  kept (Some best) before far = record {
    index = before.index;
    within = omega (arith, before.within);
    at = before.at;
    past = before.past;
    least = λ other f lt there past. elim (cases_lt other i) [
      | inl low ↦ before.least other f low there past
      | inr high ↦
          let same : other ≡ i = omega (arith, lt, high) in
          not_less (name_of f) (name_of best) (far f (sym (ap (entry_at entries) same) ∙ there) past)
    ];
  }

  -- no earlier one is less than an entry that is nearer than the best
  earlier : (best : Option DirEntry) (e : DirEntry) → IsNextBefore entries after i best → is_nearer best (name_of e) ≡ true
      → (other : ℕ) (f : DirEntry) → other < i → entry_at entries other ≡ Some f → is_past after (name_of f) ≡ true → is_le (name_cmp (name_of e) (name_of f)) ≡ true
  earlier None e before near other f lt there past = absurd (before other f lt there past)
  earlier (Some best) e before near other f lt there past =
      less_then (name_of e) (name_of best) (name_of f) (is_less (name_cmp (name_of e) (name_of best)) near) (before.least other f lt there past)

  found : (best : Option DirEntry) (e : DirEntry) → entry_at entries i ≡ Some e → is_past after (name_of e) ≡ true → is_nearer best (name_of e) ≡ true → IsNextBefore entries after i best
      → IsLeastBefore entries after (i + 1) e
  found best e at past near before = record {
    index = i;
    within = omega arith;
    at = at;
    past = past;
    least = λ other f lt there past. elim (cases_lt other i) [
      | inl low ↦ earlier best e before near other f low there past
      | inr high ↦
          let same : other ≡ i = omega (arith, lt, high) in
          let here : entry_at entries other ≡ Some e = ap (entry_at entries) same ∙ at in
          let is : f ≡ e = cc (there, here) in
          subst (λ (x : DirEntry). is_le (name_cmp (name_of e) (name_of x)) ≡ true) (sym is) (ap is_le (self (name_of e)))
    ];
  }

  by_tests : (best : Option DirEntry) (e : DirEntry) → entry_at entries i ≡ Some e → IsNextBefore entries after i best → (p q : Bool) → is_past after (name_of e) ≡ p → is_nearer best (name_of e) ≡ q
      → IsNextBefore entries after (i + 1) (if p && q then Some e else best)
  by_tests best e at before false q below near =
      kept best before (λ f there past. let is : f ≡ e = cc (there, at) in absurd (true≢false (sym past ∙ ap (λ (x : DirEntry). is_past after (name_of x)) is ∙ below)))
  by_tests best e at before true false past_it far =
      kept best before (λ f there past. let is : f ≡ e = cc (there, at) in ap (λ (x : DirEntry). is_nearer best (name_of x)) is ∙ far)
  by_tests best e at before true true past_it near = found best e at past_it near before

  pub next_step : (best entry : Option DirEntry) → entry_at entries i ≡ entry → IsNextBefore entries after i best → IsNextBefore entries after (i + 1) (nearer_of after best entry)
  next_step best None at before = kept best before (λ f there past. absurd (cc (there, at)))
  next_step best (Some e) at before = by_tests best e at before (is_past after (name_of e)) (is_nearer best (name_of e)) refl refl

-- behind the last entry
pub next_whole : (entries : List (Option DirEntry)) (after : Option ObjectName) (count : ℕ) (best : Option DirEntry) → length entries ≡ count → IsNextBefore entries after count best → IsNextEntry entries after best
next_whole entries after count None long before = λ index e at past. before index e (omega (arith, long, at_below entries index e at)) at past
next_whole entries after count (Some e) long before = record {
  index = before.index;
  at = before.at;
  past = before.past;
  least = λ other f there past. before.least other f (omega (arith, long, at_below entries other f there)) there past;
}
