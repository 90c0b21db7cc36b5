-- What a search among entries in order finds, and what a change at that place is.
use Rattle.std.proofs.Common.{◌≡◌, ℕ, suc, zero, ◌+◌, ◌<◌, ◌≤◌, Bool, true, false, cond, [], ◌∷◌, length, get_or, refl, sym, ap, ◌∙◌, Some, None, is_some, true≢false, arith, Result, Ok, Err, IfOk, IfErr}
use Rattle.std.specs.declared.cmp.Ordering.TheVariants.{Less, Equal, Greater}
use Rattle.std.specs.Ordering.{is_eq, is_lt, match_ordering, ordering_index}
use Rattle.std.specs.Map.{keys_of, lookup, remove_entry}
use Rattle.std.specs.BTreeMap.{insert_entry}
use Rattle.std.specs.List.{AllByRecursion, insert, remove}
use Rattle.std.specs.List.Sorted.{IsStrictlySortedBy, IsNonDecreasingBy, IsPartitionPoint, IsSearchInRange, IsBinarySearchResult}
use Rattle.std.proofs.lemmas.Cmp.{alike_right}
use Rattle.std.proofs.lemmas.List.{get_or-map}
use Rattle.std.proofs.lemmas.List.Sorted.{searchable_from_sorted}
use Rattle.std.proofs.lemmas.Map.Entries.{length-keys_of}
use Rattle.std.proofs.lemmas.Map.Keys.{Less-from_sorted}
use Rattle.store_model.specs.declared.name.ObjectName.{ObjectName}
use Rattle.store_model.specs.Name.{name_cmp}
use Rattle.dir_index.specs.Index.{IndexEntry, IndexEntries}
use Rattle.dir_index.specs.Search.{IsAt, IsGapFor}
use Rattle.dir_index.proofs.Names.{total, turned}

-- the two names are alike
abbrev pub at : ObjectName → ObjectName → Bool
at name n = is_eq (name_cmp name n)

-- ---- by places

pub less_by_place : (es : IndexEntries) → IsStrictlySortedBy name_cmp (keys_of es) → (i j : ℕ) (d : IndexEntry) → i < j → j < length es → name_cmp (get_or es i d).0 (get_or es j d).0 ≡ Less
less_by_place es sorted i j d lt within =
    let early : i < length es = omega arith in
    let low = get_or-map (λ (e : IndexEntry). e.0) es i d d.0 early in
    let high = get_or-map (λ (e : IndexEntry). e.0) es j d d.0 within in
    ap (λ n. name_cmp n (get_or es j d).0) (sym low)
    ∙ ap (name_cmp (get_or (keys_of es) i d.0)) (sym high)
    ∙ Less-from_sorted name_cmp (keys_of es) i j d.0 sorted lt (rw (length-keys_of es) within)

falls : (es : IndexEntries) → IsStrictlySortedBy name_cmp (keys_of es) → (k : ℕ) (d : IndexEntry) → 0 ≤ k → k + 1 < length es → is_lt (name_cmp (get_or es (k + 1) d).0 (get_or es k d).0) ≡ false
falls es sorted k d from within = ap is_lt (turned (get_or es k d).0 (get_or es (k + 1) d).0 Less (less_by_place es sorted k (k + 1) d (omega arith) within))

pub rises : (es : IndexEntries) (name : ObjectName) → IsStrictlySortedBy name_cmp (keys_of es) → IsNonDecreasingBy (λ e. ordering_index (name_cmp e.0 name)) es
rises es name sorted = searchable_from_sorted total (λ (e : IndexEntry). e.0) es name (falls es sorted)

-- ---- what a search finds

pub found : (es : IndexEntries) (name : ObjectName) (place : ℕ) → IsStrictlySortedBy name_cmp (keys_of es) → place < length es → ((d : IndexEntry) → name_cmp (get_or es place d).0 name ≡ Equal) → IsAt es name place
found es name place sorted within alike = record {
  within = within;
  below = λ k d lt. turned (get_or es k d).0 name Less (sym (alike_right total (get_or es place d).0 name (get_or es k d).0 (alike d)) ∙ less_by_place es sorted k place d lt within);
  alike = λ d. turned (get_or es place d).0 name Equal (alike d);
}

pub absent : (es : IndexEntries) (name : ObjectName) (place : ℕ) → place ≤ length es → IsPartitionPoint (λ e. name_cmp e.0 name ≡ Less) (λ e. name_cmp e.0 name ≡ Greater) es place → IsGapFor es name place
absent es name place within parted = record {
  within = within;
  below = λ k d lt. turned (get_or es k d).0 name Less (parted.0 k d (omega arith) lt);
  above = λ k d le lt. turned (get_or es k d).0 name Greater (parted.1 k d le lt);
}

-- ---- behind the first entry

at_tail : (e : IndexEntry) (es : IndexEntries) (name : ObjectName) (place : ℕ) → IsAt (e ∷ es) name (suc place) → IsAt es name place
at_tail e es name place h = record {
  within = omega (arith, h.within);
  below = λ k d lt. h.below (suc k) d (omega arith);
  alike = λ d. h.alike d;
}

gap_tail : (e : IndexEntry) (es : IndexEntries) (name : ObjectName) (place : ℕ) → IsGapFor (e ∷ es) name (suc place) → IsGapFor es name place
gap_tail e es name place h = record {
  within = omega (arith, h.within);
  below = λ k d lt. h.below (suc k) d (omega arith);
  above = λ k d le lt. h.above (suc k) d (omega arith) (omega arith);
}

-- ---- where the name is

pub lookup_at : (es : IndexEntries) (name : ObjectName) (place : ℕ) (d : IndexEntry) → IsAt es name place → lookup (at name) es ≡ Some (get_or es place d).1
lookup_at [] name place d h = absurd (omega (arith, h.within))
lookup_at (e ∷ es) name zero d h = ap (λ o. cond (is_eq o) (Some e.1) (lookup (at name) es)) (h.alike d)
lookup_at (e ∷ es) name (suc place) d h =
    ap (λ o. cond (is_eq o) (Some e.1) (lookup (at name) es)) (h.below 0 d (omega arith))
    ∙ lookup_at es name place d (at_tail e es name place h)

pub remove_at : (es : IndexEntries) (name : ObjectName) (place : ℕ) → IsAt es name place → remove es place ≡ remove_entry (at name) es
remove_at [] name place h = absurd (omega (arith, h.within))
remove_at (e ∷ es) name zero h = sym (ap (λ o. cond (is_eq o) es (e ∷ remove_entry (at name) es)) (h.alike e))
remove_at (e ∷ es) name (suc place) h =
    ap (λ rest. e ∷ rest) (remove_at es name place (at_tail e es name place h))
    ∙ sym (ap (λ o. cond (is_eq o) es (e ∷ remove_entry (at name) es)) (h.below 0 e (omega arith)))

-- ---- where it would go

first_above : (e : IndexEntry) (es : IndexEntries) (name : ObjectName) → IsGapFor (e ∷ es) name zero → name_cmp name e.0 ≡ Less
first_above e es name h = h.above 0 e (omega arith) (omega arith)

pub lookup_gap : (es : IndexEntries) (name : ObjectName) (place : ℕ) → IsGapFor es name place → lookup (at name) es ≡ None
lookup_gap [] name place h = refl
lookup_gap (e ∷ es) name zero h =
    ap (λ o. cond (is_eq o) (Some e.1) (lookup (at name) es)) (first_above e es name h)
    ∙ lookup_gap es name zero (record {
      within = omega arith;
      below = λ k d lt. absurd (omega arith);
      above = λ k d le lt. h.above (suc k) d (omega arith) (omega arith);
    })
lookup_gap (e ∷ es) name (suc place) h =
    ap (λ o. cond (is_eq o) (Some e.1) (lookup (at name) es)) (h.below 0 e (omega arith))
    ∙ lookup_gap es name place (gap_tail e es name place h)

pub insert_gap : (es : IndexEntries) (name : ObjectName) (index place : ℕ) → IsGapFor es name place → insert es place (name, index) ≡ insert_entry name_cmp es name index
insert_gap [] name index zero h = refl
insert_gap [] name index (suc place) h = refl
insert_gap (e ∷ es) name index zero h =
    sym (ap (λ o. match_ordering o ((name, index) ∷ e ∷ es) ((e.0, index) ∷ es) (e ∷ insert_entry name_cmp es name index)) (first_above e es name h))
insert_gap (e ∷ es) name index (suc place) h =
    ap (λ rest. e ∷ rest) (insert_gap es name index place (gap_tail e es name place h))
    ∙ sym (ap (λ o. match_ordering o ((name, index) ∷ e ∷ es) ((e.0, index) ∷ es) (e ∷ insert_entry name_cmp es name index)) (h.below 0 e (omega arith)))

-- ---- a name that is not held

pub remove_none : (es : IndexEntries) (name : ObjectName) → lookup (at name) es ≡ None → remove_entry (at name) es ≡ es
remove_none [] name h = refl
remove_none (e ∷ es) name h = (elim (at name e.0) as (λ b. cond b (Some e.1) (lookup (at name) es) ≡ None → cond b es (e ∷ remove_entry (at name) es) ≡ e ∷ es) [
  | true ↦ λ hit. absurd (true≢false (ap is_some hit))
  | false ↦ λ miss. ap (λ rest. e ∷ rest) (remove_none es name miss)
]) h

-- what is not held is not held without a name
pub lookup_without : (es : IndexEntries) (name other : ObjectName) → lookup (at other) es ≡ None → lookup (at other) (remove_entry (at name) es) ≡ None
lookup_without [] name other h = refl
lookup_without (e ∷ es) name other h = (elim (at other e.0) as (λ b. cond b (Some e.1) (lookup (at other) es) ≡ None → at other e.0 ≡ b → lookup (at other) (remove_entry (at name) (e ∷ es)) ≡ None) [
  | true ↦ λ hit is. absurd (true≢false (ap is_some hit))
  | false ↦ λ miss is. elim (at name e.0) as (λ b. lookup (at other) (cond b es (e ∷ remove_entry (at name) es)) ≡ None) [
    | true ↦ miss
    | false ↦ ap (λ b. cond b (Some e.1) (lookup (at other) (remove_entry (at name) es))) is ∙ lookup_without es name other miss
  ]
]) h refl

-- ---- the order stays

-- the name is below each of these
abbrev pub IsBelow : ObjectName → IndexEntries → Type 0
IsBelow name es = AllByRecursion (λ n. name_cmp name n ≡ Less) (keys_of es)

IsBelow-trans : (low high : ObjectName) (es : IndexEntries) → name_cmp low high ≡ Less → IsBelow high es → IsBelow low es
IsBelow-trans low high [] lt below = tt
IsBelow-trans low high (e ∷ es) lt below = (total.trans low high e.0 lt below.0, IsBelow-trans low high es lt below.1)

IsBelow-insert : (low name : ObjectName) (index : ℕ) (es : IndexEntries) → name_cmp low name ≡ Less → IsBelow low es → IsBelow low (insert_entry name_cmp es name index)
IsBelow-insert low name index [] lt below = (lt, tt)
IsBelow-insert low name index (e ∷ es) lt below = elim (name_cmp name e.0) as (λ o. IsBelow low (match_ordering o ((name, index) ∷ e ∷ es) ((e.0, index) ∷ es) (e ∷ insert_entry name_cmp es name index))) [
  | Less ↦ (lt, below)
  | Equal ↦ below
  | Greater ↦ (below.0, IsBelow-insert low name index es lt below.1)
]

IsBelow-remove : (low name : ObjectName) (es : IndexEntries) → IsBelow low es → IsBelow low (remove_entry (at name) es)
IsBelow-remove low name [] below = tt
IsBelow-remove low name (e ∷ es) below = elim (at name e.0) as (λ b. IsBelow low (cond b es (e ∷ remove_entry (at name) es))) [
  | true ↦ below.1
  | false ↦ (below.0, IsBelow-remove low name es below.1)
]

pub sorted_insert : (es : IndexEntries) (name : ObjectName) (index : ℕ) → IsStrictlySortedBy name_cmp (keys_of es) → IsStrictlySortedBy name_cmp (keys_of (insert_entry name_cmp es name index))
unfolding IsStrictlySortedBy
sorted_insert [] name index sorted = (tt, tt)
sorted_insert (e ∷ es) name index sorted = (elim (name_cmp name e.0) as (λ o. name_cmp name e.0 ≡ o → IsStrictlySortedBy name_cmp (keys_of (match_ordering o ((name, index) ∷ e ∷ es) ((e.0, index) ∷ es) (e ∷ insert_entry name_cmp es name index)))) [
  | Less ↦ λ is. ((is, IsBelow-trans name e.0 es is sorted.0), sorted)
  | Equal ↦ λ is. sorted
  | Greater ↦ λ is. (IsBelow-insert e.0 name index es (turned name e.0 Greater is) sorted.0, sorted_insert es name index sorted.1)
]) refl

pub sorted_remove : (es : IndexEntries) (name : ObjectName) → IsStrictlySortedBy name_cmp (keys_of es) → IsStrictlySortedBy name_cmp (keys_of (remove_entry (at name) es))
unfolding IsStrictlySortedBy
sorted_remove [] name sorted = tt
sorted_remove (e ∷ es) name sorted = elim (at name e.0) as (λ b. IsStrictlySortedBy name_cmp (keys_of (cond b es (e ∷ remove_entry (at name) es)))) [
  | true ↦ sorted.1
  | false ↦ (IsBelow-remove e.0 name es sorted.0, sorted_remove es name sorted.1)
]

pub sorted_none : IsStrictlySortedBy name_cmp (keys_of {K = ObjectName} {X = ℕ} [])
unfolding IsStrictlySortedBy
sorted_none = tt

-- ---- a binary search

pub search_found : (es : IndexEntries) (name : ObjectName) (r : Result ℕ ℕ) → IsStrictlySortedBy name_cmp (keys_of es) → IsSearchInRange r (length es) → IsBinarySearchResult (λ e. name_cmp e.0 name) es r → IfOk r (IsAt es name)
search_found es name (Ok place) sorted within alike = found es name place sorted within alike
search_found es name (Err place) sorted within parted = tt

pub search_absent : (es : IndexEntries) (name : ObjectName) (r : Result ℕ ℕ) → IsStrictlySortedBy name_cmp (keys_of es) → IsSearchInRange r (length es) → IsBinarySearchResult (λ e. name_cmp e.0 name) es r → IfErr r (IsGapFor es name)
search_absent es name (Ok place) sorted within alike = tt
search_absent es name (Err place) sorted within parted = absent es name place within (parted (rises es name sorted))
