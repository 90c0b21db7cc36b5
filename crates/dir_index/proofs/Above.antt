-- What a search for the least name above finds.
use Rattle.std.proofs.Common.{◌≡◌, ℕ, suc, zero, ◌<◌, ◌≤◌, true, false, cond, ◌&&◌, List, [], ◌∷◌, length, get_or, refl, sym, ap, ◌∙◌, Option, Some, None, is_some, IsSome, subst, unwrap_or, true≢false, arith, slice_get, inl, inr}
use Rattle.std.proofs.lemmas.Bool.{cases_lt}
use Rattle.std.proofs.lemmas.Option.{slice_get_read}
use Rattle.std.specs.declared.cmp.Ordering.{Ordering}
use Rattle.std.specs.declared.cmp.Ordering.TheVariants.{Less, Equal, Greater}
use Rattle.std.specs.Ordering.{is_eq, is_lt, is_le, is_gt, match_ordering, ordering_then}
use Rattle.std.specs.Map.{keys_of, lookup}
use Rattle.std.specs.List.{find}
use Rattle.std.specs.List.Sorted.{IsStrictlySortedBy, IsPartitionedBy}
use Rattle.std.proofs.lemmas.Cmp.{nat_list_cmp_total, alike_right, tied_itself}
use Rattle.tee_types.specs.Identifier.{bytes_cmp}
use Rattle.store_model.specs.declared.name.ObjectName.{ObjectName}
use Rattle.store_model.specs.Name.{name_cmp}
use Rattle.dir_index.specs.Index.{IndexEntry, IndexEntries, IndexState, named}
use Rattle.dir_index.specs.Above.{is_above, IsLeastAbove}
use Rattle.dir_index.specs.Search.{is_upto, precedes, IsBoundary}
use Rattle.dir_index.proofs.Names.{total, turned, bytes_turned, equal_bytes, equal_names, less_not_greater}
use Rattle.dir_index.proofs.Places.{at, less_by_place, IsBelow}

-- ---- a lesser name precedes where a greater one does

upto_down : (after : Option (List ℕ)) (a b : List ℕ) → bytes_cmp a b ≡ Less → is_upto after b ≡ true → is_upto after a ≡ true
upto_down None a b lt h = absurd (true≢false (sym h))
upto_down (Some x) a b lt h = (elim (bytes_cmp b x) as (λ o. bytes_cmp b x ≡ o → is_le o ≡ true → is_le (bytes_cmp a x) ≡ true) [
  | Less ↦ λ is h. ap is_le (nat_list_cmp_total.trans a b x lt is)
  | Equal ↦ λ is h. ap is_le (sym (alike_right nat_list_cmp_total b x a is) ∙ lt)
  | Greater ↦ λ is h. absurd (true≢false (sym h))
]) refl h

-- by the order of the applications, a's to b's
down_by : (app : List ℕ) (after : Option (List ℕ)) (a b : ObjectName) (o : Ordering) → bytes_cmp a.app b.app ≡ o → ordering_then o (bytes_cmp a.id b.id) ≡ Less → precedes app after b ≡ true → precedes app after a ≡ true
down_by app after a b Less is lt h = (elim (bytes_cmp b.app app) as (λ o. bytes_cmp b.app app ≡ o → match_ordering o true (is_upto after b.id) false ≡ true → precedes app after a ≡ true) [
  | Less ↦ λ to h. ap (λ o. match_ordering o true (is_upto after a.id) false) (nat_list_cmp_total.trans a.app b.app app is to)
  | Equal ↦ λ to h. ap (λ o. match_ordering o true (is_upto after a.id) false) (sym (alike_right nat_list_cmp_total b.app app a.app to) ∙ is)
  | Greater ↦ λ to h. absurd (true≢false (sym h))
]) refl h
down_by app after a b Equal is lt h =
    ap (λ o. match_ordering o true (is_upto after a.id) false) (nat_list_cmp_total.congr a.app b.app app is)
    ∙ ((elim (bytes_cmp b.app app) as (λ o. match_ordering o true (is_upto after b.id) false ≡ true → match_ordering o true (is_upto after a.id) false ≡ true) [
      | Less ↦ λ h. refl
      | Equal ↦ λ h. upto_down after a.id b.id lt h
      | Greater ↦ λ h. h
    ]) h)
down_by app after a b Greater is lt h = absurd (less_not_greater (sym lt))

precedes_down : (app : List ℕ) (after : Option (List ℕ)) (a b : ObjectName) → name_cmp a b ≡ Less → precedes app after b ≡ true → precedes app after a ≡ true
precedes_down app after a b lt h = down_by app after a b (bytes_cmp a.app b.app) refl lt h

pub partitioned : (app : List ℕ) (after : Option (List ℕ)) (es : IndexEntries) → IsStrictlySortedBy name_cmp (keys_of es) → IsPartitionedBy (λ e. precedes app after e.0) es
partitioned app after es sorted i j d le within h = elim (cases_lt i j) [
  | inl lt ↦ precedes_down app after (get_or es i d).0 (get_or es j d).0 (less_by_place es sorted i j d lt within) h
  | inr not_less ↦ let same : i ≡ j = omega arith in ap (λ k. precedes app after (get_or es k d).0) same ∙ h
]

-- ---- one name

above_by : (app : List ℕ) (after : Option (List ℕ)) (n : ObjectName) → bytes_cmp app n.app ≡ Equal → is_upto after n.id ≡ false → is_above app after n ≡ true
above_by app None n is h = ap is_eq is
above_by app (Some x) n is h = (elim (bytes_cmp n.id x) as (λ o. bytes_cmp n.id x ≡ o → is_le o ≡ false → is_above app (Some x) n ≡ true) [
  | Less ↦ λ to h. absurd (true≢false h)
  | Equal ↦ λ to h. absurd (true≢false h)
  | Greater ↦ λ to h. (λ i. is_eq (is i) && is_lt (bytes_turned n.id x Greater to i))
]) refl h

not_above_upto : (app : List ℕ) (after : Option (List ℕ)) (n : ObjectName) → bytes_cmp app n.app ≡ Equal → is_upto after n.id ≡ true → is_above app after n ≡ false
not_above_upto app None n is h = absurd (true≢false (sym h))
not_above_upto app (Some x) n is h = (elim (bytes_cmp n.id x) as (λ o. bytes_cmp n.id x ≡ o → is_le o ≡ true → is_above app (Some x) n ≡ false) [
  | Less ↦ λ to h. (λ i. is_eq (is i) && is_lt (bytes_turned n.id x Less to i))
  | Equal ↦ λ to h. (λ i. is_eq (is i) && is_lt (bytes_turned n.id x Equal to i))
  | Greater ↦ λ to h. absurd (true≢false (sym h))
]) refl h

not_above_other : (app : List ℕ) (after : Option (List ℕ)) (n : ObjectName) → is_eq (bytes_cmp app n.app) ≡ false → is_above app after n ≡ false
not_above_other app None n h = h
not_above_other app (Some x) n h = ap (λ b. b && is_lt (bytes_cmp x n.id)) h

preceding_not_above : (app : List ℕ) (after : Option (List ℕ)) (n : ObjectName) → precedes app after n ≡ true → is_above app after n ≡ false
preceding_not_above app after n h = (elim (bytes_cmp n.app app) as (λ o. bytes_cmp n.app app ≡ o → match_ordering o true (is_upto after n.id) false ≡ true → is_above app after n ≡ false) [
  | Less ↦ λ is h. not_above_other app after n (ap is_eq (bytes_turned n.app app Less is))
  | Equal ↦ λ is h. not_above_upto app after n (bytes_turned n.app app Equal is) h
  | Greater ↦ λ is h. absurd (true≢false (sym h))
]) refl h

-- ---- the first entry that is above

-- the entry, where it is one of the application
abbrev pub if_of : List ℕ → Option IndexEntry → Option IndexEntry
if_of app None = None
if_of app (Some e) = cond (is_eq (bytes_cmp app e.0.app)) (Some e) None

-- an application below that of a name is below that of each name above
below_app : (app : List ℕ) (n m : ObjectName) (o : Ordering) → bytes_cmp n.app m.app ≡ o → ordering_then o (bytes_cmp n.id m.id) ≡ Less → bytes_cmp app n.app ≡ Less → bytes_cmp app m.app ≡ Less
below_app app n m Less is lt low = nat_list_cmp_total.trans app n.app m.app low is
below_app app n m Equal is lt low = sym (alike_right nat_list_cmp_total n.app m.app app is) ∙ low
below_app app n m Greater is lt low = absurd (less_not_greater (sym lt))

none_behind : (app : List ℕ) (after : Option (List ℕ)) (name : ObjectName) (es : IndexEntries) → bytes_cmp app name.app ≡ Less → IsBelow name es → find (λ e. is_above app after e.0) es ≡ None
none_behind app after name [] low below = refl
none_behind app after name (e ∷ es) low below =
    ap (λ b. cond b (Some e) (find (λ e. is_above app after e.0) es))
    (not_above_other app after e.0 (ap is_eq (below_app app name e.0 (bytes_cmp name.app e.0.app) refl below.0 low)))
    ∙ none_behind app after name es low below.1

boundary_tail : (app : List ℕ) (after : Option (List ℕ)) (e : IndexEntry) (es : IndexEntries) (place : ℕ) → IsBoundary (e ∷ es) app after (suc place) → IsBoundary es app after place
boundary_tail app after e es place h = record {
  within = omega (arith, h.within);
  before = λ k d lt. h.before (suc k) d (omega arith);
  behind = λ k d le lt. h.behind (suc k) d (omega arith) (omega arith);
}

pub find_boundary : (app : List ℕ) (after : Option (List ℕ)) (es : IndexEntries) (place : ℕ) → IsStrictlySortedBy name_cmp (keys_of es) → IsBoundary es app after place → find (λ e. is_above app after e.0) es ≡ if_of app (slice_get es place)
unfolding IsStrictlySortedBy
find_boundary app after [] place sorted h = refl
find_boundary app after (e ∷ es) zero sorted h = (elim (bytes_cmp e.0.app app) as (λ o. bytes_cmp e.0.app app ≡ o → match_ordering o true (is_upto after e.0.id) false ≡ false → find (λ e. is_above app after e.0) (e ∷ es) ≡ cond (is_eq (bytes_cmp app e.0.app)) (Some e) None) [
  | Less ↦ λ is h. absurd (true≢false h)
  | Equal ↦ λ is h.
      let back = bytes_turned e.0.app app Equal is in
      ap (λ b. cond b (Some e) (find (λ e. is_above app after e.0) es)) (above_by app after e.0 back h)
      ∙ sym (ap (λ o. cond (is_eq o) (Some e) None) back)
  | Greater ↦ λ is h.
      let back = bytes_turned e.0.app app Greater is in
      ap (λ b. cond b (Some e) (find (λ e. is_above app after e.0) es)) (not_above_other app after e.0 (ap is_eq back))
      ∙ none_behind app after e.0 es back sorted.0
      ∙ sym (ap (λ o. cond (is_eq o) (Some e) None) back)
]) refl (h.behind 0 e (omega arith) (omega arith))
find_boundary app after (e ∷ es) (suc place) sorted h =
    ap (λ b. cond b (Some e) (find (λ e. is_above app after e.0) es)) (preceding_not_above app after e.0 (h.before 0 e (omega arith)))
    ∙ find_boundary app after es place sorted.1 (boundary_tail app after e es place h)

-- ---- it is the least one

-- a name that is held among greater ones is greater
held_behind : (low name : ObjectName) (es : IndexEntries) → IsBelow low es → IsSome (lookup (at name) es) → name_cmp low name ≡ Less
held_behind low name [] below held = absurd (true≢false (sym held))
held_behind low name (e ∷ es) below held = (elim (name_cmp name e.0) as (λ o. name_cmp name e.0 ≡ o → IsSome (cond (is_eq o) (Some e.1) (lookup (at name) es)) → name_cmp low name ≡ Less) [
  | Less ↦ λ is held. held_behind low name es below.1 held
  | Equal ↦ λ is held. alike_right total name e.0 low is ∙ below.0
  | Greater ↦ λ is held. held_behind low name es below.1 held
]) refl held

-- the entry is the least of those that are above: its name is held with its index, is above, and none that is is less
record IsFirst (app : List ℕ) (after : Option (List ℕ)) (es : IndexEntries) (f : IndexEntry) : Type 0 where
  held : lookup (at f.0) es ≡ Some f.1
  above : is_above app after f.0 ≡ true
  least : (n : ObjectName) → IsSome (lookup (at n) es) → is_above app after n ≡ true → is_gt (name_cmp f.0 n) ≡ false

first_here : (app : List ℕ) (after : Option (List ℕ)) (e : IndexEntry) (es : IndexEntries) → IsBelow e.0 es → is_above app after e.0 ≡ true → IsFirst app after (e ∷ es) e
first_here app after e es below above = record {
  held = ap (λ o. cond (is_eq o) (Some e.1) (lookup (at e.0) es)) (tied_itself total e.0);
  above = above;
  least = λ n held above_n. (elim (name_cmp n e.0) as (λ o. name_cmp n e.0 ≡ o → IsSome (cond (is_eq o) (Some e.1) (lookup (at n) es)) → is_gt (name_cmp e.0 n) ≡ false) [
    | Less ↦ λ is held. ap is_gt (held_behind e.0 n es below held)
    | Equal ↦ λ is held. ap is_gt (turned n e.0 Equal is)
    | Greater ↦ λ is held. ap is_gt (held_behind e.0 n es below held)
  ]) refl held;
}

first_behind : (app : List ℕ) (after : Option (List ℕ)) (e : IndexEntry) (es : IndexEntries) (f : IndexEntry) → IsBelow e.0 es → is_above app after e.0 ≡ false → IsFirst app after es f → IsFirst app after (e ∷ es) f
first_behind app after e es f below miss h = record {
  held =
      let greater = held_behind e.0 f.0 es below (ap is_some h.held) in
      ap (λ o. cond (is_eq o) (Some e.1) (lookup (at f.0) es)) (turned e.0 f.0 Less greater) ∙ h.held;
  above = h.above;
  least = λ n held above. (elim (name_cmp n e.0) as (λ o. name_cmp n e.0 ≡ o → IsSome (cond (is_eq o) (Some e.1) (lookup (at n) es)) → is_gt (name_cmp f.0 n) ≡ false) [
    | Less ↦ λ is held. h.least n held above
    | Equal ↦ λ is held. absurd (true≢false (sym above ∙ ap (is_above app after) (equal_names n e.0 is) ∙ miss))
    | Greater ↦ λ is held. h.least n held above
  ]) refl held;
}

first_found : (app : List ℕ) (after : Option (List ℕ)) (es : IndexEntries) (f : IndexEntry) → IsStrictlySortedBy name_cmp (keys_of es) → find (λ e. is_above app after e.0) es ≡ Some f → IsFirst app after es f
unfolding IsStrictlySortedBy
first_found app after [] f sorted h = absurd (true≢false (sym (ap is_some h)))
first_found app after (e ∷ es) f sorted h = (elim (is_above app after e.0) as (λ b. is_above app after e.0 ≡ b → cond b (Some e) (find (λ e. is_above app after e.0) es) ≡ Some f → IsFirst app after (e ∷ es) f) [
  | true ↦ λ is h. subst (IsFirst app after (e ∷ es)) (ap (λ found. unwrap_or found e) h) (first_here app after e es sorted.0 is)
  | false ↦ λ is h. first_behind app after e es f sorted.0 is (first_found app after es f sorted.1 h)
]) refl h

-- an identifier is up to another where the names of one application are
upto_by_names : (app a b : List ℕ) → is_gt (name_cmp (named app a) (named app b)) ≡ false → is_le (bytes_cmp a b) ≡ true
upto_by_names app a b h =
    (elim (bytes_cmp a b) as (λ o. is_gt o ≡ false → is_le o ≡ true) [
      | Less ↦ λ h. refl
      | Equal ↦ λ h. refl
      | Greater ↦ λ h. absurd (true≢false h)
    ]) (sym (ap (λ o. is_gt (ordering_then o (bytes_cmp a b))) (tied_itself nat_list_cmp_total app)) ∙ h)

named_of : (app : List ℕ) (n : ObjectName) → app ≡ n.app → n ≡ named app n.id
named_of app n h i = record { app = sym h i; id = n.id }

app_of : (app : List ℕ) (after : Option (List ℕ)) (n : ObjectName) → is_above app after n ≡ true → app ≡ n.app
app_of app after n h = (elim (bytes_cmp app n.app) as (λ o. bytes_cmp app n.app ≡ o → app ≡ n.app) [
  | Less ↦ λ is. absurd (true≢false (sym h ∙ not_above_other app after n (ap is_eq is)))
  | Equal ↦ λ is. equal_bytes app n.app is
  | Greater ↦ λ is. absurd (true≢false (sym h ∙ not_above_other app after n (ap is_eq is)))
]) refl

-- the entry under the name of its application and its identifier
first_named : (app : List ℕ) (after : Option (List ℕ)) (es : IndexEntries) (f : IndexEntry) → IsFirst app after es f → IsFirst app after es (named app (f.0).id, f.1)
first_named app after es f h = subst (λ n. IsFirst app after es (n, f.1)) (named_of app f.0 (app_of app after f.0 h.above)) h

least_of_first : (s : IndexState) (app : List ℕ) (after : Option (List ℕ)) (id : List ℕ) (index : ℕ) → IsFirst app after s.entries (named app id, index) → IsLeastAbove s app after id index
least_of_first s app after id index h = record {
  held = h.held;
  above = h.above;
  least = λ other held above. upto_by_names app id other (h.least (named app other) held above);
}

pub least_found : (s : IndexState) (app : List ℕ) (after : Option (List ℕ)) (f : IndexEntry) → IsStrictlySortedBy name_cmp (keys_of s.entries) → find (λ e. is_above app after e.0) s.entries ≡ Some f → IsLeastAbove s app after (f.0).id f.1
least_found s app after f sorted h = least_of_first s app after (f.0).id f.1 (first_named app after s.entries f (first_found app after s.entries f sorted h))

pub none_found : (app : List ℕ) (after : Option (List ℕ)) (es : IndexEntries) → find (λ e. is_above app after e.0) es ≡ None → (n : ObjectName) → is_above app after n ≡ true → lookup (at n) es ≡ None
none_found app after [] h n above = refl
none_found app after (e ∷ es) h n above = (elim (is_above app after e.0) as (λ b. is_above app after e.0 ≡ b → cond b (Some e) (find (λ e. is_above app after e.0) es) ≡ None → lookup (at n) (e ∷ es) ≡ None) [
  | true ↦ λ is h. absurd (true≢false (ap is_some h))
  | false ↦ λ is h. (elim (name_cmp n e.0) as (λ o. name_cmp n e.0 ≡ o → cond (is_eq o) (Some e.1) (lookup (at n) es) ≡ None) [
    | Less ↦ λ to. none_found app after es h n above
    | Equal ↦ λ to. absurd (true≢false (sym above ∙ ap (is_above app after) (equal_names n e.0 to) ∙ is))
    | Greater ↦ λ to. none_found app after es h n above
  ]) refl
]) refl h

-- ---- what lies at the boundary

slice_get-past : (es : IndexEntries) (place : ℕ) → length es ≤ place → slice_get es place ≡ None
slice_get-past [] place past = refl
slice_get-past (e ∷ es) zero past = absurd (omega arith)
slice_get-past (e ∷ es) (suc place) past = slice_get-past es place (omega arith)

pub found_end : (app : List ℕ) (after : Option (List ℕ)) (es : IndexEntries) (place : ℕ) → IsStrictlySortedBy name_cmp (keys_of es) → IsBoundary es app after place → length es ≤ place → find (λ e. is_above app after e.0) es ≡ None
found_end app after es place sorted h past = find_boundary app after es place sorted h ∙ ap (if_of app) (slice_get-past es place past)

module _ (app : List ℕ) (after : Option (List ℕ)) (es : IndexEntries) (place : ℕ) (f : IndexEntry) (sorted : IsStrictlySortedBy name_cmp (keys_of es)) (h : IsBoundary es app after place) (within : place < length es) (is : f ≡ get_or es place f) where
  there : find (λ e. is_above app after e.0) es ≡ cond (is_eq (bytes_cmp app f.0.app)) (Some f) None
  there = find_boundary app after es place sorted h ∙ ap (if_of app) (slice_get_read es (length es) place f refl within is)

  pub found_there : is_eq (bytes_cmp app f.0.app) ≡ true → find (λ e. is_above app after e.0) es ≡ Some f
  found_there same = there ∙ ap (λ b. cond b (Some f) None) same

  pub found_other : is_eq (bytes_cmp app f.0.app) ≡ false → find (λ e. is_above app after e.0) es ≡ None
  found_other other = there ∙ ap (λ b. cond b (Some f) None) other
