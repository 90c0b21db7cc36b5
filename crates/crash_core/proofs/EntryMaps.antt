-- Maps of objects: insertions commute, what was inserted is removed, and what is held at one place can be told from the rest.
use Rattle.std.proofs.Common.{◌≡◌, ◌≢◌, ◌<◌, ℕ, zero, suc, Bool, true, false, cond, List, [], ◌∷◌, length, ap, sym, subst, ◌∙◌, refl, Option, Some, None, true≢false, is_eq, arith}
use Rattle.std.specs.Prelude.{slice_set}
use Rattle.std.specs.declared.cmp.Ordering.{Ordering}
use Rattle.std.specs.declared.cmp.Ordering.TheVariants.{Less, Equal, Greater}
use Rattle.std.specs.Ordering.{match_ordering, ordering_reverse}
use Rattle.std.specs.Map.{remove_entry}
use Rattle.std.specs.BTreeMap.{insert_entry}
use Rattle.std.proofs.lemmas.Cmp.{tied_itself}
use Rattle.store_model.specs.declared.name.ObjectName.{ObjectName}
use Rattle.store_model.specs.Name.{name_cmp}
use Rattle.store_model.specs.Object.{Object, ObjectMap, with_object}
use Rattle.store_model.proofs.Maps.{name_cmp_total}
use Rattle.crash_core.specs.Entries.{name_of}
use Rattle.crash_core.specs.Mounting.{Held, map_of}
use Rattle.crash_core.specs.Holding.{held_at}

-- the two names are alike
abbrev pub is_at : ObjectName → ObjectName → Bool
is_at name n = is_eq (name_cmp name n)

-- what an insertion does, by how the name compares to the first
pub ins : (k : ObjectName) (v : Object) (e : ObjectName × Object) (es : ObjectMap) (o : Ordering) → name_cmp k e.0 ≡ o
    → insert_entry name_cmp (e ∷ es) k v ≡ match_ordering o ((k, v) ∷ e ∷ es) ((e.0, v) ∷ es) (e ∷ insert_entry name_cmp es k v)
ins k v e es o is = ap (λ c. match_ordering c ((k, v) ∷ e ∷ es) ((e.0, v) ∷ es) (e ∷ insert_entry name_cmp es k v)) is

pub self : (a : ObjectName) → name_cmp a a ≡ Equal
self a = tied_itself name_cmp_total a

turned : (a b : ObjectName) → name_cmp a b ≡ Less → name_cmp b a ≡ Greater
turned a b is = name_cmp_total.antisymm b a ∙ ap ordering_reverse is

turned_back : (a b : ObjectName) → name_cmp a b ≡ Greater → name_cmp b a ≡ Less
turned_back a b is = name_cmp_total.antisymm b a ∙ ap ordering_reverse is

pub tied : (a b : ObjectName) → name_cmp a b ≡ Equal → name_cmp b a ≡ Equal
tied a b is = name_cmp_total.antisymm b a ∙ ap ordering_reverse is

-- b is above what a is tied to
above_tied : (a b k : ObjectName) → name_cmp a b ≡ Less → name_cmp a k ≡ Equal → name_cmp b k ≡ Greater
above_tied a b k less same = turned k b (sym (name_cmp_total.congr a k b same) ∙ less)

insert_comm_less : (m : ObjectMap) (a b : ObjectName) (x y : Object) → name_cmp a b ≡ Less
    → insert_entry name_cmp (insert_entry name_cmp m a x) b y ≡ insert_entry name_cmp (insert_entry name_cmp m b y) a x
insert_comm_less [] a b x y less = ins b y (a, x) [] Greater (turned a b less) ∙ sym (ins a x (b, y) [] Less less)
insert_comm_less (e ∷ es) a b x y less = (elim (name_cmp a e.0) as (λ o. name_cmp a e.0 ≡ o
    → insert_entry name_cmp (insert_entry name_cmp (e ∷ es) a x) b y ≡ insert_entry name_cmp (insert_entry name_cmp (e ∷ es) b y) a x) [
      | Less ↦ λ h.
          ap (λ l. insert_entry name_cmp l b y) (ins a x e es Less h) ∙ ins b y (a, x) (e ∷ es) Greater (turned a b less)
          ∙ sym ((elim (name_cmp b e.0) as (λ o. name_cmp b e.0 ≡ o → insert_entry name_cmp (insert_entry name_cmp (e ∷ es) b y) a x ≡ (a, x) ∷ insert_entry name_cmp (e ∷ es) b y) [
            | Less ↦ λ g. ap (λ l. insert_entry name_cmp l a x) (ins b y e es Less g) ∙ ins a x (b, y) (e ∷ es) Less less ∙ ap (λ l. (a, x) ∷ l) (sym (ins b y e es Less g))
            | Equal ↦ λ g. ap (λ l. insert_entry name_cmp l a x) (ins b y e es Equal g) ∙ ins a x (e.0, y) es Less h ∙ ap (λ l. (a, x) ∷ l) (sym (ins b y e es Equal g))
            | Greater ↦ λ g. ap (λ l. insert_entry name_cmp l a x) (ins b y e es Greater g) ∙ ins a x e (insert_entry name_cmp es b y) Less h ∙ ap (λ l. (a, x) ∷ l) (sym (ins b y e es Greater g))
          ]) refl)
      | Equal ↦ λ h.
          let g : name_cmp b e.0 ≡ Greater = above_tied a b e.0 less h in
          ap (λ l. insert_entry name_cmp l b y) (ins a x e es Equal h) ∙ ins b y (e.0, x) es Greater g
          ∙ sym (ap (λ l. insert_entry name_cmp l a x) (ins b y e es Greater g) ∙ ins a x e (insert_entry name_cmp es b y) Equal h)
      | Greater ↦ λ h.
          let g : name_cmp b e.0 ≡ Greater = turned e.0 b (name_cmp_total.trans e.0 a b (turned_back a e.0 h) less) in
          ap (λ l. insert_entry name_cmp l b y) (ins a x e es Greater h) ∙ ins b y e (insert_entry name_cmp es a x) Greater g
          ∙ ap (λ l. e ∷ l) (insert_comm_less es a b x y less)
          ∙ sym (ap (λ l. insert_entry name_cmp l a x) (ins b y e es Greater g) ∙ ins a x e (insert_entry name_cmp es b y) Greater h)
    ]) refl

-- insertions of two names commute
pub insert_comm : (m : ObjectMap) (a b : ObjectName) (x y : Object) → is_at a b ≡ false
    → with_object (with_object m a x) b y ≡ with_object (with_object m b y) a x
insert_comm m a b x y apart = (elim (name_cmp a b) as (λ o. name_cmp a b ≡ o → with_object (with_object m a x) b y ≡ with_object (with_object m b y) a x) [
  | Less ↦ λ h. insert_comm_less m a b x y h
  | Equal ↦ λ h. absurd (true≢false (sym (ap is_eq h) ∙ apart))
  | Greater ↦ λ h. sym (insert_comm_less m b a y x (turned_back a b h))
]) refl

-- what was inserted is inserted anew
pub insert_twice : (m : ObjectMap) (a : ObjectName) (x y : Object) → with_object (with_object m a x) a y ≡ with_object m a y
insert_twice [] a x y = ins a y (a, x) [] Equal (self a)
insert_twice (e ∷ es) a x y = (elim (name_cmp a e.0) as (λ o. name_cmp a e.0 ≡ o → with_object (with_object (e ∷ es) a x) a y ≡ with_object (e ∷ es) a y) [
  | Less ↦ λ h. ap (λ l. insert_entry name_cmp l a y) (ins a x e es Less h) ∙ ins a y (a, x) (e ∷ es) Equal (self a) ∙ sym (ins a y e es Less h)
  | Equal ↦ λ h. ap (λ l. insert_entry name_cmp l a y) (ins a x e es Equal h) ∙ ins a y (e.0, x) es Equal h ∙ sym (ins a y e es Equal h)
  | Greater ↦ λ h. ap (λ l. insert_entry name_cmp l a y) (ins a x e es Greater h) ∙ ins a y e (insert_entry name_cmp es a x) Greater h ∙ ap (λ l. e ∷ l) (insert_twice es a x y) ∙ sym (ins a y e es Greater h)
]) refl

remove_first : (test : ObjectName → Bool) (e : ObjectName × Object) (es : ObjectMap) (b : Bool) → test e.0 ≡ b → remove_entry test (e ∷ es) ≡ cond b es (e ∷ remove_entry test es)
remove_first test e es b is = ap (λ c. cond c es (e ∷ remove_entry test es)) is

-- the map has nothing of that name
abbrev pub Lacks : ObjectName → ObjectMap → Type 0
Lacks name [] = Unit {0}
Lacks name (e ∷ es) = (is_at name e.0 ≡ false) × Lacks name es

lacks_inserted : (m : ObjectMap) (a b : ObjectName) (y : Object) → is_at a b ≡ false → Lacks a m → Lacks a (with_object m b y)
lacks_inserted [] a b y apart lacks = (apart, tt)
lacks_inserted (e ∷ es) a b y apart lacks = (elim (name_cmp b e.0) as (λ o. name_cmp b e.0 ≡ o → Lacks a (with_object (e ∷ es) b y)) [
  | Less ↦ λ h. subst (Lacks a) (sym (ins b y e es Less h)) (apart, (lacks.0, lacks.1))
  | Equal ↦ λ h. subst (Lacks a) (sym (ins b y e es Equal h)) (lacks.0, lacks.1)
  | Greater ↦ λ h. subst (Lacks a) (sym (ins b y e es Greater h)) (lacks.0, lacks_inserted es a b y apart lacks.1)
]) refl

-- what was inserted is removed
pub remove_inserted : (m : ObjectMap) (a : ObjectName) (x : Object) → Lacks a m → remove_entry (is_at a) (with_object m a x) ≡ m
remove_inserted [] a x lacks = remove_first (is_at a) (a, x) [] true (ap is_eq (self a))
remove_inserted (e ∷ es) a x lacks = (elim (name_cmp a e.0) as (λ o. name_cmp a e.0 ≡ o → remove_entry (is_at a) (with_object (e ∷ es) a x) ≡ e ∷ es) [
  | Less ↦ λ h. ap (remove_entry (is_at a)) (ins a x e es Less h) ∙ remove_first (is_at a) (a, x) (e ∷ es) true (ap is_eq (self a))
  | Equal ↦ λ h. absurd (true≢false (sym (ap is_eq h) ∙ lacks.0))
  | Greater ↦ λ h. ap (remove_entry (is_at a)) (ins a x e es Greater h) ∙ remove_first (is_at a) e (insert_entry name_cmp es a x) false (ap is_eq h) ∙ ap (λ l. e ∷ l) (remove_inserted es a x lacks.1)
]) refl

-- no other place holds that name
abbrev pub IsApart : List (Option Held) → ℕ → ObjectName → Type 0
IsApart held index name = (other : ℕ) (y : Held) → other ≢ index → held_at held other ≡ Some y → is_at name (name_of y.entry) ≡ false

later : (n k : ℕ) → n ≢ k → suc n ≢ suc k
later n k other = λ is. other (omega (arith, is))

first_later : (k : ℕ) → 0 ≢ suc k
first_later k = λ is. omega (arith, is)

-- what is held at a place was put over the rest
pub pulled : (held : List (Option Held)) (index : ℕ) (x : Held) → held_at held index ≡ Some x → IsApart held index (name_of x.entry)
    → map_of held ≡ with_object (map_of (slice_set held index None)) (name_of x.entry) x.object
pulled [] index x at apart = absurd (cc (at))
pulled (None ∷ held) zero x at apart = absurd (cc (at))
pulled (Some y ∷ held) zero x at apart = let is : y ≡ x = cc (at) in ap (λ (z : Held). with_object (map_of held) (name_of z.entry) z.object) is
pulled (None ∷ held) (suc index) x at apart = pulled held index x at (λ n y other there. apart (suc n) y (later n index other) there)
pulled (Some y ∷ held) (suc index) x at apart =
    ap (λ m. with_object m (name_of y.entry) y.object) (pulled held index x at (λ n z other there. apart (suc n) z (later n index other) there))
    ∙ insert_comm (map_of (slice_set held index None)) (name_of x.entry) (name_of y.entry) x.object y.object (apart 0 y (first_later index) refl)

-- the rest lacks it
pub rest_lacks : (held : List (Option Held)) (index : ℕ) (name : ObjectName) → IsApart held index name → Lacks name (map_of (slice_set held index None))
rest_lacks [] index name apart = tt
rest_lacks (x ∷ held) zero name apart = all_lack held (λ n y there. apart (suc n) y (λ is. omega (arith, is)) there)
  where
    all_lack : (rest : List (Option Held)) → ((n : ℕ) (y : Held) → held_at rest n ≡ Some y → is_at name (name_of y.entry) ≡ false) → Lacks name (map_of rest)
    all_lack [] each = tt
    all_lack (None ∷ rest) each = all_lack rest (λ n y there. each (suc n) y there)
    all_lack (Some z ∷ rest) each = lacks_inserted (map_of rest) name (name_of z.entry) z.object (each 0 z refl) (all_lack rest (λ n y there. each (suc n) y there))
rest_lacks (None ∷ held) (suc index) name apart = rest_lacks held index name (λ n y other there. apart (suc n) y (later n index other) there)
rest_lacks (Some z ∷ held) (suc index) name apart =
    lacks_inserted (map_of (slice_set held index None)) name (name_of z.entry) z.object (apart 0 z (first_later index) refl)
    (rest_lacks held index name (λ n y other there. apart (suc n) y (later n index other) there))

-- where nothing was held the rest is all
pub rest_all : (held : List (Option Held)) (index : ℕ) → held_at held index ≡ None → map_of (slice_set held index None) ≡ map_of held
rest_all [] index none = refl
rest_all (None ∷ held) zero none = refl
rest_all (Some y ∷ held) zero none = absurd (cc (none))
rest_all (None ∷ held) (suc index) none = rest_all held index none
rest_all (Some y ∷ held) (suc index) none = ap (λ m. with_object m (name_of y.entry) y.object) (rest_all held index none)

-- what is put at a place is put over the rest
pub put_over : (held : List (Option Held)) (index : ℕ) (x : Held) → index < length held → IsApart held index (name_of x.entry)
    → map_of (slice_set held index (Some x)) ≡ with_object (map_of (slice_set held index None)) (name_of x.entry) x.object
put_over [] index x lt apart = absurd (omega (arith, lt))
put_over (y ∷ held) zero x lt apart = refl
put_over (None ∷ held) (suc index) x lt apart = put_over held index x (omega (arith, lt)) (λ n y other there. apart (suc n) y (later n index other) there)
put_over (Some y ∷ held) (suc index) x lt apart =
    ap (λ m. with_object m (name_of y.entry) y.object) (put_over held index x (omega (arith, lt)) (λ n z other there. apart (suc n) z (later n index other) there))
    ∙ insert_comm (map_of (slice_set held index None)) (name_of x.entry) (name_of y.entry) x.object y.object (apart 0 y (first_later index) refl)
