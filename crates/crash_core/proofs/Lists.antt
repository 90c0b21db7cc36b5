-- A function with another value at one number, and what stands in a changed list.
use Rattle.std.proofs.Common.{◌≡◌, ◌≢◌, ◌⊎◌, ℕ, zero, suc, ◌<◌, List, [], ◌∷◌, map, get_or, length, eqb, Option, Some, None, inl, inr, refl, sym, ◌∙◌, ap, subst, eq-eqb, ne_eqb, get_or-set_same, get_or-set_other}
use Rattle.std.specs.Prelude.{slice_set}
use Rattle.std.specs.Option.{option_map}
use Rattle.std.proofs.lemmas.Bool.{cases_eq, cond-true, cond-false}
use Rattle.dir_records.specs.declared.entry.DirEntry.{DirEntry}
use Rattle.store_model.specs.Object.{Object}
use Rattle.crash_core.specs.Mounting.{Held}
use Rattle.crash_core.specs.EntryLists.{entry_at}
use Rattle.crash_core.specs.declared.change.EntryChange.{EntryChange}
use Rattle.crash_core.specs.declared.change.EntryChange.TheVariants.{Put, Clear}
use Rattle.crash_core.specs.EntryChanges.{changed}
use Rattle.crash_core.specs.CoreState.{put}
use Rattle.crash_core.specs.Holding.{entries_held, held_at}

pub put_here : {A : Type 0} (f : ℕ → A) (n : ℕ) (x : A) (k : ℕ) → k ≡ n → put f n x k ≡ x
put_here f n x k is = cond-true (eqb k n) x (f k) (eq-eqb k n is)

pub put_else : {A : Type 0} (f : ℕ → A) (n : ℕ) (x : A) (k : ℕ) → k ≢ n → put f n x k ≡ f k
put_else f n x k other = cond-false (eqb k n) x (f k) (ne_eqb k n other)

-- what holds of the new value, and of every old one, holds of each
pub put_each : {A : Type 0} (P : ℕ → A → Type 0) (f : ℕ → A) (n : ℕ) (x : A) (k : ℕ) → P n x → P k (f k) → P k (put f n x k)
put_each P f n x k new old = elim (cases_eq k n) [
  | inl is ↦ subst (P k) (sym (put_here f n x k is)) (subst (λ (j : ℕ). P j x) (sym is) new)
  | inr other ↦ subst (P k) (sym (put_else f n x k other)) old
]

-- the member at a place of a mapped list
pub map_at : {A B : Type 0} (f : Option A → Option B) (xs : List (Option A)) (k : ℕ) → f None ≡ None → get_or (map f xs) k None ≡ f (get_or xs k None)
map_at f [] k none = sym none
map_at f (x ∷ xs) zero none = refl
map_at f (x ∷ xs) (suc k) none = map_at f xs k none

pub map_set : {A B : Type 0} (f : A → B) (xs : List A) (k : ℕ) (x : A) → map f (slice_set xs k x) ≡ slice_set (map f xs) k (f x)
map_set f [] k x = refl
map_set f (y ∷ xs) zero x = refl
map_set f (y ∷ xs) (suc k) x = ap (λ l. f y ∷ l) (map_set f xs k x)

-- what stands in a changed list is new, or stood there before
pub set_at : {A : Type 0} (xs : List (Option A)) (k n : ℕ) (x : Option A) (a : A) → get_or (slice_set xs k x) n None ≡ Some a
    → (x ≡ Some a) ⊎ (get_or xs n None ≡ Some a)
set_at [] k n x a at = inr at
set_at (y ∷ xs) zero zero x a at = inl at
set_at (y ∷ xs) zero (suc n) x a at = inr at
set_at (y ∷ xs) (suc k) zero x a at = inr at
set_at (y ∷ xs) (suc k) (suc n) x a at = set_at xs k n x a at

-- the entry at a changed place, and at another one
pub set_here : (entries : List (Option DirEntry)) (k : ℕ) (x : Option DirEntry) → k < length entries → entry_at (slice_set entries k x) k ≡ x
set_here entries k x lt = get_or-set_same entries k x None lt

pub set_else : (entries : List (Option DirEntry)) (k : ℕ) (x : Option DirEntry) (n : ℕ) → n ≢ k → entry_at (slice_set entries k x) n ≡ entry_at entries n
set_else entries k x n other = get_or-set_other entries k n x None other

-- the entry of what is held
pub entry_held : (held : List (Option Held)) (entries : List (Option DirEntry)) (index : ℕ) (h : Held) → entries_held held ≡ entries → held_at held index ≡ Some h
    → entry_at entries index ≡ Some h.entry
entry_held held entries index h is at =
    ap (λ (l : List (Option DirEntry)). entry_at l index) (sym is)
    ∙ map_at (option_map (λ (x : Held). x.entry)) held index refl
    ∙ ap (option_map (λ (x : Held). x.entry)) at

-- what is held after a change of the entries
abbrev pub changed_held : List (Option Held) → EntryChange → Object → List (Option Held)
changed_held held (Put index e) object = slice_set held index (Some (record { entry = e; object = object }))
changed_held held (Clear index) object = slice_set held index None

pub entries_changed : (held : List (Option Held)) (entries : List (Option DirEntry)) (change : EntryChange) (object : Object) → entries_held held ≡ entries
    → entries_held (changed_held held change object) ≡ changed entries change
entries_changed held entries (Put index e) object is =
    map_set (option_map (λ (x : Held). x.entry)) held index (Some (record { entry = e; object = object })) ∙ ap (λ (l : List (Option DirEntry)). slice_set l index (Some e)) is
entries_changed held entries (Clear index) object is =
    map_set (option_map (λ (x : Held). x.entry)) held index None ∙ ap (λ (l : List (Option DirEntry)). slice_set l index None) is
