-- Marks of files, one by one.
use Rattle.std.proofs.Common.{◌≡◌, ◌⊎◌, ◌∙◌, ◌+◌, ◌<◌, ◌≤◌, ℕ, zero, suc, Bool, true, false, List, [], ◌∷◌, length, replicate, Option, Some, None, IfSome, refl, sym, ap, inl, inr, arith}
use Rattle.std.specs.Prelude.{slice_set}
use Rattle.std.specs.Option.{option_map}
use Rattle.std.proofs.lemmas.Bool.{cases_eq, cases_lt}
use Rattle.std.proofs.lemmas.List.{get_or-set_other, get_or-set_same}
use Rattle.std.proofs.Math.ListN.{length-set}
use Rattle.tee_types.specs.Limits.{last_file}
use Rattle.dir_records.specs.declared.entry.DirEntry.{DirEntry}
use Rattle.dir_records.specs.Form.{HasForm}
use Rattle.crash_core.specs.EntryLists.{entry_at}
use Rattle.store_commit.specs.Holds.{IsFreeFile, IsLeastFreeFile, file_held}
use Rattle.store_commit.specs.Marks.{AreMarked, IsFirstUnmarked, file_named, is_marked, mark_count, marked, one_if, use_count}
use Rattle.store_commit.proofs.NameIndexes.{place_within}

-- one mark more counts at most one more
count_set : (marks : List Bool) (file : ℕ) → mark_count (slice_set marks file true) ≤ mark_count marks + 1
unfolding mark_count
count_set [] file = omega arith
count_set (true ∷ marks) zero = omega arith
count_set (false ∷ marks) zero = omega arith
count_set (true ∷ marks) (suc file) = let h = count_set marks file in omega arith
count_set (false ∷ marks) (suc file) = count_set marks file

pub count_none : (n : ℕ) → mark_count (replicate n false) ≡ 0
unfolding mark_count
count_none zero = refl
count_none (suc n) = count_none n

-- where all are marked, so many are
count_all : (marks : List Bool) → ((file : ℕ) → file < length marks → is_marked marks file ≡ true) → length marks ≤ mark_count marks
unfolding mark_count
count_all [] each = omega arith
count_all (true ∷ marks) each = let h = count_all marks (λ file low. each (suc file) (omega arith)) in omega arith
count_all (false ∷ marks) each = absurd (cc (each 0 (omega arith)))

count_rest : (x : Bool) (marks : List Bool) → mark_count marks ≤ mark_count (x ∷ marks)
unfolding mark_count
count_rest true marks = omega arith
count_rest false marks = omega arith

-- not all of them from 1 on are marked
pub some_unmarked : (marks : List Bool) → length marks ≡ suc last_file → ((file : ℕ) → 1 ≤ file → file ≤ last_file → is_marked marks file ≡ true) → last_file ≤ mark_count marks
some_unmarked [] long each = absurd (omega (arith, long))
some_unmarked (x ∷ marks) long each =
    let rest : length marks ≡ last_file = omega (arith, long) in
    let all : length marks ≤ mark_count marks = count_all marks (λ file low. each (suc file) (omega arith) (omega (arith, low, rest))) in
    let more = count_rest x marks in omega (arith, rest, all, more)

pub uses_none : (uses : ℕ → Option ℕ) → use_count uses 0 ≡ 0
unfolding use_count
uses_none uses = refl

uses_next : (uses : ℕ → Option ℕ) (n : ℕ) → use_count uses (n + 1) ≡ use_count uses n + one_if (uses n)
unfolding use_count
uses_next uses n = let e : n + 1 ≡ suc n = omega arith in ap (use_count uses) e

one_most : (o : Option ℕ) → one_if o ≤ 1
one_most None = omega arith
one_most (Some file) = omega arith

pub uses_most : (uses : ℕ → Option ℕ) (n : ℕ) → use_count uses n ≤ n
unfolding use_count
uses_most uses zero = omega arith
uses_most uses (suc n) = let h = uses_most uses n in let o = one_most (uses n) in omega (arith, h, o)

-- one of them uses none
pub uses_fewer : (uses : ℕ → Option ℕ) (n k : ℕ) → k < n → uses k ≡ None → use_count uses n + 1 ≤ n
unfolding use_count
uses_fewer uses zero k low none = absurd (omega (arith, low))
uses_fewer uses (suc n) k low none = elim (cases_eq k n) [
  | inl same ↦
      let here : one_if (uses n) ≡ 0 = ap (λ (j : ℕ). one_if (uses j)) (sym same) ∙ ap one_if none in
      let most = uses_most uses n in omega (arith, here, most)
  | inr other ↦
      let h = uses_fewer uses n k (omega arith) none in let o = one_most (uses n) in omega (arith, h, o)
]

pub unmarked_yet : (uses : ℕ → Option ℕ) (marks : List Bool) → AreMarked uses 0 marks marks
unmarked_yet uses marks = record {
  long = refl;
  kept = λ file is. is;
  each = λ i file low at. absurd (omega (arith, low));
  only = λ file is. inl is;
  few = let e = uses_none uses in omega (arith, e);
}

set_mark : (marks : List Bool) (n file : ℕ) → is_marked marks file ≡ true → is_marked (slice_set marks n true) file ≡ true
set_mark [] n file is = is
set_mark (x ∷ marks) zero zero is = refl
set_mark (x ∷ marks) zero (suc file) is = is
set_mark (x ∷ marks) (suc n) zero is = is
set_mark (x ∷ marks) (suc n) (suc file) is = set_mark marks n file is

-- one more
module _ (uses : ℕ → Option ℕ) (n : ℕ) (old now : List Bool) (are : AreMarked uses n old now) where
  next_none : uses n ≡ None → AreMarked uses (n + 1) old now
  next_none free = record {
    long = are.long;
    kept = are.kept;
    each = λ i file low at. elim (cases_eq i n) [
      | inl here ↦ absurd (cc (sym free ∙ ap uses (sym here) ∙ at))
      | inr other ↦ are.each i file (omega arith) at
    ];
    only = λ file is. later (are.only file is);
    few = let e = uses_next uses n in let z : one_if (uses n) ≡ 0 = ap one_if free in let f = are.few in omega (arith, e, z, f);
  }
    where
      later : {file : ℕ} → (is_marked old file ≡ true) ⊎ ((i : ℕ) × (i < n) × (uses i ≡ Some file)) → (is_marked old file ≡ true) ⊎ ((i : ℕ) × (i < n + 1) × (uses i ≡ Some file))
      later (inl was) = inl was
      later (inr (i, low, at)) = inr (i, omega (arith, low), at)

  next_some : (used : ℕ) → uses n ≡ Some used → used < length now → AreMarked uses (n + 1) old (slice_set now used true)
  next_some used at below = record {
    long = length-set now used true ∙ are.long;
    kept = λ file is. set_mark now used file (are.kept file is);
    each = λ i file low there. elim (cases_eq i n) [
      | inl here ↦
          let same : used ≡ file = cc (sym at ∙ ap uses (sym here) ∙ there) in
          ap (is_marked (slice_set now used true)) (sym same) ∙ get_or-set_same now used true false below
      | inr other ↦ set_mark now used file (are.each i file (omega arith) there)
    ];
    only = λ file is. elim (cases_eq file used) [
      | inl same ↦ inr (n, (omega arith), at ∙ ap (λ (f : ℕ). let o : Option ℕ = Some f in o) (sym same))
      | inr other ↦ later file (are.only file (sym (get_or-set_other now used file true false other) ∙ is))
    ];
    few = let e = uses_next uses n in let z : one_if (uses n) ≡ 1 = ap one_if at in let c = count_set now used in let f = are.few in omega (arith, e, z, c, f);
  }
    where
      later : (file : ℕ) → (is_marked old file ≡ true) ⊎ ((i : ℕ) × (i < n) × (uses i ≡ Some file)) → (is_marked old file ≡ true) ⊎ ((i : ℕ) × (i < n + 1) × (uses i ≡ Some file))
      later file (inl was) = inl was
      later file (inr (i, low, there)) = inr (i, omega (arith, low), there)

  pub marked_next : (o : Option ℕ) → uses n ≡ o → IfSome o (λ file. file < length now) → AreMarked uses (n + 1) old (marked now o)
  marked_next None at below = next_none at
  marked_next (Some used) at below = next_some used at below

-- the least file that is free
module _ (entries : List (Option DirEntry)) (holds : List (Option ℕ)) (blank named all : List Bool) (file : ℕ) (whole : length entries ≡ 256)
    (none : (k : ℕ) → is_marked blank k ≡ true → ⊥) (first : AreMarked (file_named entries) 256 blank named) (second : AreMarked (file_held holds) 16 named all)
    (few : (session : ℕ) → 16 ≤ session → file_held holds session ≡ None) (is : IsFirstUnmarked all file) where
  named_marked : (k i : ℕ) (e : DirEntry) → entry_at entries i ≡ Some e → k ≡ e.file → is_marked all k ≡ true
  named_marked k i e at same =
      let low : i < length entries = place_within entries i e at in
      second.kept k (first.each i k (omega (arith, low, whole)) (ap (option_map (λ (x : DirEntry). x.file)) at ∙ ap (λ (f : ℕ). let o : Option ℕ = Some f in o) (sym same)))

  held_marked : (k session : ℕ) → file_held holds session ≡ Some k → is_marked all k ≡ true
  held_marked k session held = elim (cases_lt session 16) [
    | inl low ↦ second.each session k low held
    | inr high ↦ absurd (cc (sym (few session high) ∙ held))
  ]

  not_both : (k : ℕ) → is_marked all k ≡ true → is_marked all k ≡ false → ⊥
  not_both k set unset = absurd (cc (sym set ∙ unset))

  free_not_marked : (k : ℕ) → is_marked all k ≡ true → IsFreeFile entries holds k → ⊥
  free_not_marked k set free = by_second (second.only k set)
    where
      by_entry : (i : ℕ) (o : Option DirEntry) → entry_at entries i ≡ o → option_map (λ (x : DirEntry). x.file) o ≡ Some k → ⊥
      by_entry i None at named = absurd (cc (named))
      by_entry i (Some e) at named = let same : e.file ≡ k = cc (named) in free.unnamed i e at (sym same)

      by_first : (is_marked blank k ≡ true) ⊎ ((i : ℕ) × (i < 256) × (file_named entries i ≡ Some k)) → ⊥
      by_first (inl was) = none k was
      by_first (inr (i, low, at)) = by_entry i (entry_at entries i) refl at

      by_second : (is_marked named k ≡ true) ⊎ ((i : ℕ) × (i < 16) × (file_held holds i ≡ Some k)) → ⊥
      by_second (inl was) = by_first (first.only k was)
      by_second (inr (i, low, at)) = free.unheld i at

  pub least_free : IsLeastFreeFile entries holds file
  least_free = record {
    free = record {
      from = is.from;
      upto = is.upto;
      unnamed = λ i e at same. not_both file (named_marked file i e at same) is.unmarked;
      unheld = λ session held. not_both file (held_marked file session held) is.unmarked;
    };
    least = λ other low free. free_not_marked other (is.least other free.from low) free;
  }

pub blank_unmarked : (n k : ℕ) → is_marked (replicate n false) k ≡ true → ⊥
blank_unmarked zero k is = absurd (cc (is))
blank_unmarked (suc n) zero is = absurd (cc (is))
blank_unmarked (suc n) (suc k) is = blank_unmarked n k is

-- not all files are in use where a session holds none
pub marks_few : (entries : List (Option DirEntry)) (holds : List (Option ℕ)) (blank named all : List Bool) (session : ℕ) → mark_count blank ≡ 0
    → AreMarked (file_named entries) 256 blank named → AreMarked (file_held holds) 16 named all → session < 16 → file_held holds session ≡ None → mark_count all < last_file
marks_few entries holds blank named all session zero_marks first second low idle =
    let a = uses_most (file_named entries) 256 in
    let b = uses_fewer (file_held holds) 16 session low idle in
    let f = first.few in
    let s = second.few in
    omega (arith, a, b, f, s, zero_marks)

pub below_some : (o : Option ℕ) (n : ℕ) → ((file : ℕ) → o ≡ Some file → file < n) → IfSome o (λ file. file < n)
below_some None n each = tt
below_some (Some file) n each = each file refl

pub named_below : (o : Option DirEntry) (n : ℕ) → n ≡ suc last_file → IfSome o HasForm → IfSome (option_map (λ (e : DirEntry). e.file) o) (λ file. file < n)
named_below None n is form = tt
named_below (Some e) n is form = let high : e.file ≤ last_file = form.file.1 in omega (arith, high, is)
