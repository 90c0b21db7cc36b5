-- Who has taken a file is the session that holds it, also once a commit ends the hold on the file that it puts.
use Rattle.std.proofs.Common.{◌≡◌, ◌≢◌, ℕ, zero, suc, ◌+◌, true, true≢false, eqb, List, [], ◌∷◌, inl, inr, Option, Some, None, refl, sym, ap, ◌∙◌, subst, arith, eq-eqb, ne_eqb}
use Rattle.std.proofs.lemmas.Bool.{cases_Bool, cases_eq, cond-true, cond-false, eqb-true}
use Rattle.dir_records.specs.declared.entry.DirEntry.{DirEntry}
use Rattle.crash_core.specs.Appends.{freed}
use Rattle.crash_core.specs.CoreState.{put}
use Rattle.crash_core.proofs.Lists.{put_else, put_here}
use Rattle.core_laws.proofs.Mending.{none_some, some_same}
use Rattle.crash_core.specs.declared.change.EntryChange.{EntryChange}
use Rattle.crash_core.specs.declared.change.EntryChange.TheVariants.{Put, Clear}
use Rattle.store_commit.specs.Holds.{AreHolds, EndsHoldOf, HoldsWithout, file_held, unless_file}
use Rattle.commit_gate.specs.CoreGates.{holder_from, is_hold_on, takes_of}

-- who holds a file holds it
hold_is : (file : ℕ) (hold : Option ℕ) → is_hold_on file hold ≡ true → hold ≡ Some file
hold_is file None is = absurd (true≢false (sym is))
hold_is file (Some held) is = ap (λ (n : ℕ). Some n) (eqb-true held file is)

pub holder_holds : (holds : List (Option ℕ)) (first file actor : ℕ) → holder_from first holds file ≡ Some actor → (k : ℕ) × (first + k ≡ actor) × (file_held holds k ≡ Some file)
holder_holds [] first file actor is = absurd (none_some actor is)
holder_holds (hold ∷ holds) first file actor is = elim (cases_Bool (is_hold_on file hold)) [
  | inl here ↦
      let same : first ≡ actor = some_same first actor (sym (cond-true (is_hold_on file hold) (Some first) (holder_from (first + 1) holds file) here) ∙ is) in
      (0, omega (arith, same), hold_is file hold here)
  | inr other ↦
      let rest = holder_holds holds (first + 1) file actor (sym (cond-false (is_hold_on file hold) (Some first) (holder_from (first + 1) holds file) other) ∙ is) in
      (suc rest.0, omega (arith, rest.1), rest.2)
]

holder_found : (holds : List (Option ℕ)) (first file k : ℕ) → file_held holds k ≡ Some file → (j : ℕ) × (holder_from first holds file ≡ Some j)
holder_found [] first file k held = absurd (none_some file held)
holder_found (hold ∷ holds) first file zero held =
    (first, cond-true (is_hold_on file hold) (Some first) (holder_from (first + 1) holds file) (ap (is_hold_on file) held ∙ eq-eqb file file refl))
holder_found (hold ∷ holds) first file (suc k) held = elim (cases_Bool (is_hold_on file hold)) [
  | inl here ↦ (first, cond-true (is_hold_on file hold) (Some first) (holder_from (first + 1) holds file) here)
  | inr other ↦
      let rest = holder_found holds (first + 1) file k held in
      (rest.0, cond-false (is_hold_on file hold) (Some first) (holder_from (first + 1) holds file) other ∙ rest.1)
]

-- who holds the file has taken it,
pub held_taken : (entries : List (Option DirEntry)) (holds : List (Option ℕ)) → AreHolds entries holds → (file k : ℕ) → file_held holds k ≡ Some file → takes_of holds file ≡ Some k
held_taken entries holds are file k held =
    let found = holder_found holds 0 file k held in
    let back = holder_holds holds 0 file found.0 found.1 in
    let one : back.0 ≡ k = are.single back.0 k file back.2 held in
    let same : found.0 ≡ k = omega (arith, back.1, one) in
    found.1 ∙ ap (λ (n : ℕ). Some n) same

-- and the other way round
pub taken_held : (holds : List (Option ℕ)) (file k : ℕ) → takes_of holds file ≡ Some k → file_held holds k ≡ Some file
taken_held holds file k is =
    let at = holder_holds holds 0 file k is in
    let same : at.0 ≡ k = omega (arith, at.1) in
    subst (λ (n : ℕ). file_held holds n ≡ Some file) same at.2

-- a hold that is on another file than the one that ended
unless_was : (file n : ℕ) (o : Option ℕ) → unless_file file o ≡ Some n → (o ≡ Some n) × (n ≢ file)
unless_was file n None is = absurd (none_some n is)
unless_was file n (Some held) is = elim (cases_Bool (eqb held file)) [
  | inl same ↦ absurd (none_some n (sym (cond-true (eqb held file) None (Some held) same) ∙ is))
  | inr other ↦
      let one : held ≡ n = some_same held n (sym (cond-false (eqb held file) None (Some held) other) ∙ is) in
      (ap (λ (k : ℕ). Some k) one, λ e. true≢false (sym (eq-eqb held file (one ∙ e)) ∙ other))
]

unless_stays : (file n : ℕ) → n ≢ file → unless_file file (Some n) ≡ Some n
unless_stays file n other = cond-false (eqb n file) None (Some n) (ne_eqb n file other)

pub same_option : (a b : Option ℕ) → ((k : ℕ) → a ≡ Some k → b ≡ Some k) → ((k : ℕ) → b ≡ Some k → a ≡ Some k) → a ≡ b
same_option None None to from = refl
same_option None (Some k) to from = from k refl
same_option (Some k) b to from = sym (to k refl)

pub no_option : (a : Option ℕ) → ((k : ℕ) → a ≡ Some k → ⊥) → a ≡ None
no_option None none = refl
no_option (Some k) none = absurd (none k refl)

module _ (entries more : List (Option DirEntry)) (before after : List (Option ℕ)) (were : AreHolds entries before) (are : AreHolds more after) where
  freed_at : (file : ℕ) → HoldsWithout file before after → (n : ℕ) → takes_of after n ≡ put (takes_of before) file None n
  freed_at file ends n = elim (cases_eq n file) [
    | inl same ↦
        let gone : takes_of after n ≡ None = no_option (takes_of after n)
        (λ k is. (unless_was file n (file_held before k) (sym (ends k) ∙ taken_held after n k is)).1 same) in
        gone ∙ sym (put_here (takes_of before) file None n same)
    | inr other ↦
        same_option (takes_of after n) (takes_of before n)
        (λ k is. held_taken entries before were n k (unless_was file n (file_held before k) (sym (ends k) ∙ taken_held after n k is)).0)
        (λ k is. held_taken more after are n k (ends k ∙ ap (unless_file file) (taken_held before n k is) ∙ unless_stays file n other))
        ∙ sym (put_else (takes_of before) file None n other)
  ]

  -- a commit that is made frees the file that it puts
  pub takes_freed : (change : EntryChange) → EndsHoldOf change before after → takes_of after ≡ freed change (takes_of before)
  takes_freed (Put index e) ends = let same = freed_at e.file ends in (λ j n. same n j)
  takes_freed (Clear index) same = ap takes_of same
