-- What is found on the devices of a store, and what that leaves.
use Rattle.std.proofs.Common.{◌≡◌, ◌<◌, ℕ, List, length, get_or, Bool, false, true, IsTrue, inl, inr, refl, sym, ap, subst, arith}
use Rattle.std.specs.Prelude.{slice_set}
use Rattle.std.proofs.lemmas.Bool.{cases_eq}
use Rattle.disk_model.specs.State.{FileState}
use Rattle.disk_model.specs.Calls.{GoesOn, Rests}
use Rattle.disk_model.proofs.Goings.{first_known, rests_none}
use Rattle.htree_file.specs.Standing.{Told}
use Rattle.rpmb_card.specs.Port.{PortState}
use Rattle.kept_store.specs.Kept.{FindsBlank, HasNamingCard, IsEmpty}
use Rattle.object_calls.specs.OpeningFiles.{files_of}
use Rattle.object_calls.proofs.Files.{files_else, files_get, files_here}

-- a file of a list rested, and no other was called
pub all_rest : {F : Type 0} (state : F → FileState) (files : List F) (place : ℕ) (old new : F) → place < length files → old ≡ get_or files place old
    → Rests (state old) (state new) → (number : ℕ) → Rests (files_of state files number) (files_of state (slice_set files place new) number)
all_rest state files place old new within is rests number = elim (cases_eq number place) [
  | inl here ↦ rw here (subst (λ (s : FileState). Rests (files_of state files place) s) (sym (files_here state files place new within))
      (subst (λ (s : FileState). Rests s (state new)) (sym (files_get state files place old within is)) rests))
  | inr other ↦ subst (λ (s : FileState). Rests (files_of state files number) s) (sym (files_else state files place number new other)) (rests_none (files_of state files number))
]

-- that file, by another name of its place
pub file_there : {F : Type 0} (state : F → FileState) (files : List F) (place number : ℕ) (new : F) → place < length files → number ≡ place
    → files_of state (slice_set files place new) number ≡ state new
file_there state files place number new within is = rw is (files_here state files place new within)

-- a file that is told at the end was told before
pub told_first : (old mid new : FileState) → GoesOn mid new → Told old new → Told old mid
told_first old mid new goes_on told = (subst (λ (t : Bool). IsTrue t) goes_on.tells told.0, first_known old mid new goes_on told.1)

-- a store that is new is made over a directory's file that has no bytes
pub empty_made : (new : Bool) (port : PortState) (key : List ℕ) (old mid last : FileState) → (new ≡ false → HasNamingCard port key)
    → (IsTrue new → IsEmpty old mid) → GoesOn mid last → FindsBlank port key (IsEmpty old last)
empty_made false port key old mid last named empty goes_on card has blank told = absurd (named refl card has blank)
empty_made true port key old mid last named empty goes_on card has blank told = empty refl (told_first old mid last goes_on told)

-- so beside one that has bytes it is not
pub empty_alone : {A : Type 0} (port : PortState) (key : List ℕ) (old last : FileState) → FindsBlank port key (IsEmpty old last)
    → FindsBlank port key (Told old last → 0 < length old.reads → A)
empty_alone port key old last empty card has blank told bytes =
    let none : length old.reads ≡ 0 = ap length (empty card has blank told) in absurd (omega (arith, none, bytes))
