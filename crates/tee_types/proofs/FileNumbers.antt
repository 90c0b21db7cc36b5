-- What proofs need to know of the numbers of files.
use Rattle.std.proofs.Common.{◌≡◌, ◌≢◌, ◌⊎◌, ◌+◌, ◌≤◌, ◌<◌, ℕ, true, false, inl, inr, refl, arith}
use Rattle.std.proofs.lemmas.Bool.{cases_Bool, cases_eq, cases_lt}
use Rattle.tee_types.specs.Limits.{IsObjectFile, directory_file, file_count, may_hold_object, last_file, old_directory_file}

-- The directory's file is the last of the bench.
pub directory_behind : directory_file ≡ last_file + 1
unfolding directory_file
directory_behind = refl

-- So it is none that may hold an object, nor that of an old directory.
pub object_not_directory : (file : ℕ) → 1 ≤ file → file ≤ last_file → file ≢ directory_file
object_not_directory file least most is = omega (arith, directory_behind, most, is)

pub old_not_directory : old_directory_file ≢ directory_file
old_not_directory is = omega (arith, directory_behind, is)

pub directory_on_bench : directory_file < file_count
directory_on_bench = omega (arith, directory_behind)

-- each other file of the bench is that of an old directory, or may hold an object
pub other_on_bench : (file : ℕ) → file < file_count → file ≢ directory_file → (file ≡ old_directory_file) ⊎ IsObjectFile file
other_on_bench file within other = elim (cases_eq file old_directory_file) [
  | inl old ↦ inl old
  | inr later ↦ let apart : file ≢ last_file + 1 = λ is. other (omega (arith, directory_behind, is)) in inr (omega (arith, later), omega (arith, within, apart))
]

-- a file is one that may hold an object, or it is not
pub object_or_not : (file : ℕ) → IsObjectFile file ⊎ (IsObjectFile file → ⊥)
object_or_not file = elim (cases_lt file 1) [
  | inl none ↦ inr (λ own. omega (arith, own.0, none))
  | inr least ↦ elim (cases_lt last_file file) [
    | inl past ↦ inr (λ own. omega (arith, own.1, past))
    | inr within ↦ inl (omega (arith, least), omega (arith, within))
  ]
]

passes_within : (file : ℕ) → 1 ≤ file → file ≤ last_file → may_hold_object file ≡ true
passes_within file least most = grind arith

within_passed : (file : ℕ) → may_hold_object file ≡ true → IsObjectFile file
within_passed file passes = grind arith

pub object_passes : (file : ℕ) → IsObjectFile file → may_hold_object file ≡ true
object_passes file object = passes_within file object.0 object.1

pub object_fails : (file : ℕ) → (IsObjectFile file → ⊥) → may_hold_object file ≡ false
object_fails file off = elim (cases_Bool (may_hold_object file)) [
  | inl passes ↦ absurd (off (within_passed file passes))
  | inr fails ↦ fails
]
