-- Files by their places in a list, and by their numbers on a bench.
use Rattle.std.proofs.Common.{◌≡◌, ◌≢◌, ◌∙◌, ◌-◌, ◌<◌, ◌≤◌, ℕ, zero, suc, List, [], ◌∷◌, ◌++◌, length, take, drop, get_or, true, inl, inr, refl, sym, ap, arith}
use Rattle.std.specs.Prelude.{slice_set}
use Rattle.std.proofs.lemmas.Bool.{cases_eq}
use Rattle.std.proofs.lemmas.List.{append-nil, drop_all, take_all}
use Rattle.disk_model.specs.State.{FileState, Sound, no_file}
use Rattle.disk_model.proofs.Soundness.{agree_settled}
use Rattle.tee_types.specs.Limits.{IsObjectFile, directory_file, file_count, last_file, old_directory_file}
use Rattle.tee_types.proofs.FileNumbers.{directory_behind, directory_on_bench, object_not_directory, old_not_directory}
use Rattle.crash_core.proofs.Lists.{put_each, put_else, put_here}
use Rattle.object_calls.specs.OpeningFiles.{files_of, numbered_files, object_files}

pub no_file-sound : Sound no_file
no_file-sound = record { bytes = agree_settled [] true; reads = λ place. omega arith; told = λ h. refl; calm = λ tells none. refl; steady = λ tells none. refl }

-- all files of a bench in one list
abbrev pub whole_bench : {F : Type 0} → (spare dir : F) → List F → List F
whole_bench spare dir files = spare ∷ (files ++ dir ∷ [])

module _ {F : Type 0} (state : F → FileState) where
  pub files_here : (files : List F) (i : ℕ) (f : F) → i < length files → files_of state (slice_set files i f) i ≡ state f
  files_here [] i f lt = absurd (omega arith)
  files_here (x ∷ files) zero f lt = refl
  files_here (x ∷ files) (suc i) f lt = files_here files i f (omega arith)

  pub files_else : (files : List F) (i k : ℕ) (f : F) → k ≢ i → files_of state (slice_set files i f) k ≡ files_of state files k
  files_else [] i k f ne = refl
  files_else (x ∷ files) zero zero f ne = absurd (ne refl)
  files_else (x ∷ files) zero (suc k) f ne = refl
  files_else (x ∷ files) (suc i) zero f ne = refl
  files_else (x ∷ files) (suc i) (suc k) f ne = files_else files i k f (λ e. let s : suc k ≡ suc i = ap suc e in ne s)

  pub files_get : (files : List F) (i : ℕ) (f : F) → i < length files → f ≡ get_or files i f → files_of state files i ≡ state f
  files_get [] i f lt is = absurd (omega arith)
  files_get (x ∷ files) zero f lt is = ap state (sym is)
  files_get (x ∷ files) (suc i) f lt is = files_get files i f (omega arith) is

  pub files_sound : ((f : F) → Sound (state f)) → (files : List F) (k : ℕ) → Sound (files_of state files k)
  files_sound sound [] k = no_file-sound
  files_sound sound (f ∷ files) zero = sound f
  files_sound sound (f ∷ files) (suc k) = files_sound sound files k

  -- where there is no file
  pub files-past : (files : List F) (k : ℕ) → length files ≤ k → files_of state files k ≡ no_file
  files-past [] k past = refl
  files-past (f ∷ files) zero past = absurd (omega (arith, past))
  files-past (f ∷ files) (suc k) past = files-past files k (omega (arith, past))

  -- THE FILES OF OBJECTS
  object_at : (files : List F) (file : ℕ) → 1 ≤ file → object_files state files file ≡ files_of state files (file - 1)
  object_at files zero from = absurd (omega (arith, from))
  object_at files (suc i) from = let back : i ≡ suc i - 1 = omega arith in ap (files_of state files) back

  -- one of them is another now
  pub object_here : (files : List F) (file : ℕ) (f : F) → 1 ≤ file → file ≤ length files → object_files state (slice_set files (file - 1) f) file ≡ state f
  object_here files file f from upto = object_at (slice_set files (file - 1) f) file from ∙ files_here files (file - 1) f (omega (arith, from, upto))

  pub object_else : (files : List F) (file k : ℕ) (f : F) → 1 ≤ file → k ≢ file → object_files state (slice_set files (file - 1) f) k ≡ object_files state files k
  object_else files file zero f from other = refl
  object_else files file (suc i) f from other = files_else files (file - 1) i f (λ same. other (omega (arith, from, same)))

  pub object_get : (files : List F) (file : ℕ) (f : F) → 1 ≤ file → file ≤ length files → f ≡ get_or files (file - 1) f → object_files state files file ≡ state f
  object_get files file f from upto is = object_at files file from ∙ files_get files (file - 1) f (omega (arith, from, upto)) is

  pub objects_sound : ((f : F) → Sound (state f)) → (files : List F) (file : ℕ) → Sound (object_files state files file)
  objects_sound sound files zero = no_file-sound
  objects_sound sound files (suc i) = files_sound sound files i

  -- THE FILES OF A BENCH, BY THEIR NUMBERS
  pub directory_here : (spare dir : F) (files : List F) → numbered_files state spare dir files directory_file ≡ state dir
  directory_here spare dir files = put_here (files_of state (spare ∷ files)) directory_file (state dir) directory_file refl

  pub spare_here : (spare dir : F) (files : List F) → numbered_files state spare dir files old_directory_file ≡ state spare
  spare_here spare dir files = put_else (files_of state (spare ∷ files)) directory_file (state dir) old_directory_file old_not_directory

  pub numbered_object : (spare dir : F) (files : List F) (file : ℕ) → 1 ≤ file → file ≢ directory_file → numbered_files state spare dir files file ≡ object_files state files file
  numbered_object spare dir files zero from other = absurd (omega (arith, from))
  numbered_object spare dir files (suc i) from other = put_else (files_of state (spare ∷ files)) directory_file (state dir) (suc i) other

  pub object_numbered : (spare dir : F) (files : List F) (file : ℕ) → IsObjectFile file → numbered_files state spare dir files file ≡ object_files state files file
  object_numbered spare dir files file object = numbered_object spare dir files file object.0 (object_not_directory file object.0 object.1)

  pub numbered_sound : ((f : F) → Sound (state f)) → (spare dir : F) (files : List F) (file : ℕ) → Sound (numbered_files state spare dir files file)
  numbered_sound sound spare dir files file =
      put_each (λ n s. Sound s) (files_of state (spare ∷ files)) directory_file (state dir) file (sound dir) (files_sound sound (spare ∷ files) file)

  -- only the directory's is another
  pub others_same : (spare d x : F) (files : List F) (file : ℕ) → file ≢ directory_file → numbered_files state spare x files file ≡ numbered_files state spare d files file
  others_same spare d x files file other =
      put_else (files_of state (spare ∷ files)) directory_file (state x) file other ∙ sym (put_else (files_of state (spare ∷ files)) directory_file (state d) file other)

  -- behind the last is none
  pub numbered_past : (spare dir : F) (files : List F) (file : ℕ) → length files ≡ last_file → file_count ≤ file → numbered_files state spare dir files file ≡ no_file
  numbered_past spare dir files file many past =
      put_else (files_of state (spare ∷ files)) directory_file (state dir) file (λ is. omega (arith, is, past, directory_on_bench))
      ∙ files-past (spare ∷ files) file (omega (arith, many, past))

  -- in one list they have the same numbers
  last_of : (files : List F) (dir : F) → files_of state (files ++ dir ∷ []) (length files) ≡ state dir
  last_of [] dir = refl
  last_of (f ∷ files) dir = last_of files dir

  before_last : (files : List F) (dir : F) (k : ℕ) → k ≢ length files → files_of state (files ++ dir ∷ []) k ≡ files_of state files k
  before_last [] dir zero other = absurd (other refl)
  before_last [] dir (suc k) other = refl
  before_last (f ∷ files) dir zero other = refl
  before_last (f ∷ files) dir (suc k) other = before_last files dir k (λ same. other (ap suc same))

  whole_at : (spare dir : F) (files : List F) (k : ℕ) → length files ≡ last_file → files_of state (whole_bench spare dir files) k ≡ numbered_files state spare dir files k
  whole_at spare dir files k many = elim (cases_eq k directory_file) [
    | inl is ↦
        let last : k ≡ suc (length files) = omega (arith, is, directory_behind, many) in
        ap (files_of state (whole_bench spare dir files)) last ∙ last_of files dir ∙ sym (put_here (files_of state (spare ∷ files)) directory_file (state dir) k is)
    | inr other ↦ by_place k other ∙ sym (put_else (files_of state (spare ∷ files)) directory_file (state dir) k other)
  ]
    where
      by_place : (n : ℕ) → n ≢ directory_file → files_of state (whole_bench spare dir files) n ≡ files_of state (spare ∷ files) n
      by_place zero other = refl
      by_place (suc n) other = before_last files dir n (λ same. other (omega (arith, same, directory_behind, many)))

  pub whole_numbered : (spare dir : F) (files : List F) → length files ≡ last_file → files_of state (whole_bench spare dir files) ≡ numbered_files state spare dir files
  whole_numbered spare dir files many = λ j k. whole_at spare dir files k many j

  pub whole_directory : (spare dir : F) (files : List F) → length files ≡ last_file → files_of state (whole_bench spare dir files) directory_file ≡ state dir
  whole_directory spare dir files many = whole_at spare dir files directory_file many ∙ directory_here spare dir files

-- a list that was lent as a slice
pub refilled : {A : Type 0} (n : ℕ) (items written : List A) → length items ≡ n → length written ≡ n → take n (written ++ drop (length written) items) ≡ written
refilled {A} n items written long same =
    let none : drop (length written) items ≡ [] = drop_all (length written) items (omega (arith, long, same)) in
    ap (λ (l : List A). take n (written ++ l)) none ∙ ap (take n) (append-nil written) ∙ take_all n written (omega (arith, same))

-- the last file is taken off a list, then the first
pub taken_apart : {A : Type 0} (items kept rest : List A) (first last : A) → items ≡ kept ++ last ∷ [] → 0 < length kept → first ≡ get_or kept 0 first → rest ≡ take 0 kept ++ drop 1 kept
    → items ≡ whole_bench first last rest
taken_apart items [] rest first last is some at rest_is = absurd (omega (arith, some))
taken_apart items (x ∷ kept) rest first last is some at rest_is = is ∙ (λ i. (sym at i ∷ sym rest_is i) ++ last ∷ [])
