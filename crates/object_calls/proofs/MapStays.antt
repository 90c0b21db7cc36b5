-- The objects of a store that was only read are the same.
use Rattle.std.proofs.Common.{◌≡◌, ℕ, List, Option, sym, ap, subst, inl, inr}
use Rattle.std.proofs.lemmas.Bool.{cases_eq}
use Rattle.disk_model.specs.State.{FileState}
use Rattle.disk_model.specs.Calls.{Known}
use Rattle.dir_records.specs.declared.entry.DirEntry.{DirEntry}
use Rattle.crash_core.specs.Mounting.{all_held_in, map_of}
use Rattle.object_calls.specs.Next.{MapStays, ReadsOne}

-- files that read as before
pub same_map : (entries : List (Option DirEntry)) (old new : ℕ → FileState) → ((file : ℕ) → Known (old file) (new file) → (new file).reads ≡ (old file).reads) → MapStays entries old new
same_map entries old new reads known keys = λ i. map_of (all_held_in keys (λ file. reads file (known file) i) entries)

pub read_map : (entries : List (Option DirEntry)) (old new : ℕ → FileState) (n : ℕ) → ReadsOne old new n → MapStays entries old new
read_map entries old new n reads = same_map entries old new (λ file known. elim (cases_eq file n) [
  | inl same ↦ subst (λ (k : ℕ). Known (old k) (new k) → (new k).reads ≡ (old k).reads) (sym same) reads.rests.reads known
  | inr other ↦ ap (λ (s : FileState). s.reads) (reads.others file other)
])

pub still_map : (entries : List (Option DirEntry)) (old new : ℕ → FileState) → ((file : ℕ) → new file ≡ old file) → MapStays entries old new
still_map entries old new same = same_map entries old new (λ file known. ap (λ (s : FileState). s.reads) (same file))
