-- The files below a number were copied, and those from there on are as they were.
use Rattle.std.proofs.Common.{◌≡◌, ◌≢◌, ◌∙◌, ◌+◌, ◌<◌, ◌≤◌, ℕ, List, inl, inr, refl, sym, subst, arith}
use Rattle.std.proofs.lemmas.Bool.{cases_lt}
use Rattle.tee_types.specs.Limits.{file_count}
use Rattle.disk_model.specs.State.{FileState}
use Rattle.folder_export.specs.declared.fault.FileFault.{FileFault}
use Rattle.folder_export.specs.Copies.{CopiesFile, FileFailed, OneFailed, WritesFile}
use Rattle.folder_export.specs.declared.fault.FilePlace.TheVariants.{Folder}
use Rattle.folder_export.specs.Exports.{CopiesBelow, ExportsStore, StopsAt, StopsExport, at_block}

-- calls of files that copied these, and left the others
pub record CopiedBelow (files_old files_new folder_old folder_new : ℕ → FileState) (count : ℕ) : Type 0 where
  pub below : CopiesBelow files_old files_new folder_old folder_new count
  pub files : (k : ℕ) → count ≤ k → files_new k ≡ files_old k
  pub folder : (k : ℕ) → count ≤ k → folder_new k ≡ folder_old k

same_copy : (a b c x y z : FileState) → c ≡ b → z ≡ y → CopiesFile a b x y → CopiesFile a c x z
same_copy a b c x y z from to copies = subst (λ (s : FileState). CopiesFile a c x s) (sym to) (subst (λ (s : FileState). CopiesFile a s x y) (sym from) copies)

module _ (files_a files_b files_c folder_a folder_b folder_c : ℕ → FileState) (n : ℕ) (before : CopiedBelow files_a files_b folder_a folder_b n)
    (files_else : (k : ℕ) → k ≢ n → files_c k ≡ files_b k) (folder_else : (k : ℕ) → k ≢ n → folder_c k ≡ folder_b k) where
  still_copied : CopiesBelow files_a files_c folder_a folder_c n
  still_copied k lt = same_copy (files_a k) (files_b k) (files_c k) (folder_a k) (folder_b k) (folder_c k) (files_else k (omega (arith, lt))) (folder_else k (omega (arith, lt))) (before.below k lt)

  -- the next one was copied too
  pub copied_next : CopiesFile (files_b n) (files_c n) (folder_b n) (folder_c n) → CopiedBelow files_a files_c folder_a folder_c (n + 1)
  copied_next copies = record {
    below = λ k lt. elim (cases_lt k n) as (λ _. CopiesFile (files_a k) (files_c k) (folder_a k) (folder_c k)) [
      | inl below ↦ still_copied k below
      | inr above ↦
          let here : n ≡ k = omega (arith, lt, above) in
          subst (λ (j : ℕ). CopiesFile (files_a j) (files_c j) (folder_a j) (folder_c j)) here
          (subst (λ (s : FileState). CopiesFile (files_a n) (files_c n) s (folder_c n)) (before.folder n (omega arith))
          (subst (λ (s : FileState). CopiesFile s (files_c n) (folder_b n) (folder_c n)) (before.files n (omega arith)) copies))
    ];
    files = λ k le. files_else k (omega (arith, le)) ∙ before.files k (omega (arith, le));
    folder = λ k le. folder_else k (omega (arith, le)) ∙ before.folder k (omega (arith, le));
  }

  -- or the export was given up at it
  pub stopped_here : (fault : FileFault) → n < file_count → OneFailed fault.place fault.count n (files_b n) (files_c n) (folder_b n) (folder_c n)
      → StopsAt files_a files_c folder_a folder_c fault n
  stopped_here fault within failed = record {
    within = within;
    below = still_copied;
    failed = subst (λ (s : FileState). OneFailed fault.place fault.count n (files_a n) (files_c n) s (folder_c n)) (before.folder n (omega arith))
        (subst (λ (s : FileState). OneFailed fault.place fault.count n s (files_c n) (folder_b n) (folder_c n)) (before.files n (omega arith)) failed);
    files = λ k lt. files_else k (omega (arith, lt)) ∙ before.files k (omega (arith, lt));
    folder = λ k lt. folder_else k (omega (arith, lt)) ∙ before.folder k (omega (arith, lt));
  }

-- behind all files the block was put
module _ (files_a files_b folder_a folder_b folder_c : ℕ → FileState) (n : ℕ) (all : n ≡ file_count) (before : CopiedBelow files_a files_b folder_a folder_b n)
    (folder_else : (k : ℕ) → k ≢ file_count → folder_c k ≡ folder_b k) where
  all_copied : CopiesBelow files_a files_b folder_a folder_c file_count
  all_copied k lt =
      same_copy (files_a k) (files_b k) (files_b k) (folder_a k) (folder_b k) (folder_c k) refl (folder_else k (omega (arith, lt))) (before.below k (omega (arith, lt, all)))

  behind : folder_b file_count ≡ folder_a file_count
  behind = before.folder file_count (omega (arith, all))

  pub exported : (block : List ℕ) → WritesFile block (folder_b file_count) (folder_c file_count) → ExportsStore files_a files_b folder_a folder_c block
  exported block writes = record { files = all_copied; block_file = subst (λ (s : FileState). WritesFile block s (folder_c file_count)) behind writes }

  -- or the export was given up there
  pub stopped_last : (count : ℕ) → FileFailed (folder_b file_count) (folder_c file_count) count
      → StopsExport files_a files_b folder_a folder_c (record { place = Folder file_count; count = count })
  stopped_last count failed = at_block (record { below = all_copied; place = refl; failed = subst (λ (s : FileState). FileFailed s (folder_c file_count) count) behind failed })
