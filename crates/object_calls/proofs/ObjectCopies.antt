-- The copy of an object's file into another one of the bench.
use Rattle.std.proofs.Common.{◌≡◌, ◌≢◌, ◌∙◌, ◌-◌, ℕ, [], List, length, get_or, inl, inr, refl, sym, ap, subst}
use Rattle.std.specs.Prelude.{insert, remove, slice_set}
use Rattle.std.proofs.lemmas.Bool.{cases_eq}
use Rattle.disk_model.specs.State.{FileState, pending}
use Rattle.disk_model.specs.Calls.{Known, Rests}
use Rattle.disk_model.specs.Keeps.{Keeps}
use Rattle.htree_file.specs.declared.fault.TreeFault.{TreeFault}
use Rattle.htree_file.specs.declared.fault.TreeFault.TheVariants.{Failed as FileFault}
use Rattle.htree_file.specs.Answers.{FileFailed, FilePassed}
use Rattle.htree_file.specs.Copies.{CopyOpens, OneFailed}
use Rattle.htree_file.specs.Making.{Nowhere}
use Rattle.htree_file.specs.Standing.{Told}
use Rattle.htree_file.proofs.Causes.{passed_none}
use Rattle.node_image.specs.declared.node.RootRef.{RootRef}
use Rattle.node_image.specs.References.{current_format}
use Rattle.tee_types.specs.Limits.{IsObjectFile, last_file}
use Rattle.tee_types.specs.declared.reply.Cause.TheVariants.{Fault}
use Rattle.tee_types.specs.declared.reply.Device.TheVariants.{File}
use Rattle.dir_records.specs.declared.entry.DirEntry.{DirEntry}
use Rattle.crash_core.specs.MountedObject.{root_of}
use Rattle.store_commit.specs.declared.fault.MountFault.{MountFault}
use Rattle.store_commit.specs.declared.fault.MountFault.TheVariants.{Failed}
use Rattle.object_calls.specs.OpeningFiles.{object_files}
use Rattle.object_calls.specs.ObjectMoves.{CopiesBetweenFiles, CopiesObject, ObjectNotCopied, place_beside}
use Rattle.object_calls.proofs.FilesBeside.{ArePutBack, beside_is, put_back, taken_is}

module _ {F : Type 0} (state : F → FileState) where
  -- Two files of a list are others now.
  pub record AreExchanged (l now : List F) (from file : ℕ) (x0 x1 y0 y1 : F) : Type 0 where
    pub from_was : object_files state l from ≡ state x0
    pub file_was : object_files state l file ≡ state y0
    pub put : ArePutBack state l now from file x1 y1

  pub exchanged : (l rest now : List F) (from file place : ℕ) (x0 x1 y0 y1 : F) → length l ≡ last_file → IsObjectFile from → IsObjectFile file → from ≢ file → rest ≡ remove l (file - 1)
      → place ≡ place_beside from file → y0 ≡ get_or l (file - 1) y0 → x0 ≡ get_or rest place x0 → now ≡ insert (slice_set rest place x1) (file - 1) y1 → AreExchanged l now from file x0 x1 y0 y1
  exchanged l rest now from file place x0 x1 y0 y1 long own object apart rest_is place_is taken read put =
      let there : x0 ≡ get_or (remove l (file - 1)) (place_beside from file) x0 = read ∙ (λ i. get_or (rest_is i) (place_is i) x0) in
      let list : now ≡ insert (slice_set (remove l (file - 1)) (place_beside from file) x1) (file - 1) y1 = put ∙ (λ i. insert (slice_set (rest_is i) (place_is i) x1) (file - 1) y1) in
      record {
        from_was = beside_is state l from file long own object apart x0 there;
        file_was = taken_is state l from file long own object apart y0 taken;
        put = subst (λ (k : List F). ArePutBack state l k from file x1 y1) (sym list) (put_back state l from file long own object apart x1 y1);
      }

  module _ (l now : List F) (from file : ℕ) (x0 x1 y0 y1 : F) (are : AreExchanged l now from file x0 x1 y0 y1) where
    abbrev old : ℕ → FileState
    old = object_files state l

    abbrev new : ℕ → FileState
    new = object_files state now

    -- what is said of the two is said of them by their numbers
    of_from : (P : FileState → FileState → Type 0) → P (state x0) (state x1) → P (old from) (new from)
    of_from P is = subst (λ (s : FileState). P s (new from)) (sym are.from_was) (subst (P (state x0)) (sym are.put.beside) is)

    of_file : (P : FileState → FileState → Type 0) → P (state y0) (state y1) → P (old file) (new file)
    of_file P is = subst (λ (s : FileState). P s (new file)) (sym are.file_was) (subst (P (state y0)) (sym are.put.here) is)

    pub copies_between : Rests (state x0) (state x1) → Keeps Nowhere (state y0) (state y1) → CopiesBetweenFiles old new from file
    copies_between rests keeps = record {
      reads = of_from Rests rests;
      writes = of_file (Keeps Nowhere) keeps;
      others = are.put.others;
    }

    all_passed : FilePassed (state x0) (state x1) → FilePassed (state y0) (state y1) → (n : ℕ) → FilePassed (old n) (new n)
    all_passed one other n = elim (cases_eq n from) [
      | inl is ↦ subst (λ (k : ℕ). FilePassed (old k) (new k)) (sym is) (of_from FilePassed one)
      | inr not_from ↦ elim (cases_eq n file) [
        | inl is ↦ subst (λ (k : ℕ). FilePassed (old k) (new k)) (sym is) (of_file FilePassed other)
        | inr not_file ↦ subst (FilePassed (old n)) (sym (are.put.others n not_from not_file)) (passed_none (old n))
      ]
    ]

    abbrev Opens : (a b c d : FileState) → RootRef → Type 0
    Opens a b c d root = Told a b → Known c d → CopyOpens b.reads d.reads root current_format

    pub copies_object : (e : DirEntry) (root : RootRef) → from ≡ e.file → root ≡ root_of e → Rests (state x0) (state x1) → Keeps Nowhere (state y0) (state y1) → pending (state y1) ≡ []
        → Opens (state x0) (state x1) (state y0) (state y1) root → FilePassed (state x0) (state x1) → FilePassed (state y0) (state y1) → CopiesObject old new e file
    copies_object e root from_is root_is rests keeps settled opens one other =
        let between : CopiesBetweenFiles old new from file = copies_between rests keeps in
        let opens_now : Opens (old from) (new from) (old file) (new file) root =
        of_from (λ a b. Opens a b (old file) (new file) root) (of_file (λ c d. Opens (state x0) (state x1) c d root) opens) in
        let opens_of : Opens (old from) (new from) (old file) (new file) (root_of e) = subst (Opens (old from) (new from) (old file) (new file)) root_is opens_now in
        record {
          between = subst (λ (n : ℕ). CopiesBetweenFiles old new n file) from_is between;
          settled = ap pending are.put.here ∙ settled;
          opens = subst (λ (n : ℕ). Opens (old n) (new n) (old file) (new file) (root_of e)) from_is opens_of;
          passed = all_passed one other;
        }

    pub copy_not_made : (e : DirEntry) (fault : TreeFault) (count : ℕ) (answer : MountFault) → from ≡ e.file → IsObjectFile from → IsObjectFile file
        → OneFailed (state x0) (state x1) (state y0) (state y1) fault → fault ≡ FileFault count → answer ≡ Failed (Fault (File e.file) count) → ObjectNotCopied old new e answer
    copy_not_made e fault count answer from_is own object one is answer_is =
        let failed = subst (OneFailed (state x0) (state x1) (state y0) (state y1)) is one in
        let own_now : IsObjectFile e.file = subst IsObjectFile from_is own in
        subst (ObjectNotCopied old new e) (sym answer_is) (
          refl,
          record {
            named = own_now;
            other = file;
            into = object;
            failed = elim failed [
              | inl first ↦ inl (subst (λ (n : ℕ). FileFailed (old n) (new n) count) from_is (of_from (λ a b. FileFailed a b count) first.0))
              | inr second ↦ inr (of_file (λ a b. FileFailed a b count) second.1)
            ];
          },
        )
