-- Which file of the old format is the first.
use Rattle.std.proofs.Common.{◌≡◌, ◌≢◌, ◌<◌, ℕ, zero, suc, eqb, List, [], ◌∷◌, Option, Some, None, Result, Ok, inl, inr, refl, sym, ◌∙◌, ap, subst, eq-eqb, ne_eqb, arith}
use Rattle.std.proofs.lemmas.Bool.{cases_eq, cond-true, cond-false}
use Rattle.node_image.specs.declared.node.RootRef.{RootRef}
use Rattle.node_image.specs.References.{current_format}
use Rattle.hmac_keys.specs.declared.Keys.{Keys}
use Rattle.tee_types.specs.Limits.{old_directory_file}
use Rattle.dir_records.specs.declared.entry.DirEntry.{DirEntry}
use Rattle.dir_records.specs.Form.{HasForm, IsFormat}
use Rattle.crash_core.specs.EntryLists.{AreCurrent, entry_at}
use Rattle.crash_core.specs.Refusal.{Refusal}
use Rattle.crash_core.specs.CardBlock.{directory_at, old_format, root_in}
use Rattle.crash_core.specs.Pictures.{Picture, block_zero}
use Rattle.crash_core.specs.Mounting.{mounted_directory}
use Rattle.crash_core.specs.OldFormats.{first_old, old_entry, old_file, old_under}
use Rattle.crash_core.proofs.MountedImages.{mounted_are}

-- no entry below a place has a file of the old format
abbrev pub NoneOldBelow : List (Option DirEntry) → (upto : ℕ) → Type 0
NoneOldBelow entries upto = (index : ℕ) (e : DirEntry) → index < upto → entry_at entries index ≡ Some e → e.format ≢ old_format

-- an entry of the old format, behind none, is the first
pub first_old_at : (entries : List (Option DirEntry)) (index : ℕ) (e : DirEntry) → NoneOldBelow entries index → entry_at entries index ≡ Some e → e.format ≡ old_format
    → first_old entries ≡ Some e.file
first_old_at [] index e below at old = absurd (cc (at))
first_old_at (x ∷ entries) zero e below at old =
    subst (λ (o : Option DirEntry). first_old (o ∷ entries) ≡ Some e.file) (sym at) (cond-true (eqb e.format old_format) (Some e.file) (first_old entries) (eq-eqb e.format old_format old))
first_old_at (None ∷ entries) (suc index) e below at old = first_old_at entries index e (λ k f lt there. below (suc k) f (omega arith) there) at old
first_old_at (Some first ∷ entries) (suc index) e below at old =
    cond-false (eqb first.format old_format) (Some first.file) (first_old entries) (ne_eqb first.format old_format (below zero first (omega arith) refl))
    ∙ first_old_at entries index e (λ k f lt there. below (suc k) f (omega arith) there) at old

-- where no entry has one, there is none
pub none_is_old : (entries : List (Option DirEntry)) → ((index : ℕ) (e : DirEntry) → entry_at entries index ≡ Some e → e.format ≢ old_format) → first_old entries ≡ None
none_is_old [] each = refl
none_is_old (None ∷ entries) each = none_is_old entries (λ k f there. each (suc k) f there)
none_is_old (Some first ∷ entries) each =
    cond-false (eqb first.format old_format) (Some first.file) (first_old entries) (ne_eqb first.format old_format (each zero first refl))
    ∙ none_is_old entries (λ k f there. each (suc k) f there)

-- and back
pub none_old : (entries : List (Option DirEntry)) → first_old entries ≡ None → (index : ℕ) (e : DirEntry) → entry_at entries index ≡ Some e → e.format ≢ old_format
none_old [] none index e at = absurd (cc (at))
none_old (None ∷ entries) none zero e at = absurd (cc (at))
none_old (None ∷ entries) none (suc index) e at = none_old entries none index e at
none_old (Some first ∷ entries) none index e at = elim (cases_eq first.format old_format) [
  | inl old ↦ let found : Some first.file ≡ None = sym (cond-true (eqb first.format old_format) (Some first.file) (first_old entries) (eq-eqb first.format old_format old)) ∙ none in absurd (cc (found))
  | inr other ↦
      let rest : first_old entries ≡ None = sym (cond-false (eqb first.format old_format) (Some first.file) (first_old entries) (ne_eqb first.format old_format other)) ∙ none in
      behind index at other (λ k there. none_old entries rest k e there)
]
  where
    behind : (k : ℕ) → entry_at (Some first ∷ entries) k ≡ Some e → first.format ≢ old_format → ((j : ℕ) → entry_at entries j ≡ Some e → e.format ≢ old_format) → e.format ≢ old_format
    behind zero there other rest = let same : first ≡ e = cc (there) in subst (λ (x : DirEntry). x.format ≢ old_format) same other
    behind (suc k) there other rest = rest k there

-- Then each file is of the current format.
pub none_old_current : (entries : List (Option DirEntry)) → ((index : ℕ) (e : DirEntry) → entry_at entries index ≡ Some e → HasForm e) → first_old entries ≡ None → AreCurrent entries
none_old_current entries forms none index e at =
    let form = (forms index e at).format in
    let other : e.format ≢ old_format = none_old entries none index e at in
    omega (arith, form.0, form.1, other)

-- WHAT A MOUNT REFUSES
module _ (keys : Keys) (picture : Picture) (root : RootRef) (names : root_in (block_zero picture.card) ≡ Ok root) where
  -- the directory's file comes first
  pub old_directory : root.format ≡ old_format → old_file keys picture ≡ Some old_directory_file
  old_directory old =
      ap (λ (r : Result RootRef Refusal). old_under r (mounted_directory keys picture)) names
      ∙ cond-true (eqb root.format old_format) (Some (directory_at root.format)) (old_entry (mounted_directory keys picture)) (eq-eqb root.format old_format old)
      ∙ ap (λ (format : ℕ). Some (directory_at format)) old

  module _ (entries : List (Option DirEntry)) (mounts : mounted_directory keys picture ≡ Ok entries) where
    -- else it is the first that an entry names
    pub old_by_entries : root.format ≢ old_format → old_file keys picture ≡ first_old entries
    old_by_entries other =
        (λ i. old_under (names i) (mounts i))
        ∙ cond-false (eqb root.format old_format) (Some (directory_at root.format)) (first_old entries) (ne_eqb root.format old_format other)

    -- Where there is none, directory and entries are of the current format.
    pub none_old_store : IsFormat root.format → old_file keys picture ≡ None → (root.format ≡ current_format) × AreCurrent entries
    none_old_store form none = elim (cases_eq root.format old_format) [
      | inl old ↦ let found : Some 0 ≡ None = sym (old_directory old) ∙ none in absurd (cc (found))
      | inr other ↦ (omega (arith, form.0, form.1, other), none_old_current entries (mounted_are keys picture entries mounts).forms (sym (old_by_entries other) ∙ none))
    ]
