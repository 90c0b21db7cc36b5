-- Which images a mounted map is read from.
use Rattle.std.proofs.Common.{◌≡◌, ◌≢◌, ◌≤◌, ℕ, zero, suc, List, [], ◌∷◌, Option, Some, None, Result, Ok, Err, eqb, inl, inr, refl, sym, ◌∙◌, ap, subst, arith, eq-eqb, ne_eqb}
use Rattle.std.specs.Prelude.{slice_set}
use Rattle.std.proofs.lemmas.Bool.{cases_eq, cond-true, cond-false}
use Rattle.node_image.specs.declared.node.RootRef.{RootRef}
use Rattle.hmac_keys.specs.declared.Keys.{Keys}
use Rattle.rpmb_card.specs.Card.{CardState}
use Rattle.htree_file.specs.Pages.{opened_of}
use Rattle.store_model.specs.Object.{ObjectMap, with_object}
use Rattle.tee_types.specs.Limits.{directory_file, last_file, old_directory_file}
use Rattle.tee_types.proofs.FileNumbers.{object_not_directory}
use Rattle.dir_records.specs.declared.entry.DirEntry.{DirEntry}
use Rattle.crash_core.specs.MountedObject.{mounted_object}
use Rattle.crash_core.specs.declared.fault.DirFault.{DirFault}
use Rattle.crash_core.specs.Entries.{name_of}
use Rattle.crash_core.specs.EntryLists.{IsUnnamed, entry_at}
use Rattle.crash_core.specs.Directory.{directory_of}
use Rattle.crash_core.specs.DirectoryLaws.{AreEntries}
use Rattle.crash_core.specs.Refusal.{Refusal}
use Rattle.crash_core.specs.CardBlock.{directory_at, old_format, root_in}
use Rattle.crash_core.specs.DeviceKeys.{directory_key, object_key}
use Rattle.crash_core.specs.Pictures.{Picture, block_zero}
use Rattle.crash_core.specs.Mounting.{Held, all_held_in, directory_by, held_in, map_of, mounted, mounted_directory, mounted_entries, unless_fault}
use Rattle.crash_core.proofs.Doubles.{directory_entries}
use Rattle.crash_core.proofs.SameDirectory.{directory_seen}

-- THE FILES OF A DIRECTORY
-- a directory that is read has entries in their forms
pub read_entries : (key image : List ℕ) (root : RootRef) (entries : List (Option DirEntry)) → directory_of key image root ≡ Ok entries → AreEntries entries
read_entries key image root entries is = directory_entries entries (opened_of key image root) (directory_seen key image root entries is)

-- no object stands in a directory's file
pub file_not_directory : (format file : ℕ) → 1 ≤ file → file ≤ last_file → file ≢ directory_at format
file_not_directory format file least most is = elim (cases_eq format old_format) [
  | inl old ↦ let first : directory_at format ≡ old_directory_file = cond-true (eqb format old_format) old_directory_file directory_file (eq-eqb format old_format old) in omega (arith, least, is, first)
  | inr other ↦ object_not_directory file least most (is ∙ cond-false (eqb format old_format) old_directory_file directory_file (ne_eqb format old_format other))
]

pub entry_not_directory : (format : ℕ) (entries : List (Option DirEntry)) → AreEntries entries → (index : ℕ) (e : DirEntry) → entry_at entries index ≡ Some e → e.file ≢ directory_at format
entry_not_directory format entries are index e at = let form = are.forms index e at in file_not_directory format e.file form.file.0 form.file.1

-- WHAT ENTRIES HOLD IN IMAGES
module _ (keys : Keys) (images others : ℕ → List ℕ) where
  pub same_held : (entries : List (Option DirEntry)) → ((index : ℕ) (e : DirEntry) → entry_at entries index ≡ Some e → others e.file ≡ images e.file)
      → all_held_in keys others entries ≡ all_held_in keys images entries
  same_held [] each = refl
  same_held (None ∷ entries) each = λ i. None ∷ same_held entries (λ k e at. each (suc k) e at) i
  same_held (Some e ∷ entries) each =
      λ i. Some (record { entry = e; object = mounted_object (object_key keys e.app) (each zero e refl i) e }) ∷ same_held entries (λ k f at. each (suc k) f at) i

  -- one entry is another of the same name, which holds the same object: the map is the same
  pub same_moved : (entries : List (Option DirEntry)) (index : ℕ) (e moved : DirEntry) → entry_at entries index ≡ Some e → name_of moved ≡ name_of e
      → (held_in keys images moved).object ≡ (held_in keys others e).object
      → ((n : ℕ) (f : DirEntry) → n ≢ index → entry_at entries n ≡ Some f → others f.file ≡ images f.file)
      → map_of (all_held_in keys others entries) ≡ map_of (all_held_in keys images (slice_set entries index (Some moved)))
  same_moved [] index e moved at name object each = absurd (cc (at))
  same_moved (x ∷ entries) zero e moved at name object each =
      let rest : all_held_in keys others entries ≡ all_held_in keys images entries = same_held entries (λ k f there. each (suc k) f (λ is. absurd (omega (arith, is))) there) in
      subst (λ (o : Option DirEntry). map_of (all_held_in keys others (o ∷ entries)) ≡ map_of (all_held_in keys images (Some moved ∷ entries))) (sym at)
      (λ i. with_object (map_of (rest i)) (sym name i) (sym object i))
  same_moved (None ∷ entries) (suc index) e moved at name object each =
      same_moved entries index e moved at name object (λ k f other there. each (suc k) f (λ is. other (omega (arith, is))) there)
  same_moved (Some f ∷ entries) (suc index) e moved at name object each =
      let rest = same_moved entries index e moved at name object (λ k g other there. each (suc k) g (λ is. other (omega (arith, is))) there) in
      let own : others f.file ≡ images f.file = each zero f (λ is. absurd (omega (arith, is))) refl in
      (λ i. with_object (rest i) (name_of f) (mounted_object (object_key keys f.app) (own i) f))

-- WHAT A PICTURE MOUNTS
module _ (keys : Keys) (picture : Picture) (root : RootRef) (entries : List (Option DirEntry)) (names : root_in (block_zero picture.card) ≡ Ok root)
    (reads : directory_of (directory_key keys) (picture.images (directory_at root.format)) root ≡ Ok entries) where
  pub directory_is : mounted_directory keys picture ≡ Ok entries
  directory_is = ap (directory_by keys picture.images) names ∙ ap unless_fault reads

  pub map_is : mounted keys picture ≡ Ok (map_of (all_held_in keys picture.images entries))
  map_is = ap (mounted_entries keys picture.images) directory_is

-- a picture that mounts has a directory that is read
pub mounted_are : (keys : Keys) (picture : Picture) (entries : List (Option DirEntry)) → mounted_directory keys picture ≡ Ok entries → AreEntries entries
mounted_are keys picture entries is = by_root (root_in (block_zero picture.card)) is
  where
    by_directory : (image : List ℕ) (root : RootRef) (d : Result (List (Option DirEntry)) DirFault) → directory_of (directory_key keys) image root ≡ d → unless_fault d ≡ Ok entries → AreEntries entries
    by_directory image root (Err fault) reads found = absurd (cc (found))
    by_directory image root (Ok own) reads found =
        let same : own ≡ entries = cc (found) in
        subst AreEntries same (read_entries (directory_key keys) image root own reads)

    by_root : (r : Result RootRef Refusal) → directory_by keys picture.images r ≡ Ok entries → AreEntries entries
    by_root (Err refusal) found = absurd (cc (found))
    by_root (Ok root) found = by_directory (picture.images (directory_at root.format)) root (directory_of (directory_key keys) (picture.images (directory_at root.format)) root) refl found

-- The image of a file that is neither the directory's nor named by an entry is not read.
module _ (keys : Keys) (images others : ℕ → List ℕ) (card : CardState) (file : ℕ) (same : (n : ℕ) → n ≢ file → others n ≡ images n)
    (elsewhere : (root : RootRef) → root_in (block_zero card) ≡ Ok root → file ≢ directory_at root.format)
    (unnamed : (entries : List (Option DirEntry)) → mounted_directory keys (record { images = others; card = card }) ≡ Ok entries → IsUnnamed entries file) where
  by_entries : (d : Result (List (Option DirEntry)) Refusal) → mounted_directory keys (record { images = others; card = card }) ≡ d → mounted_entries keys others d ≡ mounted_entries keys images d
  by_entries (Err refusal) is = refl
  by_entries (Ok entries) is =
      ap (λ (l : List (Option Held)). let r : Result ObjectMap Refusal = Ok (map_of l) in r)
      (same_held keys images others entries (λ index e at. same e.file (λ here. unnamed entries is index e at (sym here))))

  by_root : (r : Result RootRef Refusal) → root_in (block_zero card) ≡ r → directory_by keys others r ≡ directory_by keys images r
  by_root (Err refusal) is = refl
  by_root (Ok root) is = ap (λ (b : List ℕ). unless_fault (directory_of (directory_key keys) b root)) (same (directory_at root.format) (λ here. elsewhere root is (sym here)))

  pub unread_same : mounted keys (record { images = others; card = card }) ≡ mounted keys (record { images = images; card = card })
  unread_same =
      by_entries (mounted_directory keys (record { images = others; card = card })) refl
      ∙ ap (mounted_entries keys images) (by_root (root_in (block_zero card)) refl)
