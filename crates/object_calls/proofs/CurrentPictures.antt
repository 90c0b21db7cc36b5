-- Pictures that have no file of the old format.
use Rattle.std.proofs.Common.{◌≡◌, ◌∙◌, ◌==◌, ◌+◌, ℕ, List, [], get_or, Option, Some, None, Result, Ok, Err, IsTrue, inl, inr, refl, sym, ap, subst, arith}
use Rattle.std.specs.List.{list_all}
use Rattle.std.proofs.lemmas.Bool.{cases_Bool}
use Rattle.node_image.specs.References.{current_format}
use Rattle.node_image.specs.declared.node.RootRef.{RootRef}
use Rattle.hmac_keys.specs.declared.Keys.{Keys}
use Rattle.tee_types.specs.Limits.{directory_file}
use Rattle.rpmb_card.specs.Card.{CardState}
use Rattle.dir_records.specs.declared.entry.DirEntry.{DirEntry}
use Rattle.dir_records.specs.Form.{IsFormat}
use Rattle.crash_core.specs.CardBlock.{first_outside, root_in, root_or}
use Rattle.crash_core.specs.DeviceKeys.{directory_key}
use Rattle.crash_core.specs.EntryLists.{AreCurrent}
use Rattle.crash_core.specs.Mounting.{directory_by, mounted_directory}
use Rattle.crash_core.specs.OldFormats.{old_file}
use Rattle.crash_core.specs.Pictures.{Picture, block_zero}
use Rattle.crash_core.specs.Refusal.{Refusal}
use Rattle.crash_core.proofs.Lists.{set_at}
use Rattle.crash_core.proofs.OldFormats.{none_is_old, none_old_store, old_by_entries}
use Rattle.core_laws.proofs.Mending.{none_some, some_same}
use Rattle.serial_calls.specs.CurrentFiles.{AreFilesCurrent, PutsCurrent}
use Rattle.crash_core.specs.declared.change.DoubtedChange.{DoubtedChange}
use Rattle.store_commit.specs.Blocks.{picture_of}
use Rattle.crash_core.specs.declared.change.EntryChange.{EntryChange}
use Rattle.crash_core.specs.declared.change.EntryChange.TheVariants.{Clear, Put}
use Rattle.crash_core.specs.EntryChanges.{changed}
use Rattle.store_commit.specs.Gates.{DoubtStands}
use Rattle.store_commit.specs.Sides.{IsGatePicture, Names, Sides}
use Rattle.store_commit.proofs.Ending.{doubted_pictures, settled_pictures}
use Rattle.store_commit.proofs.Outside.{format_bounds, root_other, root_zero}
use Rattle.object_calls.proofs.DirectoryImages.{one_directory}

-- a picture has none whose card names a directory of the current format, as each of its entries is
pub none_named : (keys : Keys) (picture : Picture) (root : RootRef) (entries : List (Option DirEntry)) → root_in (block_zero picture.card) ≡ Ok root → root.format ≡ current_format
    → mounted_directory keys picture ≡ Ok entries → AreCurrent entries → old_file keys picture ≡ None
none_named keys picture root entries names current mounts are =
    old_by_entries keys picture root names entries mounts (λ is. omega (arith, is, current))
    ∙ none_is_old entries (λ index e at is. let here : e.format ≡ current_format = are index e at in omega (arith, is, here))

-- WHAT A BLOCK NAMES
or_format : (block : List ℕ) (outside : Option ℕ) (root : RootRef) → outside ≡ first_outside block 0 256 → root_or block outside ≡ Ok root → IsFormat root.format
or_format block None root is names =
    let format : get_or block 0 0 ≡ root.format = cc (names) in
    subst IsFormat format (format_bounds block (sym is))
or_format block (Some offset) root is names = absurd (cc (names))

-- a directory of a known format
pub named_format : (block : List ℕ) (root : RootRef) → root_in block ≡ Ok root → IsFormat root.format
named_format block root names = elim (cases_Bool (list_all (λ x. x == 0) block)) [
  | inl blank ↦ let none = sym (root_zero block blank) ∙ names in absurd (cc (none))
  | inr other ↦ or_format block (first_outside block 0 256) root refl (sym (root_other block other) ∙ names)
]

-- a picture that has a directory names one
pub root_named : (keys : Keys) (images : ℕ → List ℕ) (entries : List (Option DirEntry)) (r : Result RootRef Refusal) → directory_by keys images r ≡ Ok entries → (root : RootRef) × (r ≡ Ok root)
root_named keys images entries (Ok root) is = (root, refl)
root_named keys images entries (Err refusal) is = absurd (cc (is))

-- So a picture that has a directory and no file of the old format reads it from the one image of the directory's file.
pub one_picture : (keys : Keys) (images : ℕ → List ℕ) (image : List ℕ) (card : CardState) (entries : List (Option DirEntry)) → images directory_file ≡ image
    → mounted_directory keys (record { images = images; card = card }) ≡ Ok entries → old_file keys (record { images = images; card = card }) ≡ None
    → (mounted_directory keys (picture_of image card) ≡ Ok entries) × (old_file keys (picture_of image card) ≡ None)
one_picture keys images image card entries is mounts none =
    let picture : Picture = record { images = images; card = card } in
    let named = root_named keys images entries (root_in (block_zero card)) mounts in
    let current : (named.0.format ≡ current_format) × AreCurrent entries = none_old_store keys picture named.0 named.1 entries mounts (named_format (block_zero card) named.0 named.1) none in
    let read : mounted_directory keys (picture_of image card) ≡ Ok entries = sym (one_directory keys images image card named.0 named.1 current.0 is) ∙ mounts in
    (read, none_named keys (picture_of image card) named.0 entries named.1 current.0 read current.1)

-- THE PICTURES OF A GATE
changed_current : (entries : List (Option DirEntry)) (change : EntryChange) → AreCurrent entries → PutsCurrent change → AreCurrent (changed entries change)
changed_current entries (Put k x) are puts = λ index e at. elim (set_at entries k index (Some x) e at) [
  | inl new ↦ subst (λ (y : DirEntry). y.format ≡ current_format) (some_same x e new) puts
  | inr old ↦ are index e old
]
changed_current entries (Clear k) are puts = λ index e at. elim (set_at entries k index None e at) [
  | inl new ↦ absurd (none_some e new)
  | inr old ↦ are index e old
]

module _ (g : Sides) (keys : Keys) (picture : Picture) (is_key : directory_key keys ≡ g.dir.tsk) (honest : IsTrue g.file.honest) (of : IsGatePicture g picture) where
  names : (root : RootRef) (counter : ℕ) → Names of.card root counter → root_in (block_zero picture.card) ≡ Ok root
  names root counter named = ap (λ (b : List (List ℕ)). root_in (get_or b 0 [])) of.same.blocks ∙ named.block

  -- Where the files of a gate are of the current format, and the one that its commit in doubt puts, no picture of it has one of the old format.
  pub gate_not_old : (doubt : Option DoubtedChange) → AreFilesCurrent g.dir doubt → DoubtStands g doubt → old_file keys picture ≡ None
  gate_not_old None are stands =
      none_named keys picture g.dir.root g.dir.entries (names g.dir.root g.counter (stands.named of.card of.has)) are.root
      (settled_pictures g stands honest keys picture is_key of) are.entries
  gate_not_old (Some d) are stands =
      let named : (root : RootRef) × (root_in (block_zero picture.card) ≡ Ok root) × (root.format ≡ current_format) = elim (stands.stands.named of.card of.has) [
        | inl old ↦ (g.dir.root, names g.dir.root g.counter old, are.root)
        | inr new ↦ (stands.next.root, names stands.next.root (g.counter + 1) new, stands.stands.same_format ∙ are.root)
      ] in
      elim (doubted_pictures g stands.next stands.stands honest keys picture is_key of) [
        | inl old ↦ none_named keys picture named.0 g.dir.entries named.1 named.2 old are.entries
        | inr new ↦ none_named keys picture named.0 stands.next.entries named.1 named.2 new
            (subst AreCurrent (sym stands.entries) (changed_current g.dir.entries d.change are.entries are.put))
      ]
