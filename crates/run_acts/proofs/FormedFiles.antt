-- A bench that was formatted has no file of the old format.
use Rattle.std.proofs.Common.{◌≡◌, ◌≢◌, ◌∙◌, ◌+◌, ◌≤◌, ℕ, zero, suc, List, [], length, replicate, get_or, Option, None, Result, Ok, Err, IsTrue, refl, sym, ap, subst, arith}
use Rattle.disk_model.specs.State.{FileState, LeftNow}
use Rattle.node_image.specs.declared.node.RootRef.{RootRef}
use Rattle.node_image.specs.Parts.{layout_of, start}
use Rattle.node_image.specs.Parts.Part.{block}
use Rattle.node_image.specs.Tables.{block_version}
use Rattle.htree_file.specs.declared.fault.TreeFault.{TreeFault}
use Rattle.htree_file.specs.Opening.{Loaded, load_of}
use Rattle.htree_file.proofs.Loadings.{loaded_from}
use Rattle.htree_file.proofs.Sizes.{sized_greatest}
use Rattle.hmac_keys.specs.declared.Keys.{Keys}
use Rattle.hmac_keys.specs.KeyTable.{rpmb_key}
use Rattle.tee_types.specs.Limits.{directory_file, old_directory_file}
use Rattle.tee_types.proofs.FileNumbers.{old_not_directory}
use Rattle.rpmb_card.specs.Card.{CardState}
use Rattle.rpmb_card.specs.Port.{PortState}
use Rattle.rpmb_host.specs.Honest.{HasCard}
use Rattle.dir_records.specs.declared.entry.DirEntry.{DirEntry}
use Rattle.crash_core.specs.declared.fault.DirFault.{DirFault}
use Rattle.crash_core.specs.CardBlock.{directory_at, old_format, root_in}
use Rattle.crash_core.specs.CoreState.{put}
use Rattle.crash_core.specs.DeviceKeys.{directory_key}
use Rattle.crash_core.specs.Directory.{directory_of, directory_or}
use Rattle.crash_core.specs.Mounting.{directory_by, mounted_directory, unless_fault}
use Rattle.crash_core.specs.OldFormats.{first_old}
use Rattle.crash_core.specs.Pictures.{block_zero}
use Rattle.crash_core.proofs.Lists.{put_else, put_here}
use Rattle.crash_core.proofs.OldFormats.{old_by_entries}
use Rattle.core_laws.proofs.Mending.{some_same}
use Rattle.store_commit.specs.EntryForms.{no_entries}
use Rattle.store_commit.specs.Formats.{Formats, IsFormatted}
use Rattle.object_calls.proofs.CurrentPictures.{root_named}
use Rattle.object_calls.specs.OldStores.{HasNoOldFile}

-- in a file without bytes no tree loads
none_loads : (root : RootRef) (tree : Loaded) → load_of [] root ≡ Ok tree → ⊥
none_loads root tree is =
    let l = loaded_from [] root tree is in
    let greatest = sized_greatest tree.head l.hashed.sized in
    let some : 1 ≤ length tree.nodes = omega (arith, greatest, l.hashed.all) in
    let end : start (layout_of root.format) (block 0 (block_version tree.nodes 0)) + 4096 ≤ length {A = ℕ} [] = l.ends 0 (omega (arith, some)) in
    omega (arith, end)

no_directory : (key : List ℕ) (root : RootRef) (entries : List (Option DirEntry)) → directory_of key [] root ≡ Ok entries → ⊥
unfolding directory_of
no_directory key root entries is = by_load (load_of [] root) refl is
  where
    by_load : (r : Result Loaded TreeFault) → load_of [] root ≡ r → directory_or key [] r ≡ Ok entries → ⊥
    by_load (Ok tree) loads found = none_loads root tree loads
    by_load (Err fault) loads found = cc (found)

read_ok : (r : Result (List (Option DirEntry)) DirFault) (entries : List (Option DirEntry)) → unless_fault r ≡ Ok entries → r ≡ Ok entries
read_ok (Ok some) entries is = ap Ok (cc (is))
read_ok (Err fault) entries is = absurd (cc (is))

-- free entries name no file
none_first : (n : ℕ) → first_old (replicate n None) ≡ None
none_first zero = refl
none_first (suc n) = none_first n

module _ (keys : Keys) (file : FileState) (p1 : PortState) (card : CardState) (formed : IsFormatted file p1 keys card) (honest : IsTrue file.honest) where
  -- The block names no directory of the old format: that stands in another file, which may have no bytes.
  not_old_root : (image : List ℕ) → LeftNow file image → (root : RootRef) → root_in (block_zero formed.next) ≡ Ok root → root.format ≢ old_format
  not_old_root image left root names old =
      let images : ℕ → List ℕ = put (λ n. []) directory_file image in
      let own : images directory_file ≡ image = put_here (λ (n : ℕ). []) directory_file image directory_file refl in
      let other : images old_directory_file ≡ [] = put_else (λ (n : ℕ). []) directory_file image old_directory_file old_not_directory in
      let reads : unless_fault (directory_of (directory_key keys) (images (directory_at root.format)) root) ≡ Ok no_entries =
      sym (ap (directory_by keys images) names) ∙ formed.mounts honest images (subst (LeftNow file) (sym own) left) in
      no_directory (directory_key keys) root no_entries
      (read_ok (directory_of (directory_key keys) [] root) no_entries
      (subst (λ (i : List ℕ). unless_fault (directory_of (directory_key keys) i root) ≡ Ok no_entries) (ap (λ (format : ℕ). images (directory_at format)) old ∙ other) reads))

pub formed_not_old : (keys : Keys) (files : ℕ → FileState) (p0 p1 : PortState) (before : CardState) → Formats (files directory_file) p0 p1 keys → HasCard p0 (rpmb_key keys.huk) before
    → IsTrue (files directory_file).honest → HasNoOldFile keys files p1
formed_not_old keys files p0 p1 before formats had honest card picture has is =
    let formed = (formats before had).1 in
    let same : formed.next ≡ card = some_same formed.next card (sym formed.has.told ∙ has.told) in
    let block : block_zero picture.card ≡ block_zero formed.next = ap (λ (b : List (List ℕ)). get_or b 0 []) (is.same.blocks ∙ ap (λ (c : CardState). c.blocks) (sym same)) in
    let mounts : mounted_directory keys picture ≡ Ok no_entries =
    ap (λ (b : List ℕ). directory_by keys picture.images (root_in b)) block ∙ formed.mounts honest picture.images (is.left directory_file) in
    let named = root_named keys picture.images no_entries (root_in (block_zero picture.card)) mounts in
    let other : named.0.format ≢ old_format =
    not_old_root keys (files directory_file) p1 before formed honest (picture.images directory_file) (is.left directory_file) named.0 (sym (ap root_in block) ∙ named.1) in
    old_by_entries keys picture named.0 named.1 no_entries mounts other ∙ none_first 256
