-- A bench that was formatted mounts to no objects.
use Rattle.std.proofs.Common.{◌≡◌, ◌∙◌, ℕ, zero, suc, List, [], replicate, get_or, Some, None, Ok, refl, sym, ap}
use Rattle.disk_model.specs.State.{FileState}
use Rattle.hmac_keys.specs.declared.Keys.{Keys}
use Rattle.tee_types.specs.Limits.{directory_file}
use Rattle.rpmb_card.specs.Card.{CardState}
use Rattle.rpmb_card.specs.Port.{PortState}
use Rattle.store_model.specs.Object.{ObjectMap}
use Rattle.crash_core.specs.CardBlock.{root_in}
use Rattle.crash_core.specs.Mounting.{all_held_in, directory_by, map_of, mounted_directory, mounted_entries}
use Rattle.store_commit.specs.EntryForms.{no_entries}
use Rattle.store_commit.specs.Formats.{Formats}
use Rattle.object_calls.specs.OpeningFiles.{files_of}
use Rattle.object_calls.specs.Formed.{MountsToNone}

-- free entries name no object
none_named : (keys : Keys) (images : ℕ → List ℕ) (n : ℕ) → map_of (all_held_in keys images (replicate n None)) ≡ []
none_named keys images zero = refl
none_named keys images (suc n) = none_named keys images n

some_same : (a b : CardState) → Some a ≡ Some b → a ≡ b
some_same a b e = cc (e)

pub mounts_none : {F : Type 0} (state : F → FileState) (files : List F) (p0 p1 : PortState) (keys : Keys) → Formats (files_of state files directory_file) p0 p1 keys → MountsToNone state files p0 p1 keys
mounts_none state files p0 p1 keys formats old card picture had has is honest =
    let formed = (formats old had).1 in
    let same : formed.next ≡ card = some_same formed.next card (sym formed.has.told ∙ has.told) in
    let block : picture.card.blocks ≡ formed.next.blocks = is.same.blocks ∙ ap (λ (c : CardState). c.blocks) (sym same) in
    let directory : mounted_directory keys picture ≡ Ok no_entries =
    ap (λ (b : List (List ℕ)). directory_by keys picture.images (root_in (get_or b 0 []))) block ∙ formed.mounts honest picture.images (is.left directory_file) in
    ap (mounted_entries keys picture.images) directory ∙ ap (λ (m : ObjectMap). Ok m) (none_named keys picture.images 256)
