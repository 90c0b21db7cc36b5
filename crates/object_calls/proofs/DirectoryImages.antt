-- What a picture mounts whose card names a directory of the current format.
use Rattle.std.proofs.Common.{◌≡◌, ◌∙◌, ℕ, List, Ok, sym, ap}
use Rattle.node_image.specs.References.{current_format}
use Rattle.node_image.specs.declared.node.RootRef.{RootRef}
use Rattle.hmac_keys.specs.declared.Keys.{Keys}
use Rattle.tee_types.specs.Limits.{directory_file}
use Rattle.rpmb_card.specs.Card.{CardState}
use Rattle.crash_core.specs.CardBlock.{directory_at, root_in}
use Rattle.crash_core.specs.DeviceKeys.{directory_key}
use Rattle.crash_core.specs.Directory.{directory_of}
use Rattle.crash_core.specs.Mounting.{directory_by, mounted_directory, unless_fault}
use Rattle.crash_core.specs.Pictures.{block_zero}
use Rattle.store_commit.specs.Blocks.{picture_of}

-- Its directory is read from the one image of the directory's file.
pub one_directory : (keys : Keys) (images : ℕ → List ℕ) (image : List ℕ) (card : CardState) (root : RootRef) → root_in (block_zero card) ≡ Ok root → root.format ≡ current_format
    → images directory_file ≡ image → mounted_directory keys (record { images = images; card = card }) ≡ mounted_directory keys (picture_of image card)
one_directory keys images image card root names current is =
    ap (directory_by keys images) names
    ∙ ap (λ (format : ℕ). unless_fault (directory_of (directory_key keys) (images (directory_at format)) root)) current
    ∙ ap (λ (i : List ℕ). unless_fault (directory_of (directory_key keys) i root)) is
    ∙ sym (ap (directory_by keys (λ file. image)) names)
