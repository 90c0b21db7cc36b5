-- What a file gave, where it tells its bytes and its arms: what was committed, with some of the masks over it that are armed on the file.
use Rattle.std.specs.Prelude.{◌≡◌, ◌≢◌, ℕ, List, Contains, Bool, true, ◌&&◌, Option, Some, None, Ok, if◌then◌else◌}
use Rattle.disk_model.specs.Arms.{Taint}
use Rattle.disk_model.specs.Images.{Has}
use Rattle.disk_model.specs.State.{FileState}
use Rattle.disk_model.specs.Masks.{ReadsMasked, with_masks}
use Rattle.hmac_keys.specs.declared.Keys.{Keys}
use Rattle.node_image.specs.Parts.{In}
use Rattle.node_image.specs.Parts.Part.{block}
use Rattle.node_image.specs.Tables.{block_version}
use Rattle.htree_file.specs.Opening.{Loaded, table_of}
use Rattle.htree_file.specs.Selected.{Lies}
use Rattle.htree_file.specs.Pages.{block_in}
use Rattle.history_seats.specs.Records.{Version}
use Rattle.core_laws.specs.Decodings.{wrap_of}
use Rattle.core_laws.specs.Given.{Gave}
use Rattle.core_laws.specs.SlotParts.{IsShownIn}

-- the masks that are armed on a file, where it tells its bytes and its arms
abbrev pub told_taints : FileState → Option (List Taint)
told_taints s = if s.tells && s.tells_arms then Some s.arms.taints else None

-- Bytes that show the version, with some of these masks over them, are what an image has at these places; and this holds of the image.
pub record ShowsMasked (keys : Keys) (taints : List Taint) (v : Version) (Kept : ℕ → Type 0) (Shown : List ℕ → Type 0) : Type 0 where
  pub committed : List ℕ
  pub shows : IsShownIn keys committed v
  pub masks : List Taint
  pub armed : (taint : Taint) → Contains masks taint → Contains taints taint
  pub image : List ℕ
  pub are : (place byte : ℕ) → Kept place → Has (with_masks masks committed) place byte → Has image place byte
  pub shown : Shown image

-- in the image the version's reference names that tree
abbrev pub HasTable : Version → Loaded → List ℕ → Type 0
HasTable v tree image = table_of image v.root ≡ Ok tree

-- Another tree than that one is shown so, where the parts of both lie.
pub record ShowsOther (keys : Keys) (taints : List Taint) (v : Version) (tree : Loaded) : Type 0 where
  pub other : Loaded
  pub differs : other ≢ tree
  pub shown : ShowsMasked keys taints v (λ place. Lies other.layout other.nodes v.root.version place × Lies tree.layout tree.nodes v.root.version place) (HasTable v other)

-- An image shows the version, which loads that tree; and no other is shown with these masks.
pub record HasOneTree (keys : Keys) (taints : List Taint) (v : Version) (tree : Loaded) : Type 0 where
  pub image : List ℕ
  pub shows : IsShownIn keys image v
  pub loads : v.loads ≡ Ok tree
  pub single : ShowsOther keys taints v tree → ⊥

-- What was given is no other tree than the version's, and each ciphertext that was asked is shown so, where its block lies in both.
pub record AreMasked (keys : Keys) (taints : List Taint) (v : Version) (own : Loaded) (asked : ℕ → Bool) (given : Loaded) (ciphertext : ℕ → List ℕ) : Type 0 where
  pub same : (given ≢ own) → ⊥
  pub blocks : (k : ℕ) → asked k ≡ true
      → ShowsMasked keys taints v (λ place. In given.layout (block k (block_version given.nodes k)) place × Lies own.layout own.nodes v.root.version place)
      (λ image. ciphertext k ≡ block_in image given k)

-- Where a file tells which masks are armed on it, and the version has one tree with these, they are.
abbrev pub IsMaskedOf : Keys → (told : Option (List Taint)) → Version → (asked : ℕ → Bool) → Loaded → (ciphertext : ℕ → List ℕ) → Type 0
IsMaskedOf keys told v asked given ciphertext =
    (taints : List Taint) (own : Loaded) → told ≡ Some taints → HasOneTree keys taints v own → AreMasked keys taints v own asked given ciphertext

-- What a file gave of a version's blocks, which are so.
pub record GaveVersion (keys : Keys) (told : Option (List Taint)) (v : Version) (asked : ℕ → Bool) : Type 0 where
  pub gave : Gave (wrap_of keys v) v.root v.size asked
  pub masked : IsMaskedOf keys told v asked gave.tree gave.block

-- Bytes that show the version, with some of the file's masks over them, are what it reads as where the version's tree lies.
pub record MaskedAt (keys : Keys) (file : FileState) (v : Version) (tree : Loaded) : Type 0 where
  pub committed : List ℕ
  pub shows : IsShownIn keys committed v
  pub reads : ReadsMasked (Lies tree.layout tree.nodes v.root.version) file.arms committed file.reads

-- So the version stands in a file that tells these, while it has one tree with its masks.
abbrev pub StandsMasked : Keys → FileState → Version → Type 0
StandsMasked keys file v = (taints : List Taint) (tree : Loaded) → told_taints file ≡ Some taints → HasOneTree keys taints v tree → MaskedAt keys file v tree
