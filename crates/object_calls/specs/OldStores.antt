-- Stores that have files of the old format.
use Rattle.std.specs.Prelude.{◌≡◌, ◌⊎◌, ℕ, None, Some}
use Rattle.disk_model.specs.State.{FileState}
use Rattle.htree_file.specs.Standing.{Told}
use Rattle.node_image.specs.References.{current_format}
use Rattle.hmac_keys.specs.declared.Keys.{Keys}
use Rattle.hmac_keys.specs.KeyTable.{rpmb_key}
use Rattle.tee_types.specs.Limits.{old_directory_file}
use Rattle.rpmb_card.specs.Card.{CardState}
use Rattle.rpmb_card.specs.Port.{PortState}
use Rattle.rpmb_host.specs.Honest.{HasCard}
use Rattle.crash_core.specs.CardBlock.{old_format}
use Rattle.crash_core.specs.OldFormats.{first_old, old_file}
use Rattle.crash_core.specs.Pictures.{IsPictureOf, Picture, block_zero}
use Rattle.store_commit.specs.declared.fault.MountFault.{MountFault}
use Rattle.store_commit.specs.declared.fault.MountFault.TheVariants.{OldFormat}
use Rattle.store_commit.specs.Blocks.{HasOldRoot, picture_of}
use Rattle.store_commit.specs.Mounts.{HasFormatRead, MountHeard, MountRefused, OpensGate}
use Rattle.store_commit.specs.Sides.{Sides}

-- block 0 names the old directory's file
abbrev pub NamesOldDirectory : PortState → Keys → (file : ℕ) → Type 0
NamesOldDirectory p0 keys file = (file ≡ old_directory_file) × ((card : CardState) → HasCard p0 (rpmb_key keys.huk) card → HasOldRoot (block_zero card))

-- where the directory's file can be followed, that is the file of the old format that comes first: the directory's, or an entry's
abbrev pub HasOldFile : (old new : FileState) → PortState → Keys → (file : ℕ) → Type 0
HasOldFile old new p0 keys file =
    (card : CardState) → HasCard p0 (rpmb_key keys.huk) card → Told old new → old_file keys (picture_of new.reads card) ≡ Some file

-- Block 0 names no directory of the old format, and that file is the one of an entry.
pub record NamesOldEntry (old new : FileState) (p0 : PortState) (keys : Keys) (file : ℕ) : Type 0 where
  pub current : (card : CardState) → HasCard p0 (rpmb_key keys.huk) card → HasOldRoot (block_zero card) → ⊥
  pub found : HasOldFile old new p0 keys file

-- Why the gate of a store is not mounted that may have files of the old format.
abbrev pub GateRefused : (old new : FileState) → (p0 p1 : PortState) → Keys → (drew draws : ℕ) → MountFault → Type 0
GateRefused old new p0 p1 keys drew draws (OldFormat file) = NamesOldDirectory p0 keys file ⊎ NamesOldEntry old new p0 keys file
GateRefused old new p0 p1 keys drew draws fault = MountRefused old new p0 p1 keys drew draws fault

-- A gate was mounted there whose directory's file is of the current format, and of its entries the first that names a file of the old format
-- names this one.
pub record HearsOldEntry (old new : FileState) (p0 p1 : PortState) (keys : Keys) (file : ℕ) : Type 0 where
  pub gate : Sides
  pub opens : OpensGate old p0 keys gate
  pub left : (gate.file ≡ new) × (gate.port ≡ p1)
  pub current : gate.dir.root.format ≡ current_format
  pub first : first_old gate.dir.entries ≡ Some file

-- What was heard where that gate is not mounted, whatever the card and the file are.
abbrev pub GateHeard : (old new : FileState) → (p0 p1 : PortState) → Keys → MountFault → Type 0
GateHeard old new p0 p1 keys (OldFormat file) =
    ((file ≡ old_directory_file) × HasFormatRead (rpmb_key keys.huk) p0 p1 old_format) ⊎ HearsOldEntry old new p0 p1 keys file
GateHeard old new p0 p1 keys fault = MountHeard new p0 p1 keys fault

-- No picture that a crash may leave of the files and the card has a file of the old format.
abbrev pub HasNoOldFile : Keys → (files : ℕ → FileState) → PortState → Type 0
HasNoOldFile keys files port =
    (card : CardState) (picture : Picture) → HasCard port (rpmb_key keys.huk) card → IsPictureOf files card picture → old_file keys picture ≡ None
