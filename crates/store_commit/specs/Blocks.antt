-- What block 0 of the card names, as a mount answers it.
use Rattle.std.specs.Prelude.{◌≡◌, ◌⊎◌, ℕ, List, Result, Ok, Err}
use Rattle.node_image.specs.declared.node.RootRef.{RootRef}
use Rattle.rpmb_card.specs.Card.{CardState}
use Rattle.tee_types.specs.Limits.{old_directory_file}
use Rattle.crash_core.specs.CardBlock.{old_format, root_in}
use Rattle.crash_core.specs.Refusal.{Refusal, NoStore as BlankBlock, CardBlock as BadBlock, NoDirectory}
use Rattle.crash_core.specs.Pictures.{Picture}
use Rattle.store_commit.specs.declared.fault.MountFault.{MountFault}
use Rattle.store_commit.specs.declared.fault.MountFault.TheVariants.{NoStore, CardBlock, Directory, OldFormat}

-- the fault of a mount that a refusal is
abbrev pub fault_of : Refusal → MountFault
fault_of BlankBlock = NoStore
fault_of (BadBlock offset) = CardBlock offset
fault_of (NoDirectory fault) = Directory fault

abbrev pub block_answer : Result RootRef Refusal → Result RootRef MountFault
block_answer (Ok root) = Ok root
block_answer (Err refusal) = Err (fault_of refusal)

-- the block names a directory in a file of the old format
pub record HasOldRoot (block : List ℕ) : Type 0 where
  pub root : RootRef
  pub names : root_in block ≡ Ok root
  pub old : root.format ≡ old_format

-- why a block names no directory of the current format
abbrev pub IsRootRefused : List ℕ → MountFault → Type 0
IsRootRefused block fault = (Err fault ≡ block_answer (root_in block)) ⊎ ((fault ≡ OldFormat old_directory_file) × HasOldRoot block)

-- the picture of that image of the directory's file, and of that card
abbrev pub picture_of : (image : List ℕ) → CardState → Picture
picture_of image card = record { images = λ file. image; card = card }
