-- What a gate holds: the directory in its file, the card behind its port, and the counter of the card.
use Rattle.std.specs.Prelude.{◌≡◌, ◌⊎◌, ℕ, ◌+◌, List, Option, Some, None, Result, Ok, IsTrue}
use Rattle.disk_model.specs.State.{FileState, LeftNow}
use Rattle.node_image.specs.declared.node.RootRef.{RootRef}
use Rattle.hmac_keys.specs.declared.Keys.{Keys}
use Rattle.dir_records.specs.declared.entry.DirEntry.{DirEntry}
use Rattle.rpmb_card.specs.Card.{CardState}
use Rattle.rpmb_card.specs.Port.{PortState}
use Rattle.rpmb_host.specs.Honest.{HasCard}
use Rattle.crash_core.specs.Refusal.{Refusal}
use Rattle.crash_core.specs.CardBlock.{IsReference, directory_at, root_in}
use Rattle.crash_core.specs.DeviceKeys.{directory_key}
use Rattle.crash_core.specs.Pictures.{Picture, SameCard, block_zero}
use Rattle.crash_core.specs.Mounting.{mounted_directory}
use Rattle.dir_file.specs.View.{DirView, StagedDirectory}
use Rattle.dir_file.specs.EntryForms.{AreEntriesOf}
use Rattle.dir_file.specs.Held.{IsDurable}

pub record Sides : Type 0 where
  pub file : FileState
  pub dir : DirView
  pub port : PortState
  -- the key of the card, as the host has it
  pub key : List ℕ
  pub counter : ℕ

abbrev pub sides : FileState → DirView → PortState → List ℕ → ℕ → Sides
sides file dir port key counter = record { file = file; dir = dir; port = port; key = key; counter = counter }

-- the card's block 0 names the root, and its counter is this
pub record Names (card : CardState) (root : RootRef) (counter : ℕ) : Type 0 where
  pub block : root_in (block_zero card) ≡ Ok root
  pub counted : card.counter ≡ counter

-- Without a doubt: the card names the committed directory, which stands in every image.
pub record IsSettled (g : Sides) : Type 0 where
  pub form : IsReference g.dir.root
  pub entries : AreEntriesOf g.dir.entries
  pub idle : g.dir.stage ≡ None
  pub held : IsTrue g.file.honest → IsDurable g.file g.dir.tsk g.dir.root g.dir.tree g.dir.entries
  pub named : (card : CardState) → HasCard g.port g.key card → Names card g.dir.root g.counter

-- With a doubt: the card names the committed directory or the staged one, and both stand in every image.
pub record IsInDoubt (g : Sides) (next : StagedDirectory) : Type 0 where
  pub form : IsReference g.dir.root
  pub next_form : IsReference next.root
  pub same_format : next.root.format ≡ g.dir.root.format
  pub entries : AreEntriesOf g.dir.entries
  pub next_entries : AreEntriesOf next.entries
  pub is_open : g.dir.stage ≡ Some next
  pub settled : IsTrue next.settled
  pub held : IsTrue g.file.honest → IsDurable g.file g.dir.tsk g.dir.root g.dir.tree g.dir.entries
  pub next_held : IsTrue g.file.honest → IsDurable g.file g.dir.tsk next.root next.tree next.entries
  pub named : (card : CardState) → HasCard g.port g.key card → Names card g.dir.root g.counter ⊎ Names card next.root (g.counter + 1)

-- A picture of the directory's file and of the card, which may differ from the present one in the register alone.
pub record IsGatePicture (g : Sides) (picture : Picture) : Type 0 where
  pub left : LeftNow g.file (picture.images (directory_at g.dir.root.format))
  pub card : CardState
  pub has : HasCard g.port g.key card
  pub same : SameCard picture.card card

-- Each picture mounts so, under keys of which the directory's is one; asked where the directory's file is honest.
abbrev pub EachPicture : Sides → (Result (List (Option DirEntry)) Refusal → Type 0) → Type 0
EachPicture g Mounts = IsTrue g.file.honest → (keys : Keys) (picture : Picture) → directory_key keys ≡ g.dir.tsk → IsGatePicture g picture
    → Mounts (mounted_directory keys picture)
