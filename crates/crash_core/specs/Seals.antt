-- When a commit is sealed: the card's one write names the directory with the changed entry.
use Rattle.std.specs.Prelude.{◌≡◌, ℕ, ◌+◌, true, [], slice_set, Ok}
use Rattle.disk_model.specs.State.{FileState, pending}
use Rattle.node_image.specs.declared.node.RootRef.{RootRef}
use Rattle.node_image.specs.References.{current_format}
use Rattle.tee_types.specs.Limits.{directory_file}
use Rattle.rpmb_card.specs.Card.{CardState}
use Rattle.store_model.specs.Object.{Object}
use Rattle.store_model.specs.Makes.{MapChange, MakesChange}
use Rattle.store_model.specs.Legal.{is_commit_due}
use Rattle.crash_core.specs.Directory.{directory_of}
use Rattle.crash_core.specs.CardBlock.{IsReference, root_block}
use Rattle.crash_core.specs.DeviceKeys.{directory_key}
use Rattle.crash_core.specs.declared.change.EntryChange.{EntryChange}
use Rattle.crash_core.specs.declared.change.EntryChange.TheVariants.{Put, Clear}
use Rattle.crash_core.specs.EntryChanges.{IsChange, changed}
use Rattle.crash_core.specs.Sights.{Shows}
use Rattle.crash_core.specs.CoreState.{Core, IsTrusted, PendingCommit, Phase, replay_state}

-- The card after a write of its block 0, whole, which raises the counter by one.
abbrev pub sealed_card : CardState → RootRef → CardState
sealed_card card dir = record card { counter = card.counter + 1; blocks = slice_set card.blocks 0 (root_block dir) }

-- The object that a Put names stands in its file, in every image.
abbrev pub PutShows : Phase → (files : ℕ → FileState) → EntryChange → Object → Type 0
PutShows phase files (Put index e) object = IsTrusted phase e.file → Shows phase.keys (files e.file) e object
PutShows phase files (Clear index) object = Unit {0}

-- A pending commit may be sealed with the directory under that reference.
pub record IsSeal {Root : Type 0} (phase : Phase) (c : Core Root) (p : PendingCommit) (dir : RootRef) : Type 0 where
  pub form : IsReference dir
  pub current : dir.format ≡ current_format
  -- the directory is settled, and under the new reference holds the committed entries with the one change
  pub settled : IsTrusted phase directory_file → pending (c.files directory_file) ≡ []
  pub holds : IsTrusted phase directory_file → directory_of (directory_key phase.keys) (c.files directory_file).reads dir ≡ Ok (changed c.entries p.change)
  -- the machine commits the pending call, and the change is the one that this makes
  pub due : is_commit_due (replay_state phase c) p.session p.call ≡ true
  pub made : MapChange
  pub makes : MakesChange (replay_state phase c).state p.session p.call made
  pub object : Object
  pub change : IsChange ((replay_state phase c).state).objects c.entries c.card.counter made p.change object
  pub shows : PutShows phase c.files p.change object
