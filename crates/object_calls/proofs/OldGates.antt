-- What a mount finds of the old format.
use Rattle.std.proofs.Common.{◌≡◌, ◌≢◌, ◌∙◌, ◌+◌, ℕ, List, Option, Some, None, Result, Ok, sym, ap, inl, inr, arith}
use Rattle.std.proofs.lemmas.Bool.{cases_eq}
use Rattle.disk_model.specs.State.{FileState}
use Rattle.node_image.specs.References.{current_format}
use Rattle.node_image.specs.declared.node.RootRef.{RootRef}
use Rattle.hmac_keys.specs.declared.Keys.{Keys}
use Rattle.hmac_keys.specs.KeyTable.{rpmb_key}
use Rattle.dir_records.specs.declared.entry.DirEntry.{DirEntry}
use Rattle.rpmb_card.specs.Card.{CardState}
use Rattle.rpmb_card.specs.Port.{PortState}
use Rattle.rpmb_host.specs.Honest.{HasCard}
use Rattle.crash_core.specs.CardBlock.{old_format, root_in}
use Rattle.crash_core.specs.EntryLists.{AreCurrent, entry_at}
use Rattle.crash_core.specs.OldFormats.{first_old}
use Rattle.crash_core.specs.Pictures.{block_zero}
use Rattle.crash_core.specs.Refusal.{Refusal}
use Rattle.crash_core.proofs.OldFormats.{NoneOldBelow, none_old_current, old_by_entries, old_directory}
use Rattle.store_commit.specs.declared.fault.MountFault.{MountFault}
use Rattle.store_commit.specs.declared.fault.MountFault.TheVariants.{NoStore, CardBlock, Directory, Frame, CardResult, Failed, Spent, NoMemory, OldFormat}
use Rattle.store_commit.specs.Blocks.{picture_of}
use Rattle.store_commit.specs.Mounts.{MountHeard, MountRefused, OpensGate}
use Rattle.store_commit.specs.Sides.{Sides}
use Rattle.store_commit.proofs.Cards.{has_still}
use Rattle.object_calls.specs.OldStores.{GateHeard, GateRefused, HasOldFile, NamesOldEntry}
use Rattle.object_calls.proofs.EntriesOf.{form_at}

one_root : (a b : RootRef) (r : Result RootRef Refusal) → r ≡ Ok a → r ≡ Ok b → a ≡ b
one_root a b r first second = cc

-- one entry more is of the current format
pub below_next : (entries : List (Option DirEntry)) (i : ℕ) → NoneOldBelow entries i → ((e : DirEntry) → entry_at entries i ≡ Some e → e.format ≢ old_format) → NoneOldBelow entries (i + 1)
below_next entries i below here = λ k e lt at. elim (cases_eq k i) [
  | inl same ↦ here e (ap (entry_at entries) (sym same) ∙ at)
  | inr other ↦ below k e (omega (arith, lt, other)) at
]

-- a gate that is refused, whose directory has to be of the current format
module _ (old new : FileState) (p0 p1 : PortState) (keys : Keys) (drew draws : ℕ) where
  -- either way it is the first file of the old format, where the directory's can be followed
  pub old_file_found : (file : ℕ) → GateRefused old new p0 p1 keys drew draws (OldFormat file) → HasOldFile old new p0 keys file
  old_file_found file (inl is) card has told =
      let here = is.1 card has in
      old_directory keys (picture_of new.reads card) here.root here.names here.old ∙ ap (λ (n : ℕ). Some n) (sym is.0)
  old_file_found file (inr is) card has told = is.found card has told

  pub gate_not_current : (fault : MountFault) → MountRefused old new p0 p1 keys drew draws fault → GateRefused old new p0 p1 keys drew draws fault
  gate_not_current NoStore is = is
  gate_not_current (CardBlock byte) is = is
  gate_not_current (Directory d) is = is
  gate_not_current (Frame f) is = is
  gate_not_current (CardResult n) is = is
  gate_not_current (Failed cause) is = is
  gate_not_current Spent is = is
  gate_not_current NoMemory is = is
  gate_not_current (OldFormat file) is = inl is

  pub heard_not_current : (fault : MountFault) → MountHeard new p0 p1 keys fault → GateHeard old new p0 p1 keys fault
  heard_not_current NoStore is = is
  heard_not_current (CardBlock byte) is = is
  heard_not_current (Directory d) is = is
  heard_not_current (Frame f) is = is
  heard_not_current (CardResult n) is = is
  heard_not_current (Failed cause) is = is
  heard_not_current Spent is = is
  heard_not_current NoMemory is = is
  heard_not_current (OldFormat file) is = inl is

-- a gate that is mounted, whose directory is of the current format
module _ (old : FileState) (p0 : PortState) (keys : Keys) (g : Sides) (opens : OpensGate old p0 keys g) (current : g.dir.root.format ≡ current_format) where
  not_old : g.dir.root.format ≢ old_format
  not_old is = omega (arith, is, current)

  named : (card : CardState) → HasCard p0 (rpmb_key keys.huk) card → root_in (block_zero card) ≡ Ok g.dir.root
  named card has = (opens.settled.named card (has_still p0 g.port (rpmb_key keys.huk) g.key card opens.devices.card opens.key_is has)).block

  pub entries_old : (file : ℕ) → first_old g.dir.entries ≡ Some file → NamesOldEntry old g.file p0 keys file
  entries_old file found = record {
    current = λ card has is. not_old (ap (λ (r : RootRef). r.format) (one_root g.dir.root is.root (root_in (block_zero card)) (named card has) is.names) ∙ is.old);
    found = λ card has told.
        old_by_entries keys (picture_of g.file.reads card) g.dir.root (named card has) g.dir.entries (opens.directory told card has) not_old ∙ found;
  }

  pub entries_current : first_old g.dir.entries ≡ None → AreCurrent g.dir.entries
  entries_current none = none_old_current g.dir.entries (λ index e at. form_at g.dir.entries opens.settled.entries index e at) none
