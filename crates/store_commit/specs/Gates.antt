-- What a contract sees of a gate.
use Rattle.std.specs.Prelude.{◌≡◌, ◌+◌, ◌-◌, ◌≤◌, ℕ, List, Option, Some, None}
use Rattle.disk_model.specs.State.{FileState}
use Rattle.rpmb_card.specs.Port.{PortState}
use Rattle.rpmb_host.specs.Calls.{HostState}
use Rattle.open_table.specs.Table.{TableState}
use Rattle.dir_index.specs.Index.{IndexState}
use Rattle.crash_core.specs.EntryChanges.{changed, file_put}
use Rattle.dir_file.specs.View.{DirValue, StagedDirectory}
use Rattle.crash_core.specs.declared.change.DoubtedChange.{DoubtedChange}
use Rattle.store_commit.specs.declared.change.CommitEnd.{CommitEnd}
use Rattle.store_commit.specs.declared.change.CommitEnd.TheVariants.{Made, Dropped, Doubtful, Spent}
use Rattle.crash_core.specs.declared.change.EntryChange.{EntryChange}
use Rattle.store_commit.specs.Changes.{FitsIn}
use Rattle.store_commit.specs.Holds.{AreHolds, EndsHoldOf, IsTaken}
use Rattle.store_commit.specs.NameIndex.{IsIndexOf, names_added}
use Rattle.store_commit.specs.Sides.{IsInDoubt, IsSettled, Sides, sides}

pub record GateValue (F R : Type 0) : Type 0 where
  pub dir : DirValue F
  pub host : HostState R
  pub counter : ℕ
  pub doubt : Option DoubtedChange
  -- the open handles of all sessions
  pub open_handles : TableState
  -- how many names more the index takes without memory, beside the one that the commit in doubt may bring
  pub room : ℕ
  -- by session, the file that it holds
  pub holds : List (Option ℕ)

abbrev pub gate_sides : {F R : Type 0} → (F → FileState) → (R → PortState) → GateValue F R → Sides
gate_sides file port g = sides (file g.dir.file) g.dir.dir (port g.host.port) g.host.key g.counter

-- the doubted commit, whose entries the stage has
pub record IsDoubtOf (g : Sides) (d : DoubtedChange) : Type 0 where
  pub next : StagedDirectory
  pub stands : IsInDoubt g next
  pub entries : next.entries ≡ changed g.dir.entries d.change
  pub fits : FitsIn g.dir.entries d.change
  pub number : d.number ≡ g.counter + 1

-- a commit is in doubt, or none is
abbrev pub DoubtStands : Sides → Option DoubtedChange → Type 0
DoubtStands g None = IsSettled g
DoubtStands g (Some d) = IsDoubtOf g d

-- the file that the commit in doubt puts, if one is and puts one
abbrev pub file_in_doubt : Option DoubtedChange → Option ℕ
file_in_doubt None = None
file_in_doubt (Some d) = file_put d.change

-- how many names the commit in doubt may bring
abbrev pub names_due : IndexState → Option DoubtedChange → ℕ
names_due s None = 0
names_due s (Some d) = names_added s d.change

abbrev pub room_left : IndexState → Option DoubtedChange → ℕ
room_left s doubt = s.spare - names_due s doubt

pub record IsGate (g : Sides) (doubt : Option DoubtedChange) (index : IndexState) (holds : List (Option ℕ)) : Type 0 where
  pub stands : DoubtStands g doubt
  pub names : IsIndexOf index g.dir.entries
  pub due : names_due index doubt ≤ index.spare
  pub held : AreHolds g.dir.entries holds
  -- the file that the commit in doubt puts is an entry's, or held
  pub taken : IsTaken g.dir.entries holds (file_in_doubt doubt)

-- the doubt that a commit leaves
abbrev pub doubt_left : EntryChange → CommitEnd → Option DoubtedChange
doubt_left change (Doubtful n cause) = Some (record { number = n; change = change })
doubt_left change (Made n) = None
doubt_left change (Dropped cause) = None
doubt_left change Spent = None

-- the hold on the file that is put ends where the commit is made
abbrev pub LeavesHolds : EntryChange → CommitEnd → (old new : List (Option ℕ)) → Type 0
LeavesHolds change (Made n) old new = EndsHoldOf change old new
LeavesHolds change (Dropped cause) old new = new ≡ old
LeavesHolds change (Doubtful n cause) old new = new ≡ old
LeavesHolds change Spent old new = new ≡ old
