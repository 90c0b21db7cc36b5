-- What a commit leaves, by its end.
use Rattle.std.specs.Prelude.{◌≡◌, ◌⊎◌, ℕ, ◌+◌, List, Ok, IsTrue}
use Rattle.disk_model.specs.State.{LeftSince, moment}
use Rattle.disk_model.specs.Keeps.{Keeps}
use Rattle.htree_file.specs.Selected.{Lies}
use Rattle.crash_core.specs.Directory.{directory_of}
use Rattle.dir_file.specs.View.{StagedDirectory}
use Rattle.crash_core.specs.declared.change.EntryChange.{EntryChange}
use Rattle.crash_core.specs.EntryChanges.{changed}
use Rattle.store_commit.specs.declared.change.CommitEnd.{CommitEnd}
use Rattle.store_commit.specs.declared.change.CommitEnd.TheVariants.{Made, Dropped, Doubtful, Spent}
use Rattle.store_commit.specs.Sides.{EachPicture, IsInDoubt, IsSettled, Sides}

-- the commit was made: its number, and the entries with the change
pub record IsMade (old new : Sides) (change : EntryChange) (n : ℕ) : Type 0 where
  pub number : n ≡ old.counter + 1
  pub counted : new.counter ≡ n
  pub entries : new.dir.entries ≡ changed old.dir.entries change
  pub tsk : new.dir.tsk ≡ old.dir.tsk
  pub format : new.dir.root.format ≡ old.dir.root.format
  pub settled : IsSettled new
  pub pictures : EachPicture new (λ m. m ≡ Ok (changed old.dir.entries change))

-- nothing was committed
pub record IsDropped (old new : Sides) : Type 0 where
  pub counted : new.counter ≡ old.counter
  pub same : new.dir ≡ old.dir
  pub settled : IsSettled new
  pub pictures : EachPicture new (λ m. m ≡ Ok old.dir.entries)

-- the commit is in doubt
pub record IsDoubted (old new : Sides) (change : EntryChange) (n : ℕ) : Type 0 where
  pub number : n ≡ old.counter + 1
  pub counted : new.counter ≡ old.counter
  pub same : new.dir ≡ record old.dir { stage = new.dir.stage }
  pub next : StagedDirectory
  pub entries : next.entries ≡ changed old.dir.entries change
  pub doubt : IsInDoubt new next
  pub pictures : EachPicture new (λ m. (m ≡ Ok old.dir.entries) ⊎ (m ≡ Ok (changed old.dir.entries change)))

-- nothing was done: the counter is at its end
pub record IsSpent (old new : Sides) : Type 0 where
  pub same : new ≡ old
  pub settled : IsSettled new
  pub pictures : EachPicture new (λ m. m ≡ Ok old.dir.entries)

abbrev pub Leaves : (old new : Sides) → EntryChange → CommitEnd → Type 0
Leaves old new change (Made n) = IsMade old new change n
Leaves old new change (Dropped cause) = IsDropped old new
Leaves old new change (Doubtful n cause) = IsDoubted old new change n
Leaves old new change Spent = IsSpent old new

-- At every moment of the commit the old reference opens to the old entries, in every image.
pub record Throughout (old new : Sides) : Type 0 where
  pub keeps : Keeps (Lies old.dir.tree.layout old.dir.tree.nodes old.dir.root.version) old.file new.file
  pub key : new.key ≡ old.key
  pub always : IsTrue new.file.honest → (image : List ℕ) → LeftSince new.file (moment old.file) image → directory_of old.dir.tsk image old.dir.root ≡ Ok old.dir.entries
