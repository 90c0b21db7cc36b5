-- What a mount or a format that ends says of the counts of devices.
use Rattle.std.specs.Prelude.{◌≡◌, ◌≤◌, ℕ}
use Rattle.disk_model.specs.Faults.{Rose}
use Rattle.htree_file.specs.Answers.{FileFailed, FilePassed}
use Rattle.tee_types.specs.declared.reply.Cause.{Cause}
use Rattle.tee_types.specs.declared.reply.Cause.TheVariants.{Fault, Frame, CardResult}
use Rattle.tee_types.specs.declared.reply.Device.{Device}
use Rattle.tee_types.specs.declared.reply.Device.TheVariants.{Dir, File, Card, Entropy}
use Rattle.store_commit.specs.declared.change.CommitEnd.{CommitEnd}
use Rattle.store_commit.specs.declared.change.CommitEnd.TheVariants.{Made, Dropped, Doubtful, Spent}
use Rattle.store_commit.specs.declared.fault.MountFault.{MountFault}
use Rattle.store_commit.specs.declared.fault.MountFault.TheVariants.{Failed}
use Rattle.store_commit.specs.Causes.{Counted, NotDrawn, NotOfCard}

-- no count rose
pub record NoneRose (old new : Counted) : Type 0 where
  pub file : FilePassed old.file new.file
  pub card : new.port.faults ≡ old.port.faults
  pub draws : new.draws ≡ old.draws

-- the count of that device rose, and is carried; no other did
abbrev pub RoseAlone : (old new : Counted) → Device → (count : ℕ) → Type 0
RoseAlone old new Dir count = FileFailed old.file new.file count × (new.port.faults ≡ old.port.faults) × (new.draws ≡ old.draws)
RoseAlone old new (File n) count = ⊥
RoseAlone old new Card count = Rose old.port.faults new.port.faults × (count ≡ new.port.faults) × FilePassed old.file new.file × (new.draws ≡ old.draws)
RoseAlone old new Entropy count = Rose old.draws new.draws × (count ≡ new.draws) × FilePassed old.file new.file × (new.port.faults ≡ old.port.faults)

-- a refusal that carries a count
abbrev pub CauseCounts : (old new : Counted) → Cause → Type 0
CauseCounts old new (Fault device count) = RoseAlone old new device count
CauseCounts old new (Frame fault) = NoneRose old new
CauseCounts old new (CardResult result) = NoneRose old new

-- a refusal of a mount or a format: where it carries no count, none rose
abbrev pub RefusalCounts : (old new : Counted) → MountFault → Type 0
RefusalCounts old new (Failed cause) = CauseCounts old new cause
RefusalCounts old new fault = NoneRose old new

-- no count but the card's may have risen
pub record OnlyCardRose (old new : Counted) : Type 0 where
  pub file : FilePassed old.file new.file
  pub card : old.port.faults ≤ new.port.faults
  pub draws : new.draws ≡ old.draws

-- The counts at a commit's end. Where it was made, the write may have failed and the counter told so; where it is in doubt by a frame, the
-- write may have failed, too.
abbrev pub DoubtCounts : (old new : Counted) → Cause → Type 0
DoubtCounts old new (Fault device count) = RoseAlone old new device count
DoubtCounts old new (Frame fault) = OnlyCardRose old new
DoubtCounts old new (CardResult result) = OnlyCardRose old new

abbrev pub EndCounts : (old new : Counted) → CommitEnd → Type 0
EndCounts old new (Made n) = OnlyCardRose old new
EndCounts old new (Dropped cause) = CauseCounts old new cause
EndCounts old new (Doubtful n cause) = DoubtCounts old new cause
EndCounts old new Spent = NoneRose old new

-- a refusal that is no failed draw, and one that is no failure of the card
abbrev pub RefusalNotDrawn : MountFault → Type 0
RefusalNotDrawn (Failed cause) = NotDrawn cause
RefusalNotDrawn fault = Unit {0}

abbrev pub RefusalNotOfCard : MountFault → Type 0
RefusalNotOfCard (Failed cause) = NotOfCard cause
RefusalNotOfCard fault = Unit {0}
