-- What was read of a slot's object is of the version that the slot gives, and of the entry's once the slot is shown the history again.
use Rattle.std.proofs.Common.{◌≡◌, ℕ, Err, IfOk, Ok, Result}
use Rattle.dir_records.specs.declared.entry.DirEntry.{DirEntry}
use Rattle.disk_model.specs.State.{FileState}
use Rattle.history_seats.specs.Records.{Version}
use Rattle.history_seats.specs.Views.{GateView}
use Rattle.serial_calls.specs.Fills.{GivesEntry}
use Rattle.serial_calls.specs.GuardedReads.{GivesVersion}
use Rattle.serial_calls.specs.SlotCatchUp.{StillGives}
use Rattle.serial_calls.specs.ReadAnswers.{ReadsAnswer, ReadsEntry}
use Rattle.serial_calls.proofs.MetAgain.{reads-again}
use Rattle.serial_calls.specs.SlotValues.{SlotValue}
use Rattle.serial_calls.specs.Stores.{Store}
use Rattle.tee_types.specs.declared.reply.Reply.{Reply}
use Rattle.shared_calls.specs.SharedCatchUp.{IsMet}
use Rattle.shared_calls.specs.SharedRead.{HasRead}
use Rattle.shared_calls.proofs.SharedVersions.{gives-moved}

pub has-read-of : {X : Type 0} (store : Store) (old new : SlotValue) (v : Version) (at count : ℕ) → GivesVersion old v → new ≡ record old { file = new.file; holds = new.holds } → (result : Result Reply X)
    → IfOk result (ReadsAnswer store old.file new v at count) → IfOk result (HasRead store new at count)
has-read-of store old new v at count gives same (Ok reply) reads = record { version = v; gives = gives-moved old new v same gives; was = old.file; reads = reads }
has-read-of store old new v at count gives same (Err none) reads = tt

module _ {X : Type 0} (store : Store) (old new : SlotValue) (e : DirEntry) (at count : ℕ) (given : GivesEntry old e) (same : new ≡ record old { file = new.file; holds = new.holds }) where
  pub has-read : (result : Result Reply X) → ((v : Version) → GivesVersion old v → IfOk result (ReadsAnswer store old.file new v at count)) → IfOk result (HasRead store new at count)
  has-read result reads = has-read-of store old new given.version at count given.gives same result (reads given.version given.gives)

-- it is of the entry at which the slot stands now
pub read-entry : (store : Store) (knows : GateView) (old new : SlotValue) (e : DirEntry) (at count : ℕ) (reply : Reply) → HasRead store old at count reply
    → ((v : Version) → GivesVersion old v → StillGives old new v) → IsMet knows new e → (was : FileState) × ReadsEntry store knows was new e at count reply
read-entry store knows old new e at count reply read still met =
    (read.was, reads-again store knows read.was old new e read.version met.version (still read.version read.gives) met.at at count reply read.reads)
