-- What is known of a slot's object is of the version that the slot gives, and of the entry's once the slot is shown the history again.
use Rattle.std.proofs.Common.{◌≡◌, ◌∙◌, Err, IfOk, Ok, Result, sym}
use Rattle.dir_records.specs.declared.entry.DirEntry.{DirEntry}
use Rattle.disk_model.specs.State.{FileState}
use Rattle.history_seats.specs.Records.{Version}
use Rattle.history_seats.specs.Views.{GateView}
use Rattle.serial_calls.specs.Fills.{GivesEntry}
use Rattle.serial_calls.specs.GuardedReads.{GivesVersion}
use Rattle.serial_calls.specs.InfoAnswers.{DescribesEntry, DescribesObject, SaysIfTold}
use Rattle.serial_calls.specs.SlotCatchUp.{StillGives}
use Rattle.serial_calls.proofs.MetAgain.{describes-again}
use Rattle.serial_calls.specs.SlotValues.{SlotValue}
use Rattle.store_model.specs.declared.session.Handle.{Handle}
use Rattle.serial_calls.specs.Stores.{Store}
use Rattle.tee_types.specs.declared.reply.Reply.{Reply}
use Rattle.tee_types.specs.declared.reply.Reply.TheVariants.{Corrupt, Info, NotAvailable}
use Rattle.shared_calls.specs.SharedInfo.{HasDescribed}
use Rattle.shared_calls.specs.SharedCatchUp.{IsMet}
use Rattle.shared_calls.proofs.SharedVersions.{gives-moved}

pub described-of : {X : Type 0} (store : Store) (slot : SlotValue) (v : Version) (handle : Handle) → GivesVersion slot v → (result : Result Reply X)
    → IfOk result (DescribesObject store slot.file slot v handle) → IfOk result (HasDescribed store slot handle)
described-of store slot v handle gives (Ok reply) describes = record { version = v; gives = gives; was = slot.file; describes = describes }
described-of store slot v handle gives (Err none) describes = tt

module _ {X : Type 0} (store : Store) (old new : SlotValue) (e : DirEntry) (handle : Handle) (given : GivesEntry old e) (same : new ≡ record old { file = new.file; holds = new.holds }) where
  pub has-described : (result : Result Reply X) → ((v : Version) → GivesVersion old v → IfOk result (DescribesObject store old.file new v handle)) → IfOk result (HasDescribed store new handle)
  has-described (Ok reply) describes =
      record { version = given.version; gives = gives-moved old new given.version same given.gives; was = old.file; describes = describes given.version given.gives }
  has-described (Err none) describes = tt

-- position and flags are all that is told of a handle
module _ (handle other : Handle) (position : other.position ≡ handle.position) (flags : other.flags ≡ handle.flags) where
  says-alike : (size : _) (reply : Reply) → SaysIfTold size handle reply → SaysIfTold size other reply
  says-alike size Corrupt says = tt
  says-alike size (NotAvailable cause) says = tt
  says-alike size (Info long at bits told) says = (says.0, says.1 ∙ sym position, says.2 ∙ sym flags)
  says-alike size reply says = absurd says

  pub described-alike : (store : Store) (slot : SlotValue) (reply : Reply) → HasDescribed store slot handle reply → HasDescribed store slot other reply
  described-alike store slot reply d = record {
    version = d.version;
    gives = d.gives;
    was = d.was;
    describes = record { answers = d.describes.answers; says = says-alike d.version.size reply d.describes.says; cause = d.describes.cause };
  }

-- it is of the entry at which the slot stands now
pub described-entry : (store : Store) (knows : GateView) (old new : SlotValue) (e : DirEntry) (handle : Handle) (reply : Reply) → HasDescribed store old handle reply
    → ((v : Version) → GivesVersion old v → StillGives old new v) → IsMet knows new e → (was : FileState) × DescribesEntry store knows was new e handle reply
described-entry store knows old new e handle reply d still met =
    (d.was, describes-again store knows d.was old new e d.version met.version (still d.version d.gives) met.at handle reply d.describes)
