-- Where a generator never fails, what is told is no failed draw.
use Rattle.std.proofs.Common.{◌≡◌, ℕ, inl, inr, sym, subst}
use Rattle.disk_model.specs.State.{FileState}
use Rattle.tee_types.specs.declared.reply.Cause.TheVariants.{Fault, Frame as FrameCause, CardResult as ResultCause}
use Rattle.tee_types.specs.declared.reply.Device.TheVariants.{Dir, File, Card, Entropy}
use Rattle.store_commit.specs.Counts.{RefusalNotDrawn}
use Rattle.store_commit.specs.declared.fault.MountFault.{MountFault}
use Rattle.store_commit.specs.declared.fault.MountFault.TheVariants.{NoStore, CardBlock, Directory, Frame, CardResult, Failed, Spent, NoMemory, OldFormat}
use Rattle.run_acts.specs.Benches.{BenchState, TellsFault}
use Rattle.run_acts.specs.ListedBenches.{ShowCounts}

pub memory_not_drawn : (fault : MountFault) → fault ≡ NoMemory → RefusalNotDrawn fault
memory_not_drawn fault is = subst RefusalNotDrawn (sym is) tt

pub told_not_drawn : (old new : BenchState) (answered told : MountFault) → TellsFault old new answered told → RefusalNotDrawn answered → RefusalNotDrawn told
told_not_drawn old new answered told (inl same) not = subst RefusalNotDrawn (sym same.0) not
told_not_drawn old new answered told (inr gone) not = memory_not_drawn told gone.0

-- a fault that a file's count tells is none
pub shown_not_drawn : (old new : ℕ → FileState) (fault : MountFault) → ShowCounts old new fault → RefusalNotDrawn fault
shown_not_drawn old new (Failed (Fault (File n) count)) counts = tt
shown_not_drawn old new (Failed (Fault Dir count)) counts = absurd counts
shown_not_drawn old new (Failed (Fault Card count)) counts = absurd counts
shown_not_drawn old new (Failed (Fault Entropy count)) counts = absurd counts
shown_not_drawn old new (Failed (FrameCause fault)) counts = absurd counts
shown_not_drawn old new (Failed (ResultCause value)) counts = absurd counts
shown_not_drawn old new NoMemory counts = tt
shown_not_drawn old new NoStore counts = tt
shown_not_drawn old new (CardBlock byte) counts = tt
shown_not_drawn old new (Directory fault) counts = tt
shown_not_drawn old new (Frame fault) counts = tt
shown_not_drawn old new (CardResult value) counts = tt
shown_not_drawn old new Spent counts = tt
shown_not_drawn old new (OldFormat file) counts = tt
