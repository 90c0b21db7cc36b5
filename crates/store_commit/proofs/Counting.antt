-- The counts that refusals carry.
use Rattle.std.proofs.Common.{◌≡◌, ◌∙◌, ℕ, List, Result, Ok, Err, false, refl, sym, subst, inl, inr}
use Rattle.disk_model.specs.Faults.{Rose}
use Rattle.disk_model.specs.State.{FileState}
use Rattle.node_image.specs.declared.node.RootRef.{RootRef}
use Rattle.htree_file.specs.declared.fault.TreeFault.{TreeFault}
use Rattle.htree_file.specs.declared.fault.TreeFault.TheVariants.{BadHead, BadTag, Damaged, Failed as FileFault, NoEntropy, NoMemory as NoRoom, Short}
use Rattle.htree_file.specs.Answers.{FaultCause, FileFailed, FilePassed}
use Rattle.htree_file.specs.Making.{DrawFault, IsMakeFault, NotEntropy}
use Rattle.rpmb_card.specs.Port.{PortState}
use Rattle.rpmb_host.specs.declared.fault.HostFault.{HostFault}
use Rattle.rpmb_host.specs.declared.fault.HostFault.TheVariants.{Failed as NoAnswer, BadFrame, CardResult as RefusedBy, Spent as IsSpent}
use Rattle.rpmb_host.specs.Calls.{FaultCounts, is_failure}
use Rattle.crash_core.specs.declared.fault.DirFault.{DirFault}
use Rattle.crash_core.specs.declared.fault.DirFault.TheVariants.{Tree, WrongLength, Record, Double}
use Rattle.crash_core.specs.CardBlock.{root_in}
use Rattle.crash_core.specs.Refusal.{Refusal, NoStore as BlankBlock, CardBlock as BadBlock, NoDirectory}
use Rattle.dir_file.specs.Loading.{DirCause}
use Rattle.tee_types.specs.declared.reply.Cause.{Cause}
use Rattle.tee_types.specs.declared.reply.Cause.TheVariants.{Fault, Frame as OfFrame, CardResult as OfResult}
use Rattle.tee_types.specs.declared.reply.Device.{Device}
use Rattle.tee_types.specs.declared.reply.Device.TheVariants.{Dir, File, Card, Entropy}
use Rattle.store_commit.specs.declared.fault.MountFault.{MountFault}
use Rattle.store_commit.specs.declared.fault.MountFault.TheVariants.{NoStore, CardBlock, Directory, Frame, CardResult, Failed, Spent, NoMemory, OldFormat}
use Rattle.store_commit.specs.Blocks.{IsRootRefused, block_answer}
use Rattle.store_commit.specs.Causes.{Counted, counts}
use Rattle.store_commit.specs.declared.change.CardEnd.TheVariants.{Lost, Unknown}
use Rattle.store_commit.specs.CardCauses.{CardCounts, PortCause}
use Rattle.store_commit.specs.Counts.{CauseCounts, DoubtCounts, NoneRose, RefusalCounts, RefusalNotDrawn, RefusalNotOfCard, RoseAlone}
use Rattle.store_commit.specs.Formats.{make_answer}
use Rattle.store_commit.specs.Mounts.{directory_answer, host_answer}
use Rattle.store_commit.specs.Prepared.{SideCause}

pub file_same : (s : FileState) → FilePassed s s
file_same s = record { faults = refl; starved = refl }

pub passed_then : (a b c : FileState) → FilePassed a b → FilePassed b c → FilePassed a c
passed_then a b c x y = record { faults = y.faults ∙ x.faults; starved = y.starved ∙ x.starved }

-- a fault of the host
pub host_counts : (a b : Counted) (fault : HostFault) → FilePassed a.file b.file → b.draws ≡ a.draws → FaultCounts a.port b.port fault → RefusalCounts a b (host_answer fault)
host_counts a b (NoAnswer count) file draws c = (c.0, c.1, file, draws)
host_counts a b (BadFrame f) file draws c = record { file = file; card = c; draws = draws }
host_counts a b (RefusedBy r) file draws c = record { file = file; card = c; draws = draws }
host_counts a b IsSpent file draws c = record { file = file; card = c; draws = draws }

pub host_not_card : (fault : HostFault) → is_failure fault ≡ false → RefusalNotOfCard (host_answer fault)
host_not_card (NoAnswer count) other = absurd (cc (other))
host_not_card (BadFrame f) other = tt
host_not_card (RefusedBy r) other = tt
host_not_card IsSpent other = tt

pub host_not_drawn : (fault : HostFault) → RefusalNotDrawn (host_answer fault)
host_not_drawn (NoAnswer count) = tt
host_not_drawn (BadFrame f) = tt
host_not_drawn (RefusedBy r) = tt
host_not_drawn IsSpent = tt

-- what a failure raised since a count that stood as before
pub faults_since : (old mid new : PortState) (fault : HostFault) → mid.faults ≡ old.faults → FaultCounts mid new fault → FaultCounts old new fault
faults_since old mid new (NoAnswer count) same c = (subst (λ (n : ℕ). Rose n new.faults) same c.0, c.1)
faults_since old mid new (BadFrame f) same c = c ∙ same
faults_since old mid new (RefusedBy r) same c = c ∙ same
faults_since old mid new IsSpent same c = c ∙ same

-- a draw that failed
pub drawn_counts : (file : FileState) (port : PortState) (drew draws : ℕ) (cause : Cause) → Rose drew draws × (cause ≡ Fault Entropy draws)
    → RefusalCounts (counts file port drew) (counts file port draws) (Failed cause)
drawn_counts file port drew draws cause drawn =
    subst (λ (x : Cause). RefusalCounts (counts file port drew) (counts file port draws) (Failed x)) (sym drawn.1) (drawn.0, refl, file_same file, refl)

pub drawn_not_card : (draws : ℕ) (cause : Cause) → cause ≡ Fault Entropy draws → RefusalNotOfCard (Failed cause)
drawn_not_card draws cause is = subst (λ (x : Cause). RefusalNotOfCard (Failed x)) (sym is) tt

-- a refusal behind what raised no count
module _ (a b c : Counted) (file : b.file ≡ a.file) (card : b.port.faults ≡ a.port.faults) (draws : b.draws ≡ a.draws) where
  passed : FilePassed b.file c.file → FilePassed a.file c.file
  passed is = subst (λ (f : FileState). FilePassed f c.file) file is

  pub none_after : NoneRose b c → NoneRose a c
  none_after is = record { file = passed is.file; card = is.card ∙ card; draws = is.draws ∙ draws }

  rose_after : (device : Device) (count : ℕ) → RoseAlone b c device count → RoseAlone a c device count
  rose_after Dir count is = (subst (λ (f : FileState). FileFailed f c.file count) file is.0, is.1 ∙ card, is.2 ∙ draws)
  rose_after (File n) count is = absurd is
  rose_after Card count is = (subst (λ (n : ℕ). Rose n c.port.faults) card is.0, is.1, passed is.2, is.3 ∙ draws)
  rose_after Entropy count is = (subst (λ (n : ℕ). Rose n c.draws) draws is.0, is.1, passed is.2, is.3 ∙ card)

  cause_after : (cause : Cause) → RefusalCounts b c (Failed cause) → RefusalCounts a c (Failed cause)
  cause_after (Fault device count) is = rose_after device count is
  cause_after (OfFrame f) is = none_after is
  cause_after (OfResult r) is = none_after is

  pub counts_after : (fault : MountFault) → RefusalCounts b c fault → RefusalCounts a c fault
  counts_after NoStore is = none_after is
  counts_after (CardBlock byte) is = none_after is
  counts_after (Directory d) is = none_after is
  counts_after (Frame f) is = none_after is
  counts_after (CardResult n) is = none_after is
  counts_after (Failed cause) is = cause_after cause is
  counts_after Spent is = none_after is
  counts_after NoMemory is = none_after is
  counts_after (OldFormat file) is = none_after is

-- block 0 refuses
pub block_counts : (a b : Counted) (r : Result RootRef Refusal) (fault : MountFault) → Err fault ≡ block_answer r → NoneRose a b → RefusalCounts a b fault
block_counts a b (Ok root) fault is none = absurd (cc (is))
block_counts a b (Err BlankBlock) fault is none = let e : fault ≡ NoStore = cc (is) in subst (RefusalCounts a b) (sym e) none
block_counts a b (Err (BadBlock byte)) fault is none = let e : fault ≡ CardBlock byte = cc (is) in subst (RefusalCounts a b) (sym e) none
block_counts a b (Err (NoDirectory d)) fault is none = let e : fault ≡ Directory d = cc (is) in subst (RefusalCounts a b) (sym e) none

pub block_not_card : (r : Result RootRef Refusal) (fault : MountFault) → Err fault ≡ block_answer r → RefusalNotOfCard fault × RefusalNotDrawn fault
block_not_card (Ok root) fault is = absurd (cc (is))
block_not_card (Err BlankBlock) fault is = let e : fault ≡ NoStore = cc (is) in subst (λ (f : MountFault). RefusalNotOfCard f × RefusalNotDrawn f) (sym e) (tt, tt)
block_not_card (Err (BadBlock byte)) fault is = let e : fault ≡ CardBlock byte = cc (is) in subst (λ (f : MountFault). RefusalNotOfCard f × RefusalNotDrawn f) (sym e) (tt, tt)
block_not_card (Err (NoDirectory d)) fault is = let e : fault ≡ Directory d = cc (is) in subst (λ (f : MountFault). RefusalNotOfCard f × RefusalNotDrawn f) (sym e) (tt, tt)

pub root_counts : (a b : Counted) (block : List ℕ) (fault : MountFault) → IsRootRefused block fault → NoneRose a b → RefusalCounts a b fault
root_counts a b block fault (inl is) none = block_counts a b (root_in block) fault is none
root_counts a b block fault (inr is) none = subst (RefusalCounts a b) (sym is.0) none

pub root_not_card : (block : List ℕ) (fault : MountFault) → IsRootRefused block fault → RefusalNotOfCard fault × RefusalNotDrawn fault
root_not_card block fault (inl is) = block_not_card (root_in block) fault is
root_not_card block fault (inr is) = subst (λ (f : MountFault). RefusalNotOfCard f × RefusalNotDrawn f) (sym is.0) (tt, tt)

-- the directory refuses
module _ (a b : Counted) (card : b.port.faults ≡ a.port.faults) (draws : b.draws ≡ a.draws) where
  none : FilePassed a.file b.file → NoneRose a b
  none file = record { file = file; card = card; draws = draws }

  pub directory_counts : (fault : DirFault) → DirCause a.file b.file fault → RefusalCounts a b (directory_answer fault)
  directory_counts (Tree (FileFault count)) cause = (cause, card, draws)
  directory_counts (Tree NoRoom) cause = none cause
  directory_counts (Tree (BadHead long greatest)) cause = none cause
  directory_counts (Tree (Short end need)) cause = none cause
  directory_counts (Tree (Damaged n want found)) cause = none cause
  directory_counts (Tree (BadTag k want found)) cause = none cause
  directory_counts (Tree (NoEntropy count)) cause = none cause
  directory_counts (WrongLength bytes) cause = none cause
  directory_counts (Record index offset) cause = none cause
  directory_counts (Double index first) cause = none cause

pub directory_not_card : (fault : DirFault) → RefusalNotOfCard (directory_answer fault) × RefusalNotDrawn (directory_answer fault)
directory_not_card (Tree (FileFault count)) = (tt, tt)
directory_not_card (Tree NoRoom) = (tt, tt)
directory_not_card (Tree (BadHead long greatest)) = (tt, tt)
directory_not_card (Tree (Short end need)) = (tt, tt)
directory_not_card (Tree (Damaged n want found)) = (tt, tt)
directory_not_card (Tree (BadTag k want found)) = (tt, tt)
directory_not_card (Tree (NoEntropy count)) = (tt, tt)
directory_not_card (WrongLength bytes) = (tt, tt)
directory_not_card (Record index offset) = (tt, tt)
directory_not_card (Double index first) = (tt, tt)

-- making the directory is refused
pub make_counts : (a b : Counted) (fault : TreeFault) → IsMakeFault fault → FaultCause a.file b.file fault → DrawFault a.draws b.draws fault → b.port.faults ≡ a.port.faults
    → RefusalCounts a b (make_answer fault)
make_counts a b (FileFault count) kind cause drawn card = (cause, card, drawn)
make_counts a b (NoEntropy count) kind cause drawn card = (drawn.0, drawn.1, cause, card)
make_counts a b NoRoom kind cause drawn card = record { file = cause; card = card; draws = drawn }
make_counts a b (BadHead long greatest) kind cause drawn card = absurd kind
make_counts a b (Short end need) kind cause drawn card = absurd kind
make_counts a b (Damaged n want found) kind cause drawn card = absurd kind
make_counts a b (BadTag k want found) kind cause drawn card = absurd kind

pub make_not_card : (fault : TreeFault) → RefusalNotOfCard (make_answer fault)
make_not_card (FileFault count) = tt
make_not_card (NoEntropy count) = tt
make_not_card NoRoom = tt
make_not_card (BadHead long greatest) = tt
make_not_card (Short end need) = tt
make_not_card (Damaged n want found) = tt
make_not_card (BadTag k want found) = tt

pub make_not_drawn : (fault : TreeFault) → NotEntropy fault → RefusalNotDrawn (make_answer fault)
make_not_drawn (FileFault count) not = tt
make_not_drawn (NoEntropy count) not = absurd not
make_not_drawn NoRoom not = tt
make_not_drawn (BadHead long greatest) not = tt
make_not_drawn (Short end need) not = tt
make_not_drawn (Damaged n want found) not = tt
make_not_drawn (BadTag k want found) not = tt

-- the directory's part of a commit
pub side_counts : (old new : FileState) (port : PortState) (drew between draws : ℕ) (cause : Cause) → between ≡ drew → SideCause old new between draws cause
    → CauseCounts (counts old port drew) (counts new port draws) cause
side_counts old new port drew between draws (Fault Dir count) same side = (side.0, refl, side.1 ∙ same)
side_counts old new port drew between draws (Fault (File n) count) same side = absurd side
side_counts old new port drew between draws (Fault Card count) same side = absurd side
side_counts old new port drew between draws (Fault Entropy count) same side = (subst (λ (n : ℕ). Rose n draws) same side.0, side.1, side.2, refl)
side_counts old new port drew between draws (OfFrame f) same side = absurd side
side_counts old new port drew between draws (OfResult r) same side = absurd side

-- the card's part
module _ (a b : Counted) (key : List ℕ) (counter : ℕ) (file : FilePassed a.file b.file) (draws : b.draws ≡ a.draws) where
  pub lost_counts : (cause : Cause) → PortCause key counter a.port b.port cause → CardCounts a.port b.port (Lost cause) → CauseCounts a b cause
  lost_counts (Fault Dir count) of c = absurd of
  lost_counts (Fault (File n) count) of c = absurd of
  lost_counts (Fault Card count) of c = (c.0, c.1, file, draws)
  lost_counts (Fault Entropy count) of c = absurd of
  lost_counts (OfFrame f) of c = record { file = file; card = c; draws = draws }
  lost_counts (OfResult r) of c = record { file = file; card = c; draws = draws }

  pub doubt_counts : (cause : Cause) → PortCause key counter a.port b.port cause → CardCounts a.port b.port (Unknown cause) → DoubtCounts a b cause
  doubt_counts (Fault Dir count) of c = absurd of
  doubt_counts (Fault (File n) count) of c = absurd of
  doubt_counts (Fault Card count) of c = (c.0, c.1, file, draws)
  doubt_counts (Fault Entropy count) of c = absurd of
  doubt_counts (OfFrame f) of c = record { file = file; card = c; draws = draws }
  doubt_counts (OfResult r) of c = record { file = file; card = c; draws = draws }
