-- What formatting a store answers.
use Rattle.std.specs.Prelude.{◌≡◌, ◌≢◌, ◌⊎◌, ℕ, ◌+◌, List, Ok, Err, IsTrue}
use Rattle.disk_model.specs.Faults.{Rose}
use Rattle.disk_model.specs.Calls.{GoesOn}
use Rattle.disk_model.specs.State.{FileState, LeftNow}
use Rattle.htree_file.specs.declared.fault.TreeFault.{TreeFault}
use Rattle.htree_file.specs.declared.fault.TreeFault.TheVariants.{Failed as FileFault, NoEntropy}
use Rattle.htree_file.specs.Answers.{FileFailed}
use Rattle.htree_file.specs.Opening.{Loaded}
use Rattle.node_image.specs.declared.node.RootRef.{RootRef}
use Rattle.hmac_keys.specs.declared.Keys.{Keys}
use Rattle.hmac_keys.specs.KeyTable.{rpmb_key}
use Rattle.rpmb_card.specs.Protocol.{last_counter}
use Rattle.rpmb_card.specs.Card.{CardState}
use Rattle.rpmb_card.specs.Port.{PortState}
use Rattle.rpmb_host.specs.Honest.{HasCard}
use Rattle.rpmb_host.specs.declared.fault.HostFault.{HostFault}
use Rattle.rpmb_host.specs.declared.fault.HostFault.TheVariants.{Failed as NoAnswer, BadFrame, CardResult as RefusedBy}
use Rattle.rpmb_frame.specs.declared.frame.Frame.{Frame as CardFrame}
use Rattle.tee_types.specs.Limits.{directory_file}
use Rattle.tee_types.specs.declared.reply.Cause.TheVariants.{Fault}
use Rattle.tee_types.specs.declared.reply.Device.TheVariants.{Dir, Card, Entropy}
use Rattle.crash_core.specs.DeviceKeys.{directory_key}
use Rattle.crash_core.specs.Mounting.{mounted_directory}
use Rattle.dir_file.specs.EntryForms.{no_entries}
use Rattle.dir_file.specs.Held.{IsDurable}
use Rattle.store_commit.specs.declared.fault.MountFault.{MountFault}
use Rattle.store_commit.specs.declared.fault.MountFault.TheVariants.{Frame, CardResult, Failed, Spent, NoMemory}
use Rattle.store_commit.specs.Leaving.{KeepsPort}
use Rattle.store_commit.specs.Reads.{AsksCounter, IsCounterRead, IsRootWritten}
use Rattle.store_commit.specs.Mounts.{NoCardOf}

-- what a fault in making the directory is
abbrev pub make_answer : TreeFault → MountFault
make_answer (FileFault count) = Failed (Fault Dir count)
make_answer (NoEntropy count) = Failed (Fault Entropy count)
make_answer fault = NoMemory

-- The card has a new block 0, and every picture of it and the directory's file mounts to a directory without objects.
pub record IsFormatted (file : FileState) (p1 : PortState) (keys : Keys) (card : CardState) : Type 0 where
  pub next : CardState
  pub has : HasCard p1 (rpmb_key keys.huk) next
  pub counted : next.counter ≡ card.counter + 1
  pub mounts : IsTrue file.honest → (images : ℕ → List ℕ) → LeftNow file (images directory_file) → mounted_directory keys (record { images = images; card = next }) ≡ Ok no_entries

abbrev pub Formats : FileState → (p0 p1 : PortState) → Keys → Type 0
Formats file p0 p1 keys = (card : CardState) → HasCard p0 (rpmb_key keys.huk) card → (card.counter ≢ last_counter) × IsFormatted file p1 keys card

-- the write that was confirmed: of a reference that names the new directory in every image
pub record IsFormatWritten (file : FileState) (p0 p1 : PortState) (keys : Keys) : Type 0 where
  pub root : RootRef
  pub tree : Loaded
  pub frame : CardFrame
  pub written : IsRootWritten (rpmb_key keys.huk) p0 p1 root (Ok frame)
  pub held : IsTrue file.honest → IsDurable file (directory_key keys) root tree no_entries

-- after a fault the card is as before, or the store is formatted
abbrev pub LeavesFormat : FileState → (p0 p1 : PortState) → Keys → Type 0
LeavesFormat file p0 p1 keys = (card : CardState) → HasCard p0 (rpmb_key keys.huk) card → (p1.card ≡ p0.card) ⊎ IsFormatted file p1 keys card

-- What a format leaves of its devices, refused or not: what is known of the file goes on, and the port keeps its calm and
-- its arms.
pub record FormatGoesOn (old new : FileState) (p0 p1 : PortState) : Type 0 where
  pub file : GoesOn old new
  pub port : KeepsPort p0 p1

-- why a store is not formatted
abbrev pub FormatRefused : (old new : FileState) → (p0 p1 : PortState) → Keys → (drew draws : ℕ) → MountFault → Type 0
FormatRefused old new p0 p1 keys drew draws Spent = (card : CardState) → HasCard p0 (rpmb_key keys.huk) card → card.counter ≡ last_counter
FormatRefused old new p0 p1 keys drew draws NoMemory = Unit {0}
FormatRefused old new p0 p1 keys drew draws (Failed (Fault Dir count)) = FileFailed old new count
FormatRefused old new p0 p1 keys drew draws (Failed (Fault Card count)) = Rose p0.faults p1.faults × (count ≡ p1.faults)
FormatRefused old new p0 p1 keys drew draws (Failed (Fault Entropy count)) = Rose drew draws × (count ≡ draws)
FormatRefused old new p0 p1 keys drew draws (Frame fault) = NoCardOf p0 (rpmb_key keys.huk)
FormatRefused old new p0 p1 keys drew draws (CardResult result) = NoCardOf p0 (rpmb_key keys.huk)
FormatRefused old new p0 p1 keys drew draws fault = ⊥

-- the counter that was read
pub record HasCounterRead (key : List ℕ) (p0 p1 : PortState) : Type 0 where
  pub counter : ℕ
  pub read : IsCounterRead key p0 p1 counter
  pub unspent : counter ≢ last_counter

-- the answer about the counter was refused, and the file is as it was; or the write was
abbrev pub IsFormatRefused : (old new : FileState) → (p0 p1 : PortState) → (key : List ℕ) → HostFault → Type 0
IsFormatRefused old new p0 p1 key fault =
    (AsksCounter key p0 p1 (Err fault) × (new ≡ old)) ⊎ ((root : RootRef) × IsRootWritten key p0 p1 root (Err fault))

-- What was heard of the card where a store is not formatted, whatever the card is.
abbrev pub FormatHeard : (old new : FileState) → (p0 p1 : PortState) → Keys → MountFault → Type 0
FormatHeard old new p0 p1 keys Spent = IsCounterRead (rpmb_key keys.huk) p0 p1 last_counter × (new ≡ old)
FormatHeard old new p0 p1 keys NoMemory = HasCounterRead (rpmb_key keys.huk) p0 p1
FormatHeard old new p0 p1 keys (Failed (Fault Dir count)) = HasCounterRead (rpmb_key keys.huk) p0 p1
FormatHeard old new p0 p1 keys (Failed (Fault Entropy count)) = new ≡ old
FormatHeard old new p0 p1 keys (Failed (Fault Card count)) = IsFormatRefused old new p0 p1 (rpmb_key keys.huk) (NoAnswer count)
FormatHeard old new p0 p1 keys (Frame fault) = IsFormatRefused old new p0 p1 (rpmb_key keys.huk) (BadFrame fault)
FormatHeard old new p0 p1 keys (CardResult result) = IsFormatRefused old new p0 p1 (rpmb_key keys.huk) (RefusedBy result)
FormatHeard old new p0 p1 keys fault = ⊥
