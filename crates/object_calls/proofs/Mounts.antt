-- A bench that is mounted, or refused.
use Rattle.std.proofs.Common.{◌≡◌, ◌∙◌, ◌<◌, ℕ, List, [], length, None, inr, sym, ap, subst, arith}
use Rattle.disk_model.specs.State.{FileState, Sound}
use Rattle.node_image.specs.References.{current_format}
use Rattle.htree_file.specs.Answers.{FilePassed}
use Rattle.htree_file.specs.Standing.{Told}
use Rattle.atomic_table.specs.Seated.{TableId}
use Rattle.hmac_keys.specs.declared.Keys.{Keys}
use Rattle.hmac_keys.specs.KeyTable.{dir_tsk, rpmb_key, ssk}
use Rattle.tee_types.specs.Limits.{directory_file, last_file}
use Rattle.rpmb_card.specs.Port.{PortState}
use Rattle.rpmb_host.specs.Honest.{HasCard}
use Rattle.tee_types.specs.declared.reply.Cause.{Cause}
use Rattle.tee_types.specs.declared.reply.Cause.TheVariants.{Fault, Frame as OfFrame, CardResult as OfResult}
use Rattle.tee_types.specs.declared.reply.Device.{Device}
use Rattle.tee_types.specs.declared.reply.Device.TheVariants.{Dir, File, Card, Entropy}
use Rattle.crash_core.specs.Mounting.{mounted_entries}
use Rattle.crash_core.specs.EntryLists.{AreCurrent}
use Rattle.crash_core.specs.Opening.{reads_of}
use Rattle.crash_core.proofs.Doubles.{below}
use Rattle.store_commit.specs.Causes.{Counted, NotDrawn, NotOfCard, counts}
use Rattle.store_commit.specs.Counts.{NoneRose, RefusalCounts}
use Rattle.store_commit.specs.Gates.{GateValue, gate_sides}
use Rattle.store_commit.specs.Holds.{file_held}
use Rattle.store_commit.specs.Mounts.{HasRootRead, OpensGate}
use Rattle.store_commit.specs.declared.fault.MountFault.{MountFault}
use Rattle.store_commit.specs.declared.fault.MountFault.TheVariants.{NoStore, CardBlock, Directory, Frame, CardResult, Failed, Spent, NoMemory, OldFormat}
use Rattle.object_calls.specs.Begins.{IsWholeOpening, MountsAsRead}
use Rattle.object_calls.specs.OldStores.{GateHeard, GateRefused}
use Rattle.object_calls.specs.OpeningFiles.{files_of, object_files}
use Rattle.object_calls.specs.Opening.{IsKeyed, IsOpening, OpeningValue, bench_files}
use Rattle.object_calls.specs.MountRefusals.{BenchCounts, BenchHeard, BenchRefused, GateRefuses}
use Rattle.object_calls.specs.Syncing.{StopsSyncing, SyncsNamed}
use Rattle.object_calls.proofs.Files.{directory_here}
use Rattle.store_commit.proofs.Cards.{has_still}
use Rattle.object_calls.proofs.DirectoryImages.{one_directory}
use Rattle.object_calls.proofs.NamedEntries.{directory_identified}
use Rattle.object_calls.proofs.Openings.{whole_opening}

-- THE GATE REFUSED
module _ {F : Type 0} (state : F → FileState) (old new : List F) (p0 p1 : PortState) (keys : Keys) (drew draws : ℕ) where
  by_device : (device : Device) (count : ℕ) → GateRefuses state old new p0 p1 keys drew draws (Failed (Fault device count)) → BenchRefused state old new p0 p1 keys drew draws (Failed (Fault device count))
  by_device Dir count g = g
  by_device (File n) count g = absurd (g.refused)
  by_device Card count g = g
  by_device Entropy count g = g

  by_cause : (cause : Cause) → GateRefuses state old new p0 p1 keys drew draws (Failed cause) → BenchRefused state old new p0 p1 keys drew draws (Failed cause)
  by_cause (Fault device count) g = by_device device count g
  by_cause (OfFrame fault) g = g
  by_cause (OfResult result) g = g

  pub gate_refused : (fault : MountFault) → GateRefuses state old new p0 p1 keys drew draws fault → BenchRefused state old new p0 p1 keys drew draws fault
  gate_refused NoStore g = g
  gate_refused (CardBlock byte) g = g
  gate_refused (Directory fault) g = g
  gate_refused (Frame fault) g = g
  gate_refused (CardResult result) g = g
  gate_refused (Failed cause) g = by_cause cause g
  gate_refused Spent g = g
  gate_refused (OldFormat n) g = g
  gate_refused NoMemory g = g

  -- or a sync failed
  sync_device : (device : Device) (count : ℕ) → StopsSyncing (files_of state old) (files_of state new) (Fault device count) → BenchRefused state old new p0 p1 keys drew draws (Failed (Fault device count))
  sync_device Dir count s = absurd s.failed
  sync_device (File n) count s = s
  sync_device Card count s = absurd s.failed
  sync_device Entropy count s = absurd s.failed

  pub sync_refused : (cause : Cause) → StopsSyncing (files_of state old) (files_of state new) cause → BenchRefused state old new p0 p1 keys drew draws (Failed cause)
  sync_refused (Fault device count) s = sync_device device count s
  sync_refused (OfFrame fault) s = absurd s.failed
  sync_refused (OfResult result) s = absurd s.failed

-- a sync that failed accuses a file
pub sync_not_card : (old new : ℕ → FileState) (cause : Cause) → StopsSyncing old new cause → NotOfCard cause
sync_not_card old new (Fault Dir count) s = absurd s.failed
sync_not_card old new (Fault (File n) count) s = tt
sync_not_card old new (Fault Card count) s = absurd s.failed
sync_not_card old new (Fault Entropy count) s = absurd s.failed
sync_not_card old new (OfFrame fault) s = absurd s.failed
sync_not_card old new (OfResult result) s = absurd s.failed

pub sync_not_drawn : (old new : ℕ → FileState) (cause : Cause) → StopsSyncing old new cause → NotDrawn cause
sync_not_drawn old new (Fault Dir count) s = absurd s.failed
sync_not_drawn old new (Fault (File n) count) s = tt
sync_not_drawn old new (Fault Card count) s = absurd s.failed
sync_not_drawn old new (Fault Entropy count) s = absurd s.failed
sync_not_drawn old new (OfFrame fault) s = absurd s.failed
sync_not_drawn old new (OfResult result) s = absurd s.failed

-- WHAT WAS HEARD AND COUNTED
module _ (old file : FileState) (p0 p1 : PortState) (keys : Keys) where
  heard_by_device : (drew draws : ℕ) (device : Device) (count : ℕ) → GateRefused old file p0 p1 keys drew draws (Failed (Fault device count))
      → GateHeard old file p0 p1 keys (Failed (Fault device count)) → BenchHeard old file p0 p1 keys (Failed (Fault device count))
  heard_by_device drew draws Dir count refused heard = heard
  heard_by_device drew draws (File n) count refused heard = absurd refused
  heard_by_device drew draws Card count refused heard = heard
  heard_by_device drew draws Entropy count refused heard = heard

  heard_by_cause : (drew draws : ℕ) (cause : Cause) → GateRefused old file p0 p1 keys drew draws (Failed cause) → GateHeard old file p0 p1 keys (Failed cause)
      → BenchHeard old file p0 p1 keys (Failed cause)
  heard_by_cause drew draws (Fault device count) refused heard = heard_by_device drew draws device count refused heard
  heard_by_cause drew draws (OfFrame fault) refused heard = heard
  heard_by_cause drew draws (OfResult result) refused heard = heard

  pub gate_heard : (drew draws : ℕ) (fault : MountFault) → GateRefused old file p0 p1 keys drew draws fault → GateHeard old file p0 p1 keys fault
      → BenchHeard old file p0 p1 keys fault
  gate_heard drew draws NoStore refused heard = heard
  gate_heard drew draws (CardBlock byte) refused heard = heard
  gate_heard drew draws (Directory fault) refused heard = heard
  gate_heard drew draws (Frame fault) refused heard = heard
  gate_heard drew draws (CardResult result) refused heard = heard
  gate_heard drew draws (Failed cause) refused heard = heard_by_cause drew draws cause refused heard
  gate_heard drew draws Spent refused heard = heard
  gate_heard drew draws (OldFormat n) refused heard = heard
  gate_heard drew draws NoMemory refused heard = inr heard

  sync_heard_by : (was now : ℕ → FileState) (device : Device) (count : ℕ) → StopsSyncing was now (Fault device count) → HasRootRead (rpmb_key keys.huk) p0 p1
      → BenchHeard old file p0 p1 keys (Failed (Fault device count))
  sync_heard_by was now Dir count s read = absurd s.failed
  sync_heard_by was now (File n) count s read = read
  sync_heard_by was now Card count s read = absurd s.failed
  sync_heard_by was now Entropy count s read = absurd s.failed

  pub sync_heard : (was now : ℕ → FileState) (cause : Cause) → StopsSyncing was now cause → HasRootRead (rpmb_key keys.huk) p0 p1 → BenchHeard old file p0 p1 keys (Failed cause)
  sync_heard was now (Fault device count) s read = sync_heard_by was now device count s read
  sync_heard was now (OfFrame fault) s read = absurd s.failed
  sync_heard was now (OfResult result) s read = absurd s.failed

module _ (old new : Counted) where
  counts_by_device : (device : Device) (count : ℕ) → RefusalCounts old new (Failed (Fault device count)) → BenchCounts old new (Failed (Fault device count))
  counts_by_device Dir count counted = counted
  counts_by_device (File n) count counted = absurd counted
  counts_by_device Card count counted = counted
  counts_by_device Entropy count counted = counted

  counts_by_cause : (cause : Cause) → RefusalCounts old new (Failed cause) → BenchCounts old new (Failed cause)
  counts_by_cause (Fault device count) counted = counts_by_device device count counted
  counts_by_cause (OfFrame fault) counted = counted
  counts_by_cause (OfResult result) counted = counted

  pub gate_counts : (fault : MountFault) → RefusalCounts old new fault → BenchCounts old new fault
  gate_counts NoStore counted = counted
  gate_counts (CardBlock byte) counted = counted
  gate_counts (Directory fault) counted = counted
  gate_counts (Frame fault) counted = counted
  gate_counts (CardResult result) counted = counted
  gate_counts (Failed cause) counted = counts_by_cause cause counted
  gate_counts Spent counted = counted
  gate_counts (OldFormat file) counted = counted
  gate_counts NoMemory counted = counted

  sync_counts_by : (was now : ℕ → FileState) (device : Device) (count : ℕ) → StopsSyncing was now (Fault device count) → NoneRose old new → BenchCounts old new (Failed (Fault device count))
  sync_counts_by was now Dir count s none = absurd s.failed
  sync_counts_by was now (File n) count s none = none
  sync_counts_by was now Card count s none = absurd s.failed
  sync_counts_by was now Entropy count s none = absurd s.failed

  pub sync_counts : (was now : ℕ → FileState) (cause : Cause) → StopsSyncing was now cause → NoneRose old new → BenchCounts old new (Failed cause)
  sync_counts was now (Fault device count) s none = sync_counts_by was now device count s none
  sync_counts was now (OfFrame fault) s none = absurd s.failed
  sync_counts was now (OfResult result) s none = absurd s.failed

-- of what is the same
pub none_rose_at : (a b c d : FileState) (p q r : PortState) (m n : ℕ) → a ≡ c → b ≡ d → q ≡ r → NoneRose (counts c p m) (counts d r n) → NoneRose (counts a p m) (counts b q n)
none_rose_at a b c d p q r m n a_is b_is q_is none = record {
  file = subst (λ (x : FileState). FilePassed x b) (sym a_is) (subst (FilePassed c) (sym b_is) none.file);
  card = ap (λ (x : PortState). x.faults) q_is ∙ none.card;
  draws = none.draws;
}

-- THE OPENING
module _ {F R : Type 0} (state : F → FileState) (port : R → PortState) (old : FileState) (p0 : PortState) (keys : Keys) (g : GateValue F R) (files : List F) (spare : F) (was : ℕ → FileState) (storage_key : List ℕ)
    (opens : OpensGate old p0 keys (gate_sides state port g)) (key : storage_key ≡ ssk keys.huk keys.chip) (table : TableId) where
  pub opening_of : (g.dir.dir.root.format ≡ current_format) × AreCurrent g.dir.dir.entries → g.doubt ≡ None → g.open_handles.records ≡ [] → ((session : ℕ) → file_held g.holds session ≡ None) → length files ≡ last_file
      → SyncsNamed g.dir.dir.entries 256 was (object_files state files) → IsOpening state g files storage_key
  opening_of current idle unopened unheld whole syncs = record {
    idle = idle;
    unopened = unopened;
    unheld = unheld;
    whole = whole;
    keyed = opens.tsk_is ∙ ap dir_tsk (sym key);
    current = current.0;
    entries = opens.settled.entries;
    entries_current = current.1;
    identified = directory_identified _ g.dir.dir.entries (opens.seen).entries.pages.reads;
    settled = opens.unwritten;
    synced = λ index e at.
        let within : index < 256 = omega (arith, opens.settled.entries.whole, below g.dir.dir.entries index e at) in
        syncs.settled index e within at;
  }

  abbrev o : OpeningValue F R
  o = record { gate = g; files = files; spare = spare; storage_key = storage_key; table = table; applications = [] }

  pub keyed_of : IsKeyed keys o
  keyed_of = record { storage = key; card = opens.key_is }

  pub whole_of : ((f : F) → Sound (state f)) → IsOpening state g files storage_key → IsWholeOpening state port o
  whole_of sound is = whole_opening state port sound o opens.settled is

  pub mounted_of : g.dir.dir.root.format ≡ current_format → MountsAsRead state old p0 keys o
  mounted_of current told card has =
      let here : bench_files state o directory_file ≡ state g.dir.file = directory_here state spare g.dir.file files in
      let now : HasCard (port g.host.port) g.host.key card = has_still p0 (port g.host.port) (rpmb_key keys.huk) g.host.key card opens.devices.card opens.key_is has in
      ap (mounted_entries keys (reads_of (bench_files state o)))
      (one_directory keys (reads_of (bench_files state o)) (state g.dir.file).reads card g.dir.dir.root (opens.settled.named card now).block current (ap (λ (s : FileState). s.reads) here)
      ∙ opens.directory (subst (Told old) here told) card has)
