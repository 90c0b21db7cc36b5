-- A call by an open handle, as it comes to the gate.
use Rattle.std.specs.Prelude.{None, Option, Some, ℕ, ◌≡◌}
use Rattle.commit_gate.specs.CallerSessions.{CallerSession}
use Rattle.call_rules.specs.Objects.{IsOpenObject}
use Rattle.call_rules.specs.declared.decision.OpenObject.{OpenObject}
use Rattle.crash_core.specs.DirectoryLaws.{AreEntries}
use Rattle.history_seats.specs.Directory.{given_version}
use Rattle.history_seats.specs.Records.{Version}
use Rattle.history_seats.specs.Views.{GateView, SlotView}
use Rattle.commit_gate.specs.Commits.{IsCalm}
use Rattle.commit_gate.specs.GuardedGates.{GateInvariant}
use Rattle.commit_gate.specs.declared.guarded_gate.Closing.{Closing}
use Rattle.commit_gate.specs.Gates.{GateValue}
use Rattle.core_laws.specs.Stores.{Store}

-- No commit is in doubt at the gate. The session saw all, and has that open handle on the object of an entry, for which the version is given; the
-- slot is of the entry's file and generation.
pub record IsAtObject {F R E : Type 0} (store : Store) (gate : GateValue F R) (knows : GateView) (closing : Option Closing) (caller : CallerSession E) (handle : ℕ) (found : OpenObject) (slot : SlotView) (version : Version) : Type 0 where
  pub guarded : GateInvariant store gate knows closing
  pub idle : gate.doubt ≡ None
  pub entries : AreEntries gate.dir.dir.entries
  pub calm : IsCalm store knows caller
  pub opened : IsOpenObject gate.dir.dir.entries caller.state handle found
  pub file : slot.file ≡ found.held.entry.file
  pub generation : slot.generation ≡ found.held.entry.generation
  pub gives : given_version store.mounted knows.all slot.file slot.generation ≡ Some version
