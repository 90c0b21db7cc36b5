-- The parts together: they are one state of the core machine.
use Rattle.std.specs.Prelude.{◌≡◌, ◌≢◌, ◌==◌, ℕ, Some, if◌then◌else◌, IsTrue}
use Rattle.disk_model.specs.State.{FileState}
use Rattle.tee_types.specs.Limits.{IsObjectFile, directory_file}
use Rattle.store_model.specs.Legal.{IsLegalFrom}
use Rattle.store_model.specs.ReplayState.{opening}
use Rattle.history_seats.specs.Records.{Version}
use Rattle.history_seats.specs.Rule.{SlotFits}
use Rattle.crash_core.specs.Mounting.{Held}
use Rattle.crash_core.specs.Sights.{Shows}
use Rattle.crash_core.specs.CoreState.{Core, IsTrusted, Phase}
use Rattle.crash_core.specs.Holding.{Holds}
use Rattle.core_laws.specs.SlotParts.{SlotHolds, SlotPart}
use Rattle.core_laws.specs.GateParts.{GateHolds, GatePart}

-- the gate, and the slot of each other file
pub record Parts : Type 0 where
  pub gate : GatePart
  pub slots : ℕ → SlotPart

-- the files of both
abbrev pub files_of : GatePart → (ℕ → SlotPart) → ℕ → FileState
files_of g slots file = if file == directory_file then g.directory else (slots file).file

-- the state of the core machine that they are
abbrev pub core_of : GatePart → (ℕ → SlotPart) → Core Version
core_of g slots = record {
  files = files_of g slots;
  card = g.card;
  root = g.root;
  entries = g.entries;
  takes = g.takes;
  stages = λ file. (slots file).stage;
  pending = g.pending;
  history = g.view.all;
}

-- How the parts fit: each slot's view fits the gate's, by the rule of the seats; and what the commit under way puts, the slot shows whose
-- lock the commit holds.
pub record PartsFit (phase : Phase) (g : GatePart) (slots : ℕ → SlotPart) : Type 0 where
  pub numbered : (file : ℕ) → file ≢ directory_file → (slots file).view.file ≡ file
  pub fits : (file : ℕ) → IsObjectFile file → SlotFits g.view (slots file).view
  pub putting : (h : Held) → g.putting ≡ Some h → IsTrusted phase h.entry.file → Shows phase.keys (slots h.entry.file).file h.entry h.object

-- Each part has its own fact, and they fit.
pub record PartsHold (phase : Phase) (p : Parts) : Type 0 where
  pub gate : GateHolds phase p.gate
  pub slots : (file : ℕ) → file ≢ directory_file → SlotHolds phase.keys (p.slots file)
  pub fit : PartsFit phase p.gate p.slots
  pub honest : (file : ℕ) → IsTrusted phase file → IsTrue (files_of p.gate p.slots file).honest

-- Such parts are a state of the core machine of which holds what every step of it keeps, where the history is legal.
abbrev pub PartsAreACore : Type 0
PartsAreACore = (phase : Phase) (p : Parts) → PartsHold phase p → IsLegalFrom phase.tampered (opening phase.begins) p.gate.view.all → Holds phase (core_of p.gate p.slots)
