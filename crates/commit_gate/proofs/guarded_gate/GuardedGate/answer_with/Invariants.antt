-- The tag names the version that is given.
use Rattle.std.specs.Prelude.{Option, Some, None}
use Rattle.history_seats.specs.Changes.{TagVersions}
use Rattle.history_seats.specs.Views.{GateView, Sight, SlotView}
use Rattle.core_laws.specs.Stores.{Store}
use Rattle.commit_gate.specs.Journals.{no_versions}
use Rattle.commit_gate.specs.SlotAnswers.{versions_given}
use Rattle.commit_gate.proofs.guarded_gate.GuardedGate.answer_with.Given as goal

abbrev pub seat_versions : Store → GateView → Option (Sight SlotView) → TagVersions
seat_versions store knows None = no_versions
seat_versions store knows (Some slot) = versions_given store knows slot.knows

abbrev pub ghosts-append_call : goal.ghosts-append_call
ghosts-append_call g a = record { versions = seat_versions g.L.StoreName.store a.journal.now.knows a.slot }
