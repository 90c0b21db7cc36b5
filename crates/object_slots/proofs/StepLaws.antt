-- Calls of a slot's file as steps of the slot.
use Rattle.std.proofs.Common.{[], ◌∷◌, refl}
use Rattle.disk_model.specs.State.{FileState, Sound}
use Rattle.disk_model.specs.Calls.{Rests}
use Rattle.disk_model.specs.Keeps.{Keeps, rest}
use Rattle.htree_file.specs.Making.{Nowhere}
use Rattle.htree_file.specs.Selected.{Lies}
use Rattle.core_laws.specs.SlotSteps.{CallFile, Stager, Taker}
use Rattle.core_laws.proofs.FileRuns.{file_runs_are_steps, kept_steps}
use Rattle.object_slots.specs.SlotCalls.{ReadSteps, StageSteps, TakerSteps, part}
use Rattle.object_slots.specs.SlotValues.{HeldObject}

pub read_steps : (old new : FileState) → Sound new → Rests old new → ReadSteps old new
read_steps old new sound rests view stage =
    record { steps = CallFile rest ∷ []; run = (part new view stage, record { called = rests; sound = sound; spares = λ honest. tt; stage = refl; view = refl }, refl) }

pub stage_steps : (old new : FileState) (o : HeldObject) → Sound new → Keeps (Lies o.tree.tree.layout o.tree.tree.nodes o.tree.root.version) old new → StageSteps old new o
stage_steps old new o sound keeps actor view stage may knows = file_runs_are_steps (Stager actor) (part old view stage) o.tree.root o.tree.tree new may knows keeps.run sound

pub taker_steps : (old new : FileState) → Sound new → Keeps Nowhere old new → TakerSteps old new
taker_steps old new sound keeps actor view stage none = kept_steps Nowhere (Taker actor) (part old view stage) new tt (λ honest v known. absurd (none honest v known)) keeps.run sound
