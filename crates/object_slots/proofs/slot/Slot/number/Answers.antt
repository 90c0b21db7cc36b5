use Rattle.std.proofs.Common.{ap, subst}
use Rattle.disk_model.specs.State.{FileState, Sound}
use Rattle.object_slots.specs.SlotValues.{SlotValue}
use Rattle.object_slots.proofs.ContentLaws.{sound_of}
use Rattle.object_slots.proofs.slot.Slot.number.Goals as goal

pub returns-clause-sound : goal.returns-clause-sound
returns-clause-sound g c =
    subst (λ (s : FileState). Sound s) (ap (λ (v : SlotValue). v.file) c.self.view_is)
    (sound_of g.F.StoreFile.state g.met.F.StoreFile.sound c.self.inside.content c.self.invariant.0)
