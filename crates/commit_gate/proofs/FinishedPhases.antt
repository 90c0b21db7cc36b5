-- At the end of a phase every picture mounts to what the history leaves, or the promises end at a first event.
use Rattle.std.proofs.Common.{inl, inr}
use Rattle.core_laws.proofs.Narrowing.{all_answered}
use Rattle.commit_gate.specs.Finishing.{FinishedPhasesMount}
use Rattle.commit_gate.proofs.ClosedStores.{closed_stores_mount}
use Rattle.commit_gate.proofs.Ties.{ties_tell}

pub finished_phases_mount : FinishedPhasesMount
finished_phases_mount store scenario g doubt holds card view slots f = elim (all_answered store scenario view.all (f.fair scenario) f.own_legal) [
  | inr ends ↦ inr ends
  | inl answered ↦ inl (
    answered,
    λ picture is trusted. closed_stores_mount store scenario g doubt holds card view slots picture
        (record {
          gate = f.gate;
          tied = ties_tell store scenario view g.dir.entries g.counter doubt f.mounted f.tied answered (f.in_step answered);
          slots_hold = f.slots_hold;
          tampered = f.tampered;
        })
        is trusted,
  )
]
