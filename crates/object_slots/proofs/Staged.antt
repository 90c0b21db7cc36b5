-- A locked slot after a change of its object's data was staged, or was refused.
use Rattle.std.proofs.Common.{◌≡◌, ◌∙◌, ℕ, Option, Some, None, IsTrue, inl, refl, sym, ap, subst}
use Rattle.disk_model.specs.State.{FileState, Sound as SoundFile}
use Rattle.disk_model.specs.Keeps.{Keeps, Runs}
use Rattle.node_image.specs.declared.node.RootRef.{RootRef}
use Rattle.htree_file.specs.Selected.{Lies}
use Rattle.history_seats.specs.Records.{Version}
use Rattle.history_seats.specs.Settling.{calm}
use Rattle.history_seats.specs.Views.{Sight, SlotView}
use Rattle.core_laws.specs.Masked.{StandsMasked}
use Rattle.core_laws.proofs.MaskedBytes.{stands_later}
use Rattle.object_slots.proofs.MaskedObjects.{object_runs}
use Rattle.core_laws.specs.SlotParts.{SlotHolds, VersionStands}
use Rattle.core_laws.specs.SlotSteps.{KnowsOne, Stager}
use Rattle.core_laws.proofs.SlotRuns.{run_holds}
use Rattle.core_laws.specs.Stores.{Store}
use Rattle.object_slots.specs.SlotCalls.{StageSteps, part}
use Rattle.object_slots.specs.SlotValues.{HeldObject}
use Rattle.object_slots.specs.SlotObjects.{IsObjectOf}
use Rattle.object_slots.specs.KnownFor.{own_version}
use Rattle.object_slots.specs.GuardedSlots.{IsSlotOf}
use Rattle.object_slots.proofs.Contents.{file_moves, some_same}
use Rattle.object_slots.proofs.KnownOnes.{known_one}
use Rattle.object_slots.proofs.Stays.{object_stays, run_stands}

-- A slot of the store, whose view gives the version of its object, and a run of calls off the object's tree.
module _ (store : Store) (number : ℕ) (old new : FileState) (seat : Sight SlotView) (o : HeldObject) (v : Version) (own : IsSlotOf store number old seat)
    (gives : own_version seat.knows ≡ calm (Some v)) (is : IsObjectOf store.keys old o v) (steps : StageSteps old new o) (keeps : Keeps (Lies o.tree.tree.layout o.tree.tree.nodes o.tree.root.version) old new) where
  knows_one : IsTrue old.honest → KnowsOne o.tree.root o.tree.tree seat.knows
  knows_one honest w known =
      let one : v ≡ w = some_same v w (known_one seat.knows (Some v) gives own.single w known) in
      (ap (λ (x : Version). x.root) (sym one) ∙ is.root, ap (λ (x : Version). x.loads) (sym one) ∙ is.loads honest)

  stage_holds : (stage : Option ℕ) → SlotHolds store.keys (part new seat.knows stage)
  stage_holds stage =
      let s = steps 0 seat.knows None (inl refl) knows_one in
      let h = run_holds (Stager 0) store.keys (part old seat.knows None) s.1.steps (part new seat.knows s.0) (own.holds None) s.1.run in
      record { sound = h.sound; stands = h.stands }

  -- the file is the store's still
  pub own_stays : IsSlotOf store number new seat
  own_stays =
      file_moves store number old new seat keeps.goes_on stage_holds
      (λ w known.
      subst (StandsMasked store.keys new) (some_same v w (known_one seat.knows (Some v) gives own.single w known))
      (stands_later store.keys old new v keeps.goes_on
      (λ taints tree told one. object_runs store.keys old new keeps.goes_on o v is keeps.run taints tree told one) is.bytes))
      own

  pub version_keeps : IsTrue new.honest → VersionStands store.keys new v
  version_keeps honest =
      let was : IsTrue old.honest = keeps.goes_on.honest honest in
      let run : Runs (Lies o.tree.tree.layout o.tree.tree.nodes v.root.version) old new = subst (λ (r : RootRef). Runs (Lies o.tree.tree.layout o.tree.tree.nodes r.version) old new) (sym is.root) keeps.run in
      run_stands store.keys v o.tree.tree (is.loads was) old run.calls new run.run own_stays_sound honest (is.stands was)
    where
      own_stays_sound : SoundFile new
      own_stays_sound = (stage_holds None).sound

  -- and the object is of its version still
  pub object_keeps : IsObjectOf store.keys new o v
  object_keeps = object_stays store.keys old new o v (stage_holds None).sound keeps.run version_keeps is
