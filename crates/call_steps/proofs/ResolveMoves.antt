-- A doubt that is resolved behind the lock is one that the gate's part resolves.
use Rattle.std.proofs.Common.{◌≡◌, ℕ, List, Option, Some, Result, Ok, Err, refl, sym, ap, ◌∙◌, subst}
use Rattle.tee_types.specs.declared.reply.Cause.{Cause}
use Rattle.commit_gate.specs.View.{DirView}
use Rattle.dir_records.specs.declared.entry.DirEntry.{DirEntry}
use Rattle.history_seats.specs.Views.{GateView}
use Rattle.commit_gate.specs.declared.DoubtedChange.{DoubtedChange}
use Rattle.commit_gate.specs.declared.Resolved.{Resolved}
use Rattle.commit_gate.specs.declared.Resolved.TheVariants.{Landed, Dropped}
use Rattle.commit_gate.specs.Gates.{gate_sides}
use Rattle.commit_gate.specs.Holds.{AreHolds}
use Rattle.commit_gate.specs.Resolving.{LeavesDoubt, Resolves, ResolvesHolds}
use Rattle.commit_gate.specs.Sides.{Sides}
use Rattle.commit_gate.proofs.HoldLists.{holds_after}
use Rattle.commit_gate.proofs.Resolutions.{holds_fewer}
use Rattle.commit_gate.specs.Readings.{AreDoubtsRead, IsDoubtRead}
use Rattle.commit_gate.specs.Resolves.{doubt_resolved, view_resolved}
use Rattle.commit_gate.specs.Resting.{IsGateOf, StepsTo, resting_part}
use Rattle.commit_gate.proofs.ResolveSteps.{resolves_are_steps}
use Rattle.commit_gate.specs.Settled.{view_settled}
use Rattle.call_steps.specs.ResolveMoves.{ResolvedDoubtsAreSteps}
use Rattle.call_steps.proofs.Resting.{tied_under}

same_view : (result : Result Resolved Cause) (view : GateView) → view_settled result view ≡ view_resolved result view
same_view (Ok (Landed n)) view = refl
same_view (Ok (Dropped n)) view = refl
same_view (Err cause) view = refl

doubt_is : (d : DoubtedChange) (old new : Option DoubtedChange) (result : Result Resolved Cause) → old ≡ Some d → LeavesDoubt old new result → new ≡ doubt_resolved d result
doubt_is d old new (Ok how) in_doubt left = left
doubt_is d old new (Err cause) in_doubt left = left ∙ in_doubt

-- the holds are apart from the entries behind it, too
still_held : (old new : Sides) (d : DoubtedChange) (before after : List (Option ℕ)) (result : Result Resolved Cause) → AreHolds old.dir.entries before → Resolves old new d result
    → ResolvesHolds d result before after → AreHolds new.dir.entries after
still_held old new d before after (Ok (Landed n)) held is ends =
    subst (λ (l : List (Option DirEntry)). AreHolds l after) (sym is.entries) (holds_after old.dir.entries before after d.change held ends)
still_held old new d before after (Ok (Dropped n)) held is ends =
    subst (λ (l : List (Option DirEntry)). AreHolds l after) (sym (ap (λ (v : DirView). v.entries) is.same)) (holds_fewer old.dir.entries before after d.change held ends)
still_held old new d before after (Err cause) held is ends =
    subst (λ (x : List (Option DirEntry) × List (Option ℕ)). AreHolds x.0 x.1) (λ i. (sym (ap (λ (s : Sides). s.dir.entries) is.same) i, sym ends i)) held

pub resolved_doubts_are_steps : (F R : Type 0) → ResolvedDoubtsAreSteps F R
resolved_doubts_are_steps F R of_file of_port store scenario handed old new card d result p answered r =
    let was : Sides = gate_sides of_file of_port old.gate in
    let now : Sides = gate_sides of_file of_port new.gate in
    let gate : IsGateOf store was (Some d) old.gate.holds card = subst (λ (o : Option DoubtedChange). IsGateOf store was o old.gate.holds card) r.in_doubt p.gate in
    let read : IsDoubtRead store scenario old.journal.knows was.dir.entries d =
    subst (λ (o : Option DoubtedChange). AreDoubtsRead store scenario old.journal.knows was.dir.entries o) r.in_doubt (tied_under of_file of_port store scenario old card p answered).doubts in
    subst (λ (x : Option DoubtedChange × Option DoubtedChange × GateView). StepsTo store scenario handed (resting_part store scenario was x.0 old.gate.holds card old.journal.knows) now x.1 new.gate.holds x.2)
    (λ i. (sym r.in_doubt i, sym (doubt_is d old.gate.doubt new.gate.doubt result r.in_doubt r.doubt) i, sym (r.knows ∙ same_view result old.journal.knows) i))
    (resolves_are_steps store scenario handed was now d result old.gate.holds new.gate.holds card old.journal.knows gate read
    (record {
      resolves = r.resolves;
      file = r.file;
      key = r.guarded.card_key ∙ sym p.guarded.card_key;
      card = r.card;
      counter = r.counter;
      ends = r.holds;
      held = still_held was now d old.gate.holds new.gate.holds result p.gate.held r.resolves r.holds;
    }))
