-- A commit that is brought with its slot is one of the gate's part, with its event.
use Rattle.std.proofs.Common.{◌≡◌, ◌==◌, ◌||◌, ℕ, Bool, true, false, true≢false, List, [], ◌∷◌, inl, inr, IsTrue, Option, Some, refl, sym, ap, ◌∙◌, subst}
use Rattle.std.specs.Prelude.{◌⊎◌, Contains}
use Rattle.std.proofs.lemmas.Bool.{cases_Bool, eq-eqb, eqb-true}
use Rattle.std.proofs.lemmas.Map.Views.{Contains-from_any}
use Rattle.disk_model.specs.State.{FileState}
use Rattle.rpmb_card.specs.Card.{CardState}
use Rattle.rpmb_card.specs.Port.{PortState}
use Rattle.tee_types.specs.declared.call.Call.{Call}
use Rattle.tee_types.specs.declared.reply.Reply.{Reply}
use Rattle.store_model.specs.Legal.{IsLegalEvent}
use Rattle.store_model.specs.Record.{Tag, file_of}
use Rattle.store_model.specs.ReplayState.{ReplayState}
use Rattle.commit_gate.specs.View.{DirView}
use Rattle.dir_records.specs.declared.entry.DirEntry.{DirEntry}
use Rattle.history_seats.specs.Changes.{TagVersions, with_record, call_record}
use Rattle.history_seats.specs.Numbers.{is_in}
use Rattle.history_seats.specs.Records.{HistoryRecord, Version}
use Rattle.history_seats.specs.Views.{GateView, SlotView}
use Rattle.crash_core.specs.CoreState.{IsTrusted}
use Rattle.crash_core.specs.EntryChanges.{IsChange}
use Rattle.core_laws.proofs.Contained.{contains_cases, contains_none}
use Rattle.core_laws.specs.Answered.{AreAnswered}
use Rattle.core_laws.specs.TamperScenarios.{TamperScenario}
use Rattle.core_laws.specs.Stores.{Store, replay_at}
use Rattle.commit_gate.specs.declared.CommitEnd.{CommitEnd}
use Rattle.commit_gate.specs.declared.CommitEnd.TheVariants.{Made, Dropped, Doubtful, Spent}
use Rattle.commit_gate.specs.declared.EntryChange.{EntryChange}
use Rattle.commit_gate.specs.declared.DoubtedChange.{DoubtedChange}
use Rattle.commit_gate.specs.Ends.{Leaves}
use Rattle.commit_gate.specs.Gates.{LeavesHolds, gate_sides}
use Rattle.commit_gate.specs.Holds.{AreHolds}
use Rattle.commit_gate.specs.Sides.{Sides}
use Rattle.commit_gate.proofs.HoldLists.{holds_after}
use Rattle.object_slots.specs.SlotValues.{SlotValue}
use Rattle.commit_gate.specs.CallerSessions.{CallerSession}
use Rattle.core_laws.specs.CommitMaps.{IsCommitUnder}
use Rattle.core_laws.specs.Ties.{MakesEntries}
use Rattle.core_laws.proofs.Told.{tied_make}
use Rattle.commit_gate.specs.CommitSteps.{IsForCall, IsGateCommit}
use Rattle.commit_gate.specs.FinishedPhases.{phase_under}
use Rattle.commit_gate.specs.Resting.{IsGateOf, StepsTo, resting_part}
use Rattle.commit_gate.proofs.CommitSteps.{commits_are_steps}
use Rattle.commit_gate.specs.declared.placed_reply.PlacedReply.{PlacedReply}
use Rattle.commit_gate.specs.Commits.{EndsUnder, IsDueUnder, tag_of}
use Rattle.commit_gate.specs.GateEnds.{mark_told, reply_told}
use Rattle.commit_gate.specs.GuardedGates.{GuardedGateValue}
use Rattle.call_steps.specs.CommitMoves.{BringsCommit, ObjectCommitsAreSteps, handed_slot}
use Rattle.call_steps.specs.ServiceCores.{IsDirectoryHonest, IsPart, StepsOn}
use Rattle.call_steps.specs.HandedSlots.{IsHandedFor}
use Rattle.call_steps.proofs.Shown.{handed_slots_show}

-- a number that a list contains is in it
contains-in : (n : ℕ) (numbers : List ℕ) → Contains numbers n → is_in n numbers ≡ true
contains-in n [] there = absurd (contains_none n there)
contains-in n (m ∷ numbers) there = elim (contains_cases m n numbers there) [
  | inl same ↦ ap (λ (b : Bool). b || is_in n numbers) (eq-eqb m n same)
  | inr later ↦ by_test (m == n) (contains-in n numbers later)
]
  where
    by_test : (b : Bool) → is_in n numbers ≡ true → (b || is_in n numbers) ≡ true
    by_test true found = refl
    by_test false found = found

-- the holds are apart from the entries behind it, too
still_held : (old new : Sides) (change : EntryChange) (end : CommitEnd) (before after : List (Option ℕ)) → AreHolds old.dir.entries before → Leaves old new change end
    → LeavesHolds change end before after → AreHolds new.dir.entries after
still_held old new change (Made n) before after held left ends =
    subst (λ (l : List (Option DirEntry)). AreHolds l after) (sym left.entries) (holds_after old.dir.entries before after change held ends)
still_held old new change (Dropped cause) before after held left ends =
    subst (λ (x : List (Option DirEntry) × List (Option ℕ)). AreHolds x.0 x.1) (λ i. (sym (ap (λ (v : DirView). v.entries) left.same) i, sym ends i)) held
still_held old new change (Doubtful n cause) before after held left ends =
    subst (λ (x : List (Option DirEntry) × List (Option ℕ)). AreHolds x.0 x.1) (λ i. (sym (ap (λ (v : DirView). v.entries) left.same) i, sym ends i)) held
still_held old new change Spent before after held left ends =
    subst (λ (x : List (Option DirEntry) × List (Option ℕ)). AreHolds x.0 x.1) (λ i. (sym (ap (λ (s : Sides). s.dir.entries) left.same) i, sym ends i)) held

module _ {F R E : Type 0} (of_file : F → FileState) (of_port : R → PortState) (store : Store) (scenario : TamperScenario) (old new : GuardedGateValue F R) (slot : SlotValue) (was now : CallerSession E)
    (call : Call) (own : Reply) (change : EntryChange) (versions : TagVersions) (Reliable : Type 0) (drew draws : ℕ) (answer : PlacedReply) (card : CardState) (p : IsPart of_file of_port store old card)
    (answered : AreAnswered store scenario old.journal.knows.all) (b : BringsCommit of_file of_port store old new slot was now call own change versions Reliable drew draws answer)
    (legal : IsLegalEvent scenario.tampered (replay_at store scenario old.journal.knows.all) b.committed.last.event (file_of b.committed.last))
    (honest : IsDirectoryHonest of_file of_port store scenario new) (slot_honest : IsTrusted (phase_under store scenario) slot.number → IsTrue slot.file.honest) where
  abbrev before : Sides
  before = gate_sides of_file of_port old.gate

  abbrev after : Sides
  after = gate_sides of_file of_port new.gate

  abbrev view : GateView
  view = old.journal.knows

  abbrev here : ReplayState
  here = replay_at store scenario view.all

  abbrev seat : SlotView
  seat = b.committable.seat.knows

  abbrev end : CommitEnd
  end = b.committed.end

  abbrev tag : Tag Version
  tag = tag_of seat versions

  abbrev Ends : Type 0
  Ends = EndsUnder store scenario view.all was.number was.made call own seat

  -- under the tamper scenario the machine commits the call, or the promises end there
  due_or_ends : IsDueUnder store scenario view.all was.number call own change tag ⊎ Ends
  due_or_ends = elim (cases_Bool (is_in seat.file scenario.tampered)) [
    | inl among ↦ b.committable.commit.ready.due scenario answered (Contains-from_any {eq = λ (q m : ℕ). m == q} (λ x y e. sym (eqb-true y x e)) seat.file scenario.tampered among)
    | inr off ↦
        let trusted : IsTrusted (phase_under store scenario) slot.number =
        subst (IsTrusted (phase_under store scenario)) b.committable.number (λ there. true≢false (sym (contains-in seat.file scenario.tampered there) ∙ off)) in
        inl (b.committable.commit.honest (slot_honest trusted) scenario answered off)
  ]

  -- the event of the commit is the last of the history
  event_is : call_record was.number was.made call (reply_told end own) (mark_told end) b.committed.last.tag ≡ b.committed.last
  event_is = λ i. record {
    event = sym b.committed.event i;
    tag = b.committed.last.tag;
  }

  gate_commit : IsGateCommit before after change end old.gate.holds new.gate.holds
  gate_commit = record {
    leaves = b.committed.gate.leaves;
    throughout = b.committed.gate.throughout;
    steps = b.committed.gate.steps;
    ends = b.committed.gate.holds;
    held = still_held before after change end old.gate.holds new.gate.holds p.gate.held b.committed.gate.leaves b.committed.gate.holds;
    sound = b.sound;
  }

  handed_for : IsHandedFor store scenario (handed_slot slot) tag
  handed_for = record { file = sym b.committable.number; sound = b.slot_sound; honest = slot_honest; stands = b.committable.committable.stands }

  module _ (due : IsDueUnder store scenario view.all was.number call own change tag) where
    commit_under : IsCommitUnder store scenario view before.dir.entries before.counter was.number call change tag tag.doubted
    commit_under = record {
      answered = answered;
      mapped = (p.guarded.journal.in_step scenario answered).now;
      commit = b.committable.commit.ready.commit;
      due = due.due;
      on = b.committable.commit.ready.on scenario answered;
      object = due.object;
    }

    made : MakesEntries here was.number call before.dir.entries change
    made =
        tied_make store scenario view before.dir.entries before.counter old.gate.doubt p.guarded.tied answered commit_under.mapped was.number call change tag tag.doubted
        commit_under.commit commit_under.on due.due

    enters : IsChange here.state.objects before.dir.entries before.counter made.made change made.object
    enters =
        subst (λ (n : ℕ). IsChange here.state.objects before.dir.entries n made.made change made.object) (p.guarded.tied.counter scenario answered) made.enters

    for_call : IsForCall store scenario (Some (handed_slot slot)) before view change was.number call
    for_call = record {
      due = due.due;
      made = made.made;
      makes = made.makes;
      object = made.object;
      enters = enters;
      shows = handed_slots_show store scenario view before.dir.entries before.counter old.gate.doubt was.number call change tag (handed_slot slot) made.made
          made.object p.guarded.tied commit_under handed_for made.makes enters;
    }

    pub steps_on : StepsOn of_file of_port store scenario (Some (handed_slot slot)) old card new
    steps_on =
        subst
        (λ (x : Option DoubtedChange × Option DoubtedChange × GateView). StepsTo store scenario (Some (handed_slot slot)) (resting_part store scenario before x.0 old.gate.holds card view) after x.1 new.gate.holds x.2)
        (λ i. (sym b.idle i, sym b.committed.gate.doubt i, (ap (λ (r : HistoryRecord). with_record r view) event_is ∙ sym b.committed.knows) i))
        (commits_are_steps store scenario (Some (handed_slot slot)) before after change end old.gate.holds new.gate.holds card view was.number was.made call (reply_told end own) b.committed.last.tag
        (subst (λ (o : Option DoubtedChange). IsGateOf store before o old.gate.holds card) b.idle p.gate) gate_commit for_call honest
        (subst (λ (r : HistoryRecord). IsLegalEvent scenario.tampered here r.event (file_of {Root = Version} r)) (sym event_is) legal))

  pub committable : StepsOn of_file of_port store scenario (Some (handed_slot slot)) old card new ⊎ Ends
  committable = elim due_or_ends [
    | inl due ↦ inl (steps_on due)
    | inr ends ↦ inr ends
  ]

pub object_commits_are_steps : (F R E : Type 0) (reliable : E → Type 0) (faults : E → ℕ) → ObjectCommitsAreSteps F R E reliable faults
object_commits_are_steps F R E reliable faults of_file of_port store scenario old new slot was now call own change versions answer card p answered b legal honest slot_honest =
    committable of_file of_port store scenario old new slot was now call own change versions (reliable was.entropy) (faults was.entropy) (faults now.entropy) answer card p answered b legal honest slot_honest
