-- What always holds of the gate holds behind each end of a ready commit.
use Rattle.std.proofs.Common.{◌≡◌, ◌≤◌, ◌<◌, ℕ, true, Option, None, length, refl, sym, ap, ◌∙◌, subst}
use Rattle.tee_types.specs.declared.call.Call.{Call}
use Rattle.tee_types.specs.declared.reply.Reply.{Reply}
use Rattle.tee_types.specs.declared.reply.Reply.TheVariants.{CounterSpent, NotAvailable}
use Rattle.disk_model.specs.State.{FileState}
use Rattle.rpmb_card.specs.Port.{PortState}
use Rattle.rpmb_card.specs.Protocol.{last_counter}
use Rattle.store_model.specs.ReplayState.{is_undone}
use Rattle.open_table.specs.Table.{TableState}
use Rattle.store_commit.specs.View.{DirView}
use Rattle.history_seats.specs.Changes.{TagVersions, with_record}
use Rattle.history_seats.specs.Views.{GateView, SlotView}
use Rattle.core_laws.specs.Stores.{Store}
use Rattle.commit_gate.specs.Journals.{IsJournal}
use Rattle.crash_core.specs.declared.change.EntryChange.{EntryChange}
use Rattle.store_commit.specs.declared.change.CommitEnd.{CommitEnd}
use Rattle.store_commit.specs.declared.change.CommitEnd.TheVariants.{Made, Dropped, Doubtful, Spent}
use Rattle.store_commit.specs.Ends.{Leaves, Throughout}
use Rattle.store_commit.specs.Gates.{GateValue, doubt_left, gate_sides}
use Rattle.open_table.specs.HandleChanges.{NotesReply}
use Rattle.store_commit.specs.Sides.{Sides}
use Rattle.commit_gate.specs.declared.guarded_gate.Closing.{Closing}
use Rattle.commit_gate.specs.Commits.{IsReadyCommit}
use Rattle.commit_gate.specs.GateEnds.{HandlesBehind, closing_behind, end_record}
use Rattle.commit_gate.specs.GuardedGates.{GateInvariant}
use Rattle.commit_gate.proofs.CommitGates.{doubtful_guarded, made_guarded}
use Rattle.commit_gate.proofs.ReadyCommits.{unmade, unmade_guarded}
use Rattle.commit_gate.proofs.DoubtResolving.{same-guarded}

module _ {F R : Type 0} (file : F → FileState) (port : R → PortState) (store : Store) (old mid new : GateValue F R) (view : GateView) (closing : Option Closing)
    (guarded : GateInvariant store old view closing) (idle : old.doubt ≡ None) (within : view.decided ≤ length view.all) (session number : ℕ)
    (known : session < length store.mounted.applications) (call : Call) (reply : Reply) (change : EntryChange) (slot : SlotView) (versions : TagVersions)
    (ready : IsReadyCommit store view old.dir.dir.entries old.counter session number call reply change slot versions)
    (through : Throughout (gate_sides file port old) (gate_sides file port mid)) (handles : mid.open_handles ≡ old.open_handles)
    (same : new ≡ record mid { open_handles = new.open_handles }) where
  abbrev same_entries : new.dir.dir.entries ≡ mid.dir.dir.entries
  same_entries = ap (λ (g : GateValue F R). g.dir.dir.entries) same

  key_stays : new.host.key ≡ old.host.key
  key_stays = ap (λ (g : GateValue F R). g.host.key) same ∙ through.key

  -- where the gate is as it was, a call that was not done leaves what always holds
  undone : (why : Reply) → is_undone why ≡ true → mid.dir.dir ≡ old.dir.dir → mid.counter ≡ old.counter → mid.doubt ≡ None → new.open_handles ≡ mid.open_handles
      → IsJournal store (with_record (unmade store view session number call why slot versions) view)
      → GateInvariant store new (with_record (unmade store view session number call why slot versions) view) closing
  undone why is dir counted none left journal =
      let calm : new.doubt ≡ None = ap (λ (g : GateValue F R). g.doubt) same ∙ none in
      unmade_guarded store new view closing
      (same-guarded store old new view closing (ap (λ (g : GateValue F R). g.dir.dir) same ∙ dir) (ap (λ (g : GateValue F R). g.counter) same ∙ counted) (calm ∙ sym idle) (left ∙ handles) key_stays guarded)
      calm session number call why slot versions known is ready.given journal

  pub ended_guarded : (end : CommitEnd) → Leaves (gate_sides file port old) (gate_sides file port mid) change end → mid.doubt ≡ doubt_left change end
      → HandlesBehind end mid.open_handles new.open_handles slot.file session call reply
      → IsJournal store (with_record (end_record end session number call reply slot versions) view)
      → GateInvariant store new (with_record (end_record end session number call reply slot versions) view) (closing_behind end session call closing)
  ended_guarded (Made n) leaves doubt noted journal =
      made_guarded store old new view closing guarded idle within session number known call reply change slot versions ready n
      (same_entries ∙ leaves.entries) (ap (λ (g : GateValue F R). g.counter) same ∙ leaves.counted) (ap (λ (g : GateValue F R). g.doubt) same ∙ doubt)
      (subst (λ (t : TableState). NotesReply t new.open_handles slot.file session call reply) handles noted)
      (ap (λ (g : GateValue F R). g.dir.dir.tsk) same ∙ leaves.tsk) (ap (λ (g : GateValue F R). g.dir.dir.root.format) same ∙ leaves.format) key_stays journal
  ended_guarded (Doubtful n cause) leaves doubt noted journal =
      doubtful_guarded store old new view closing guarded idle within session number known call reply change slot versions ready cause n
      (same_entries ∙ ap (λ (d : DirView). d.entries) leaves.same) (ap (λ (g : GateValue F R). g.counter) same ∙ leaves.counted) (ap (λ (g : GateValue F R). g.doubt) same ∙ doubt)
      (noted ∙ handles) (ap (λ (g : GateValue F R). g.dir.dir.tsk) same ∙ ap (λ (d : DirView). d.tsk) leaves.same)
      (ap (λ (g : GateValue F R). g.dir.dir.root.format) same ∙ ap (λ (d : DirView). d.root.format) leaves.same) key_stays journal
  ended_guarded (Dropped cause) leaves doubt noted journal = undone (NotAvailable cause) refl leaves.same leaves.counted doubt noted journal
  ended_guarded Spent leaves doubt noted journal =
      undone (CounterSpent last_counter) refl (ap (λ (g : Sides). g.dir) leaves.same) (ap (λ (g : Sides). g.counter) leaves.same) doubt noted journal
