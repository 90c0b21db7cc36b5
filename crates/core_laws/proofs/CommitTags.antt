-- The tag of a commit is its object's file, whatever the reply is.
use Rattle.std.proofs.Common.{◌≡◌, ℕ, false, Option, Some, None, List, option_map, refl, sym, ap, ◌∙◌, subst}
use Rattle.tee_types.specs.declared.call.Call.{Call}
use Rattle.tee_types.specs.declared.call.Call.TheVariants.{Create, Delete, Rename, Truncate, Write}
use Rattle.tee_types.specs.declared.reply.Reply.{Reply}
use Rattle.store_model.specs.declared.event.Mark.{Mark}
use Rattle.store_model.specs.declared.name.ObjectName.{ObjectName}
use Rattle.store_model.specs.declared.session.Handle.{Handle}
use Rattle.store_model.specs.Files.{makes_object, name_by, object_named}
use Rattle.store_model.specs.Legal.{IsTagged, meant_by}
use Rattle.store_model.specs.Record.{Tag, fault_in_reply}
use Rattle.store_model.specs.ReplayState.{ReplayState}
use Rattle.dir_records.specs.declared.entry.DirEntry.{DirEntry}
use Rattle.history_seats.specs.Records.{Version}
use Rattle.history_seats.specs.Views.{GateView}
use Rattle.crash_core.specs.Entries.{name_of}
use Rattle.crash_core.specs.declared.change.EntryChange.{EntryChange}
use Rattle.crash_core.specs.declared.change.EntryChange.TheVariants.{Clear, Put}
use Rattle.crash_core.specs.declared.change.DoubtedChange.{DoubtedChange}
use Rattle.core_laws.specs.Listed.{history_entry}
use Rattle.core_laws.specs.TamperScenarios.{TamperScenario}
use Rattle.core_laws.specs.Stores.{Store, replay_at}
use Rattle.core_laws.proofs.CallSessions.{entries_tag, free_tag}
use Rattle.core_laws.proofs.Mending.{none_some, some_same}
use Rattle.core_laws.specs.MachineChanges.{IsAtHand}
use Rattle.core_laws.specs.OwnEntries.{AreTold}
use Rattle.core_laws.specs.Ties.{IsTied}
use Rattle.core_laws.specs.CommitMaps.{IsCommitUnder}
use Rattle.core_laws.proofs.Told.{tied_tell}

module _ (store : Store) (scenario : TamperScenario) (view : GateView) (entries : List (Option DirEntry)) (counter : ℕ) (doubt : Option DoubtedChange) (tied : IsTied store view entries counter doubt) (session : ℕ)
    (tag : Tag Version) (reply : Reply) (mark : Mark) (none : fault_in_reply reply ≡ None) where
  abbrev s : ReplayState
  s = replay_at store scenario view.all

  -- a call on the object of an entry
  own_tag : (call : Call) (handle index : ℕ) (told : AreTold store scenario view entries) (own : IsAtHand s.state session handle entries index) → object_named s.state session call ≡ name_by s.state session handle
      → makes_object call (meant_by s session call) ≡ false → own.entry.file ≡ tag.file → IsTagged s session call reply mark (Some tag.file)
  own_tag call handle index told own names makes file =
      let called : name_by s.state session handle ≡ Some (name_of own.entry) = ap (option_map (λ (h : Handle). h.name)) own.live ∙ ap (λ (n : ObjectName). Some n) own.named in
      subst (λ (n : ℕ). IsTagged s session call reply mark (Some n)) file
      (entries_tag store scenario view.all session call reply mark (name_of own.entry) (history_entry own.entry) told.mapped
      (names ∙ called) (told.facts.each index own.entry own.at).named makes
      (λ n is. absurd (none_some n (sym none ∙ is))))

  told_tag : (call : Call) (change : EntryChange) (left : Option Version) (told : AreTold store scenario view entries) → IsCommitUnder store scenario view entries counter session call change tag left
      → IsTagged s session call reply mark (Some tag.file)
  told_tag (Create id flags attributes bytes) (Put index e) left told c =
      free_tag store scenario view.all session (Create id flags attributes bytes) reply mark tag.file told.mapped
      (λ name x is same. told.lacked.file e.file c.commit.makes.fresh name x is (same ∙ c.commit.tagged.file)) c.due
      (λ n is. absurd (none_some n (sym none ∙ is)))
  told_tag (Write handle bytes) (Put index e) left told c =
      let next = c.commit.makes in
      let own = c.on.0 in
      let same : next.was.entry ≡ own.entry = some_same next.was.entry own.entry (sym next.was.at ∙ own.at) in
      own_tag (Write handle bytes) handle index told own refl refl (sym (c.commit.tagged.file ∙ next.file ∙ ap (λ (x : DirEntry). x.file) same))
  told_tag (Truncate handle size) (Put index e) left told c =
      let next = c.commit.makes in
      let own = c.on.0 in
      let same : next.was.entry ≡ own.entry = some_same next.was.entry own.entry (sym next.was.at ∙ own.at) in
      own_tag (Truncate handle size) handle index told own refl refl (sym (c.commit.tagged.file ∙ next.file ∙ ap (λ (x : DirEntry). x.file) same))
  told_tag (Rename handle id) (Put index e) left told c =
      let next = c.commit.makes.next in
      let own = c.on.0 in
      let same : next.was.entry ≡ own.entry = some_same next.was.entry own.entry (sym next.was.at ∙ own.at) in
      own_tag (Rename handle id) handle index told own refl refl (sym (c.commit.tagged.file ∙ next.file ∙ ap (λ (x : DirEntry). x.file) same))
  told_tag (Delete handle) (Clear index) left told c =
      let own = c.on in
      own_tag (Delete handle) handle index told own refl refl (sym (c.commit.tagged own.entry own.at).file)
  told_tag call change left told c = absurd c.commit.makes

  pub commit_tagged : (call : Call) (change : EntryChange) (left : Option Version) → IsCommitUnder store scenario view entries counter session call change tag left
      → IsTagged s session call reply mark (Some tag.file)
  commit_tagged call change left c = told_tag call change left (tied_tell store scenario view entries counter doubt tied c.commit.before c.answered c.mapped) c
