-- A commit that changes the gate's entries as its call does is legal, and keeps the map in step.
use Rattle.std.proofs.Common.{◌≡◌, ◌+◌, ◌<◌, ℕ, true, false, true≢false, List, [], ◌∷◌, ◌++◌, length, Option, None, refl, sym, ap, ◌∙◌, subst, arith, Some}
use Rattle.history_seats.specs.Changes.{call_record}
use Rattle.std.specs.Prelude.{◌^◌}
use Rattle.tee_types.specs.declared.call.Call.{Call}
use Rattle.tee_types.specs.declared.call.Call.TheVariants.{Create, Delete, Rename, Truncate, Write}
use Rattle.tee_types.specs.declared.reply.Cause.{Cause}
use Rattle.tee_types.specs.declared.reply.Reply.{Reply}
use Rattle.tee_types.specs.declared.reply.Reply.TheVariants.{NotAvailable}
use Rattle.store_model.specs.declared.event.Mark.TheVariants.{Made, Doubtful}
use Rattle.store_model.specs.Calls.{is_commit_of, size_before}
use Rattle.store_model.specs.Legal.{Answered, Doubted, counter_after, mark_of, meant_by}
use Rattle.store_model.specs.Record.{Tag, fault_in_reply, file_at_fault}
use Rattle.store_model.specs.ReplayState.{ReplayState}
use Rattle.dir_records.specs.declared.entry.DirEntry.{DirEntry}
use Rattle.history_seats.specs.Records.{HistoryRecord, Version}
use Rattle.history_seats.specs.Directory.{given_version}
use Rattle.history_seats.specs.Tags.{HasRightTag}
use Rattle.history_seats.specs.Views.{GateView}
use Rattle.crash_core.specs.declared.change.EntryChange.{EntryChange}
use Rattle.crash_core.specs.declared.change.DoubtedChange.{DoubtedChange}
use Rattle.core_laws.specs.TamperScenarios.{TamperScenario}
use Rattle.core_laws.specs.Stores.{Store, replay_at}
use Rattle.core_laws.specs.Mapped.{IsMappedBoth}
use Rattle.core_laws.specs.CommitLaws.{commit_record}
use Rattle.core_laws.specs.EntryLaws.{EndsKeepMaps}
use Rattle.core_laws.specs.Answered.{AreAnswered, IsLegalAt}
use Rattle.core_laws.proofs.SessionSteps.{sessions_at}
use Rattle.core_laws.specs.Ties.{IsTied}
use Rattle.core_laws.specs.CommitMaps.{IsCommitUnder, place_of}
use Rattle.core_laws.specs.CommitAnswers.{CommitsAreLegal}
use Rattle.core_laws.proofs.CommitTags.{commit_tagged}
use Rattle.core_laws.proofs.MapsKept.{commits_keep}
use Rattle.core_laws.proofs.RightTags.{commits_right}

-- a reply of a device is no commit
no_device : (call : Call) (size : ℕ) (cause : Cause) → is_commit_of call size (NotAvailable cause) ≡ false
no_device (Create id flags attributes bytes) size cause = refl
no_device (Write handle bytes) size cause = refl
no_device (Truncate handle new) size cause = refl
no_device (Rename handle id) size cause = refl
no_device (Delete handle) size cause = refl
no_device call size cause = refl

no_fault : (call : Call) (size : ℕ) (reply : Reply) → is_commit_of call size reply ≡ true → fault_in_reply reply ≡ None
no_fault call size (NotAvailable cause) due = absurd (true≢false (sym due ∙ no_device call size cause))
no_fault call size reply due = refl

module _ (store : Store) (scenario : TamperScenario) (view : GateView) (entries : List (Option DirEntry)) (counter : ℕ) (doubt : Option DoubtedChange) (tied : IsTied store view entries counter doubt) (session number : ℕ)
    (tag : Tag Version) (declared : session < length store.mounted.applications) (fits : counter + 1 < 2 ^ 32) where
  abbrev all : List HistoryRecord
  all = view.all

  abbrev s : ReplayState
  s = replay_at store scenario all

  within : session < length s.state.sessions
  within = omega (arith, declared, sessions_at store scenario all)

  module _ (call : Call) (change : EntryChange) where
    counted : AreAnswered store scenario all → s.counter ≡ counter
    counted answered = tied.counter scenario answered

    made_legal : IsCommitUnder store scenario view entries counter session call change tag tag.committed → tag.doubted ≡ None
        → IsLegalAt store scenario all (call_record session number call (meant_by s session call) (Made (counter + 1)) (Some tag))
    made_legal c none =
        let reply = meant_by s session call in
        let r = call_record session number call reply (Made (counter + 1)) (Some tag) in
        let ends : EndsKeepMaps store scenario all session number call reply (place_of tag) tag.committed = commits_keep store scenario view entries counter doubt tied session number call reply change tag tag.committed c in
        let right : HasRightTag store.mounted all r = (commits_right store view entries counter doubt session number call reply (counter + 1) tag change tied).made c.commit none in
        let same : r ≡ commit_record session number call reply (Made (counter + 1)) (place_of tag) tag.committed None =
        λ i. call_record session number call reply (Made (counter + 1)) (Some (record tag { doubted = none i })) in
        let kept : IsMappedBoth store scenario 0 (all ++ r ∷ []) =
        subst (λ (x : HistoryRecord). HasRightTag store.mounted all x → IsMappedBoth store scenario 0 (all ++ x ∷ [])) (sym same) (ends.made (counter + 1)) right in
        record {
          legal = record {
            declared = within;
            tagged = commit_tagged store scenario view entries counter doubt tied session tag reply (Made (counter + 1)) (no_fault call (size_before s.state session call) reply c.due) call change tag.committed c;
            answer = Answered (record {
              replied = refl;
              marked = ap (λ (n : ℕ). Made (n + 1)) (sym (counted c.answered)) ∙ sym (ap (mark_of s.counter) c.due);
              counted = subst (λ (n : ℕ). n < 2 ^ 32) (ap (λ (n : ℕ). n + 1) (sym (counted c.answered)) ∙ sym (ap (counter_after s.counter) c.due)) fits;
            });
          };
          kept = λ commits_ mapped. kept;
        }

    doubtful_legal : IsCommitUnder store scenario view entries counter session call change tag tag.doubted → tag.committed ≡ given_version store.mounted all tag.file tag.generation
        → (cause : Cause) → file_at_fault cause ≡ None → IsLegalAt store scenario all (call_record session number call (NotAvailable cause) (Doubtful (counter + 1)) (Some tag))
    doubtful_legal c given cause none =
        let reply = NotAvailable cause in
        let r = call_record session number call reply (Doubtful (counter + 1)) (Some tag) in
        let ends : EndsKeepMaps store scenario all session number call reply (place_of tag) tag.doubted = commits_keep store scenario view entries counter doubt tied session number call reply change tag tag.doubted c in
        let right : HasRightTag store.mounted all r = (commits_right store view entries counter doubt session number call reply (counter + 1) tag change tied).doubtful c.commit given in
        let same : r ≡ commit_record session number call reply (Doubtful (counter + 1)) (place_of tag) (given_version store.mounted all tag.file tag.generation) tag.doubted =
        λ i. call_record session number call reply (Doubtful (counter + 1)) (Some (record tag { committed = given i })) in
        let kept : IsMappedBoth store scenario 0 (all ++ r ∷ []) =
        subst (λ (x : HistoryRecord). HasRightTag store.mounted all x → IsMappedBoth store scenario 0 (all ++ x ∷ [])) (sym same) (ends.doubtful (counter + 1)) right in
        record {
          legal = record {
            declared = within;
            tagged = commit_tagged store scenario view entries counter doubt tied session tag reply (Doubtful (counter + 1)) none call change tag.doubted c;
            answer = Doubted (record {
              cause = cause;
              replied = refl;
              marked = ap (λ (n : ℕ). Doubtful (n + 1)) (sym (counted c.answered));
              due = c.due;
              counted = subst (λ (n : ℕ). n + 1 < 2 ^ 32) (sym (counted c.answered)) fits;
            });
          };
          kept = λ commits_ mapped. kept;
        }

pub commits_legal : CommitsAreLegal
commits_legal store scenario view entries counter doubt tied session number call change tag declared fits = record {
  made = λ c none reply is.
      subst (λ (r : Reply). IsLegalAt store scenario view.all (call_record session number call r (Made (counter + 1)) (Some tag))) (sym is)
      (made_legal store scenario view entries counter doubt tied session number tag declared fits call change c none);
  doubtful = doubtful_legal store scenario view entries counter doubt tied session number tag declared fits call change;
}
