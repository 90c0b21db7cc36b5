-- Each end of a ready commit may be appended: its record is fair and rightly tagged, and its session is the machine's behind it.
use Rattle.std.proofs.Common.{◌≡◌, ◌≢◌, ◌<◌, ◌+◌, ◌^◌, ◌↔◌, ℕ, List, Some, None, refl, sym, ◌∙◌, subst, arith}
use Rattle.tee_types.specs.declared.call.Call.{Call}
use Rattle.tee_types.specs.declared.reply.Cause.{Cause}
use Rattle.tee_types.specs.declared.reply.Cause.TheVariants.{Fault, Frame, CardResult}
use Rattle.tee_types.specs.declared.reply.Device.TheVariants.{Dir, File, Card, Entropy}
use Rattle.tee_types.specs.declared.reply.Reply.{Reply}
use Rattle.tee_types.specs.declared.reply.Reply.TheVariants.{CounterSpent, NotAvailable}
use Rattle.rpmb_card.specs.Protocol.{last_counter}
use Rattle.store_model.specs.declared.event.Mark.{Mark}
use Rattle.store_model.specs.declared.event.Mark.TheVariants.{Unchanged, Made as MarkedMade, Doubtful as MarkedDoubtful}
use Rattle.store_model.specs.Machine.{Session}
use Rattle.store_model.specs.Record.{fault_in_reply, file_at_fault}
use Rattle.history_seats.specs.Changes.{IsFitting, TagVersions}
use Rattle.history_seats.specs.Mounts.{Mounted}
use Rattle.history_seats.specs.Tags.{HasRightTag}
use Rattle.history_seats.specs.Views.{GateView, SlotView}
use Rattle.core_laws.specs.Stores.{Store}
use Rattle.core_laws.specs.Answered.{IsFairAt}
use Rattle.core_laws.proofs.Mending.{none_some, some_same}
use Rattle.commit_gate.specs.JournalCalls.{LeavesSession}
use Rattle.commit_gate.specs.Journals.{IsJournal}
use Rattle.commit_gate.specs.CallerSessions.{CallerSession}
use Rattle.commit_gate.proofs.CallMoves.{doubtful_move, made_move}
use Rattle.core_laws.specs.EventAnswers.{IsUnmade}
use Rattle.core_laws.specs.Ties.{IsTied}
use Rattle.crash_core.specs.declared.change.EntryChange.{EntryChange}
use Rattle.store_commit.specs.declared.change.CommitEnd.{CommitEnd}
use Rattle.store_commit.specs.declared.change.CommitEnd.TheVariants.{Made, Dropped, Doubtful, Spent}
use Rattle.store_commit.specs.Causes.{CauseStands, Counted, EndCause}
use Rattle.store_commit.specs.Ends.{Leaves}
use Rattle.store_commit.specs.Sides.{Sides}
use Rattle.commit_gate.specs.declared.session_moves.SessionMove.{SessionMove}
use Rattle.commit_gate.specs.declared.session_moves.SessionMove.TheVariants.{Stays, Opens, Replaces, Closes}
use Rattle.commit_gate.specs.Commits.{IsCalm, IsReadyCommit, file_record, made_versions, unmade_versions}
use Rattle.commit_gate.specs.Ended.{MayAppend, MayEnd}
use Rattle.commit_gate.specs.GateEnds.{IsCommitEnd}
use Rattle.commit_gate.specs.SessionMoves.{moved_by}
use Rattle.commit_gate.proofs.EndedCommits.{doubtful_fair, doubtful_right, made_fair, made_right}
use Rattle.commit_gate.proofs.FairCommits.{unmade_fair, unmade_undone}
use Rattle.commit_gate.proofs.ReadyCommits.{unmade_fits, unmade_moves}

-- the session stays of its application
moved_application : (s : Session) (step : SessionMove) → (moved_by s step).application ≡ s.application
moved_application s Stays = refl
moved_application s (Opens name flags) = refl
moved_application s (Replaces number handle) = refl
moved_application s (Closes number) = refl

-- no commit accuses an object's file
cause_spares : (key : List ℕ) (counter : ℕ) (old new : Counted) (cause : Cause) → CauseStands key counter old new cause → file_at_fault cause ≡ None
cause_spares key counter old new (Fault Dir count) stands = refl
cause_spares key counter old new (Fault (File file) count) stands = absurd stands
cause_spares key counter old new (Fault Card count) stands = refl
cause_spares key counter old new (Fault Entropy count) stands = refl
cause_spares key counter old new (Frame fault) stands = refl
cause_spares key counter old new (CardResult result) stands = refl

next_fits : (counter : ℕ) → counter < 2 ^ 32 → counter ≢ last_counter → counter + 1 < 2 ^ 32
next_fits counter within other = omega (arith, within, other)

made_unspent : (n counter : ℕ) → (Made n ≡ Spent) ↔ (counter ≡ last_counter) → counter ≢ last_counter
made_unspent n counter spent is = let e : Made n ≡ Spent = spent.1 is in cc (e)

doubtful_unspent : (n counter : ℕ) (cause : Cause) → (Doubtful n cause ≡ Spent) ↔ (counter ≡ last_counter) → counter ≢ last_counter
doubtful_unspent n counter cause spent is = let e : Doubtful n cause ≡ Spent = spent.1 is in cc (e)

-- such an end comes of a commit at that counter
pub commit_end : (old new : Sides) (change : EntryChange) (key : List ℕ) (before after : Counted) (end : CommitEnd) → old.counter < 2 ^ 32 → Leaves old new change end
    → EndCause key old.counter before after end → (end ≡ Spent) ↔ (old.counter ≡ last_counter) → IsCommitEnd old.counter end
commit_end old new change key before after (Made n) within leaves cause spent =
    (leaves.number, subst (λ (m : ℕ). m < 2 ^ 32) (sym leaves.number) (next_fits old.counter within (made_unspent n old.counter spent)))
commit_end old new change key before after (Dropped why) within leaves cause spent = cause_spares key old.counter before after why cause
commit_end old new change key before after (Doubtful n why) within leaves cause spent = (
  leaves.number,
  subst (λ (m : ℕ). m < 2 ^ 32) (sym leaves.number) (next_fits old.counter within (doubtful_unspent n old.counter why spent)),
  cause_spares key old.counter before after why cause.0,
)
commit_end old new change key before after Spent within leaves cause spent = spent.0 refl

-- a record with a right tag, whose reply accuses no object's file, fits
fits_tagged : (store : Store) (view : GateView) (session number : ℕ) (call : Call) (told : Reply) (mark : Mark) (slot : SlotView) (versions : TagVersions) → view.mounted ≡ Some store.mounted
    → fault_in_reply told ≡ None → HasRightTag store.mounted view.all (file_record session number call told mark slot versions) → IsFitting view (file_record session number call told mark slot versions)
fits_tagged store view session number call told mark slot versions mounted none right = record {
  right = λ other is. subst (λ (m : Mounted). HasRightTag m view.all (file_record session number call told mark slot versions)) (some_same store.mounted other (sym mounted ∙ is)) right;
  tagged = record { fault = λ file is. absurd (none_some file (sym none ∙ is)); commit = λ commits_. refl };
}

module _ {E : Type 0} (store : Store) (view : GateView) (old new : Sides) (call : Call) (reply : Reply) (change : EntryChange) (slot : SlotView) (versions : TagVersions) (s : CallerSession E)
    (step : SessionMove) (kept : IsJournal store view) (tied : IsTied store view old.dir.entries old.counter None) (calm : IsCalm store view s)
    (ready : IsReadyCommit store view old.dir.entries old.counter s.number s.made call reply change slot versions)
    (none : fault_in_reply reply ≡ None) (leaves_ : LeavesSession store view s.number call (moved_by s.state step)) where
  may_made : (n : ℕ) → n ≡ old.counter + 1 → old.counter + 1 < 2 ^ 32 → MayEnd store view (Made n) call reply step slot versions s
  may_made n next fits =
      let known = calm.caller.session.known in
      let after : CallerSession E = record s { state = moved_by s.state step } in
      record {
        fitting = fits_tagged store view s.number s.made call reply (MarkedMade n) slot (made_versions versions) kept.mounted none
            (made_right store view old.dir.entries old.counter s.number s.made call reply change slot versions kept tied known ready n);
        fair = λ scenario.
            subst (λ (m : ℕ). IsFairAt store scenario view.all (file_record s.number s.made call reply (MarkedMade m) slot (made_versions versions))) (sym next)
            (made_fair store view old.dir.entries old.counter s.number s.made call reply change slot versions kept tied known ready fits scenario);
        moves = made_move E store view (file_record s.number s.made call reply (MarkedMade n) slot (made_versions versions)) call reply n after calm.within refl calm.settled
            (record { before = s.state; was = calm.caller; application = moved_application s.state step; moves = leaves_ });
      }

  may_doubt : (n : ℕ) (cause : Cause) → n ≡ old.counter + 1 → old.counter + 1 < 2 ^ 32 → file_at_fault cause ≡ None → MayEnd store view (Doubtful n cause) call reply step slot versions s
  may_doubt n cause next fits spares =
      let known = calm.caller.session.known in
      record {
        fitting = fits_tagged store view s.number s.made call (NotAvailable cause) (MarkedDoubtful n) slot versions kept.mounted spares
            (doubtful_right store view old.dir.entries old.counter s.number s.made call reply change slot versions kept tied known ready (NotAvailable cause) n);
        fair = λ scenario.
            subst (λ (m : ℕ). IsFairAt store scenario view.all (file_record s.number s.made call (NotAvailable cause) (MarkedDoubtful m) slot versions)) (sym next)
            (doubtful_fair store view old.dir.entries old.counter s.number s.made call reply change slot versions kept tied known ready fits cause spares scenario);
        moves = doubtful_move E store view (file_record s.number s.made call (NotAvailable cause) (MarkedDoubtful n) slot versions) call (NotAvailable cause) n s calm.within refl calm.caller
            calm.settled calm.sees;
      }

  may_unmade : (why : Reply) → IsUnmade old.counter why → fault_in_reply why ≡ None
      → MayAppend store view call why Unchanged slot (unmade_versions versions) s s
  may_unmade why unmade spares = record {
    fitting = unmade_fits store view s.number s.made call why slot versions kept.mounted spares ready.given;
    fair = unmade_fair store view old.dir.entries old.counter s.number s.made call reply change slot versions kept tied calm.caller.session.known ready why unmade spares;
    moves = unmade_moves store view s calm call why slot versions (unmade_undone old.counter why unmade);
  }

  pub may_end : (key : List ℕ) (before after : Counted) (end : CommitEnd) → old.counter < 2 ^ 32 → Leaves old new change end → EndCause key old.counter before after end
      → (end ≡ Spent) ↔ (old.counter ≡ last_counter) → MayEnd store view end call reply step slot versions s
  may_end key before after (Made n) within leaves cause spent = may_made n leaves.number (next_fits old.counter within (made_unspent n old.counter spent))
  may_end key before after (Dropped why) within leaves cause spent = may_unmade (NotAvailable why) tt (cause_spares key old.counter before after why cause)
  may_end key before after (Doubtful n why) within leaves cause spent =
      may_doubt n why leaves.number (next_fits old.counter within (doubtful_unspent n old.counter why spent)) (cause_spares key old.counter before after why cause.0)
  may_end key before after Spent within leaves cause spent = may_unmade (CounterSpent last_counter) (refl, spent.0 refl) refl
