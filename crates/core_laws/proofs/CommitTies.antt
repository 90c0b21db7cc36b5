-- The ties over a commit, made or in doubt, and over a landing.
use Rattle.std.proofs.Common.{◌≡◌, ◌≤◌, ℕ, Bool, true, false, true≢false, List, [], ◌∷◌, ◌++◌, length, Option, Some, None, is_some, unwrap_or, slice_index_or, inl, inr, refl, sym, ap, ◌∙◌, subst}
use Rattle.std.proofs.lemmas.Bool.{cases_Bool, cond-true, cond-false}
use Rattle.tee_types.specs.declared.call.Call.{Call}
use Rattle.tee_types.specs.declared.reply.Reply.{Reply}
use Rattle.store_model.specs.declared.event.Event.TheVariants.{Call as CallEvent}
use Rattle.store_model.specs.declared.event.Mark.TheVariants.{Unchanged, Made, Doubtful}
use Rattle.store_model.specs.Legal.{Answered, Doubted, FoundCorrupt, IsLegalAnswer, Spent, Unavailable, is_commit_due, mark_of}
use Rattle.store_model.specs.Record.{Tag, file_of}
use Rattle.store_model.specs.ReplayState.{ReplayState, replay_after, replay_landed}
use Rattle.dir_records.specs.declared.entry.DirEntry.{DirEntry}
use Rattle.history_seats.specs.Records.{HistoryRecord, Version, is_object}
use Rattle.history_seats.specs.Mounts.{Entry}
use Rattle.history_seats.specs.Settling.{Pending, as_landed, is_doubtful}
use Rattle.history_seats.specs.Versions.{version_of}
use Rattle.history_seats.specs.Directory.{entries_committed, given_version, has_entry}
use Rattle.history_seats.specs.CommitLaws.{GivesInDoubt, GivesMade}
use Rattle.history_seats.specs.Tags.{HasRightTag}
use Rattle.history_seats.specs.Views.{GateView}
use Rattle.history_seats.specs.Changes.{landing_of, with_record, call_record}
use Rattle.history_seats.proofs.DoubtedEntries.{has_committed}
use Rattle.history_seats.proofs.Givens.{directory-snoc}
use Rattle.history_seats.proofs.GivenStays.{doubt-gives, given-there, landing-gives, made-gives}
use Rattle.history_seats.proofs.OpenDoubts.{doubt-opens}
use Rattle.crash_core.specs.declared.change.EntryChange.{EntryChange}
use Rattle.crash_core.specs.EntryChanges.{changed}
use Rattle.crash_core.specs.declared.change.DoubtedChange.{DoubtedChange}
use Rattle.core_laws.specs.TamperScenarios.{TamperScenario}
use Rattle.core_laws.specs.Stores.{Store, entries_at, replay_at}
use Rattle.core_laws.specs.Mapped.{landed_version}
use Rattle.core_laws.specs.Answered.{AreAnswered, IsAnsweredAt}
use Rattle.core_laws.proofs.Answers.{answered-front, answered-last, replay_state-snoc}
use Rattle.core_laws.specs.Matched.{AreMatched}
use Rattle.core_laws.specs.CallChanges.{IsEntryCommit}
use Rattle.core_laws.specs.Ties.{IsReplayDoubt, IsTied, IsTiedDoubt, MakesEntries}
use Rattle.core_laws.specs.TieLaws.{AreRising, DoubtfulCommitsKeepTies, LandingsKeepTies, MadeCommitsKeepTies}
use Rattle.core_laws.proofs.Rising.{risen}
use Rattle.core_laws.proofs.LastDoubts.{closed}
use Rattle.core_laws.proofs.Matching.{Follow, matched_committed}
use Rattle.core_laws.proofs.QuietTies.{makes_same, matched_now, matched_same}

nothing_left : (b : Bool) (o : Option Version) → b ≡ false → is_some o ≡ b → None ≡ o
nothing_left b None off is = refl
nothing_left b (Some x) off is = absurd (true≢false (is ∙ off))

module _ (store : Store) (view : GateView) (entries : List (Option DirEntry)) (counter : ℕ) (doubt : Option DoubtedChange) (session number : ℕ) (call : Call) (reply : Reply) (commit : ℕ) (tag : Tag Version)
    (change : EntryChange) (tied : IsTied store view entries counter doubt) where
  abbrev all : List HistoryRecord
  all = view.all

  abbrev more : List Entry
  more = entries_committed (slice_index_or store.mounted.applications session []) call (Some tag) (entries_at store all).now

  abbrev now : AreMatched store.keys entries (entries_at store all).now (given_version store.mounted all)
  now = matched_now store view entries counter doubt tied

  module _ (right : HasRightTag store.mounted all (call_record session number call reply (Made commit) (Some tag))) (c : IsEntryCommit store entries counter session call change tag tag.committed) where
    abbrev made : HistoryRecord
    made = call_record session number call reply (Made commit) (Some tag)

    abbrev after_made : List HistoryRecord
    after_made = all ++ made ∷ []

    gives_made : GivesMade store.mounted all after_made tag
    gives_made = made-gives store.mounted all made tag refl right refl

    lists_made : (entries_at store after_made).now ≡ more
    lists_made = ap (λ (p : Pending (List Entry)). p.now) (directory-snoc store.mounted all made)

    follow_made : Follow store entries counter session call change tag tag.committed c (entries_at store all).now (given_version store.mounted all) (given_version store.mounted after_made) now
    follow_made = record {
      own = gives_made.own;
      others = λ file generation off has.
          gives_made.others file generation off
          ∙ cond-true (has_entry file generation (entries_at store after_made).now) (given_version store.mounted all file generation) None (ap (has_entry file generation) lists_made ∙ has);
    }

    matched_made : AreMatched store.keys (changed entries change) (entries_at store after_made).now (given_version store.mounted after_made)
    matched_made =
        matched_same store.keys (changed entries change) more (entries_at store after_made).now (given_version store.mounted after_made) (given_version store.mounted after_made)
        (matched_committed store entries counter session call change tag tag.committed c (entries_at store all).now (given_version store.mounted all) (given_version store.mounted after_made) now follow_made)
        lists_made (λ file generation. refl)

    tied_made : IsTied store (with_record made view) (changed entries change) commit None
    tied_made = record {
      listed = matched_made.listed;
      unique = matched_made.unique;
      versions = matched_made.versions;
      real = matched_made.real;
      counter = λ scenario answered. ap (λ (s : ReplayState). s.counter) (replay_state-snoc store scenario all made);
      rising = λ scenario answered.
          subst (λ (s : ReplayState). AreRising s.state.objects) (sym (replay_state-snoc store scenario all made))
          (risen (replay_at store scenario all) made.event (file_of made) (tied.rising scenario (answered-front store scenario all (made ∷ []) answered)));
      doubt = λ n open_. closed n view.decided all made refl refl open_;
    }

  module _ (right : HasRightTag store.mounted all (call_record session number call reply (Doubtful commit) (Some tag))) (within : view.decided ≤ length view.all)
      (c : IsEntryCommit store entries counter session call change tag tag.doubted)
      (makes : (scenario : TamperScenario) → AreAnswered store scenario view.all → is_commit_due (replay_at store scenario view.all) session call ≡ true → MakesEntries (replay_at store scenario view.all) session call entries change) where
    abbrev doubtful : HistoryRecord
    doubtful = call_record session number call reply (Doubtful commit) (Some tag)

    abbrev after_doubt : List HistoryRecord
    after_doubt = all ++ doubtful ∷ []

    gives_doubt : GivesInDoubt store.mounted all after_doubt tag
    gives_doubt = doubt-gives store.mounted all doubtful tag refl right refl

    directory_doubt : entries_at store after_doubt ≡ record { now = (entries_at store all).now; if_landed = Some more }
    directory_doubt = directory-snoc store.mounted all doubtful

    lists_landed : (as_landed (entries_at store after_doubt)).now ≡ more
    lists_landed = ap (λ (p : Pending (List Entry)). (as_landed p).now) directory_doubt

    own_landed : landed_version store.mounted after_doubt tag.file tag.generation ≡ tag.doubted
    own_landed = elim (cases_Bool b) [
      | inl has ↦ cond-true b (as_landed q).now None has ∙ ap (λ (o : Option (Option Version)). unwrap_or o q.now) gives_doubt.own
      | inr none ↦ cond-false b (as_landed q).now None none ∙ nothing_left b tag.doubted none (right tag refl).doubted
    ]
      where
        q : Pending (Option Version)
        q = version_of tag.file tag.generation store.mounted after_doubt

        b : Bool
        b = has_entry tag.file tag.generation (as_landed (entries_at store after_doubt)).now

    others_landed : (file generation : ℕ) → is_object file generation (Some tag) ≡ false → has_entry file generation more ≡ true
        → landed_version store.mounted after_doubt file generation ≡ given_version store.mounted all file generation
    others_landed file generation off there =
        let was : has_entry file generation (entries_at store all).now ≡ true =
        has_committed file generation (slice_index_or store.mounted.applications session []) call (Some tag) (entries_at store all).now off there in
        let q : Pending (Option Version) = version_of file generation store.mounted after_doubt in
        cond-true (has_entry file generation (as_landed (entries_at store after_doubt)).now) (as_landed q).now None (ap (has_entry file generation) lists_landed ∙ there)
        ∙ ap (λ (o : Option (Option Version)). unwrap_or o q.now) (gives_doubt.others file generation off)
        ∙ sym (given-there store.mounted after_doubt file generation (ap (λ (p : Pending (List Entry)). has_entry file generation p.now) directory_doubt ∙ was))
        ∙ gives_doubt.given file generation

    follow_landed : Follow store entries counter session call change tag tag.doubted c (entries_at store all).now (given_version store.mounted all) (landed_version store.mounted after_doubt) now
    follow_landed = record { own = own_landed; others = others_landed }

    matched_landed : AreMatched store.keys (changed entries change) (as_landed (entries_at store after_doubt)).now (landed_version store.mounted after_doubt)
    matched_landed =
        matched_same store.keys (changed entries change) more (as_landed (entries_at store after_doubt)).now (landed_version store.mounted after_doubt) (landed_version store.mounted after_doubt)
        (matched_committed store entries counter session call change tag tag.doubted c (entries_at store all).now (given_version store.mounted all) (landed_version store.mounted after_doubt) now follow_landed)
        lists_landed (λ file generation. refl)

    matched_still : AreMatched store.keys entries (entries_at store after_doubt).now (given_version store.mounted after_doubt)
    matched_still =
        matched_same store.keys entries (entries_at store all).now (entries_at store after_doubt).now (given_version store.mounted all) (given_version store.mounted after_doubt) now
        (ap (λ (p : Pending (List Entry)). p.now) directory_doubt) gives_doubt.given

    -- a commit that was left in doubt was due
    not_marked : (n : ℕ) (b : Bool) → Doubtful commit ≡ mark_of n b → ⊥
    not_marked n true e = cc (e)
    not_marked n false e = cc (e)

    was_due : (scenario : TamperScenario) → IsAnsweredAt store scenario all doubtful → is_commit_due (replay_at store scenario all) session call ≡ true
    was_due scenario (inl legal) = by_answer legal.legal.answer
      where
        by_answer : IsLegalAnswer scenario.tampered (replay_at store scenario all) session call reply (Doubtful commit) (Some tag.file) → is_commit_due (replay_at store scenario all) session call ≡ true
        by_answer (Answered a) = absurd (not_marked (replay_at store scenario all).counter (is_commit_due (replay_at store scenario all) session call) a.marked)
        by_answer (Unavailable u) = let e : Doubtful commit ≡ Unchanged = u.marked in absurd (cc (e))
        by_answer (Doubted d) = d.due
        by_answer (FoundCorrupt f) = let e : Doubtful commit ≡ Unchanged = f.marked in absurd (cc (e))
        by_answer (Spent p) = let e : Doubtful commit ≡ Unchanged = p.marked in absurd (cc (e))
    was_due scenario (inr clash) =
        let g = clash.told.given in
        let doubts : true ≡ false = ap is_doubtful (g.is ∙ ap (CallEvent g.session g.number g.call g.reply) clash.told.unchanged) in
        absurd (true≢false doubts)

    replay_doubtful : (scenario : TamperScenario) → AreAnswered store scenario after_doubt → IsReplayDoubt (replay_at store scenario after_doubt) entries (record { number = commit; change = change })
    replay_doubtful scenario answered =
        let s = replay_at store scenario all in
        let stands : replay_at store scenario after_doubt ≡ replay_after s doubtful.event (file_of doubtful) = replay_state-snoc store scenario all doubtful in
        record {
          doubt = record { commit = commit; session = session; call = call; file = Some tag.file };
          is_open = ap (λ (x : ReplayState). x.doubt) stands;
          number = refl;
          makes =
              makes_same s (replay_at store scenario after_doubt) session call entries change (ap (λ (x : ReplayState). x.state) stands) (ap (λ (x : ReplayState). x.counter) stands)
              (makes scenario (answered-front store scenario all (doubtful ∷ []) answered) (was_due scenario (answered-last store scenario all doubtful answered)));
        }

    tied_doubtful : IsTied store (with_record doubtful view) entries counter (Some (record { number = commit; change = change }))
    tied_doubtful = record {
      listed = matched_still.listed;
      unique = matched_still.unique;
      versions = matched_still.versions;
      real = matched_still.real;
      counter = λ scenario answered. ap (λ (s : ReplayState). s.counter) (replay_state-snoc store scenario all doubtful) ∙ tied.counter scenario (answered-front store scenario all (doubtful ∷ []) answered);
      rising = λ scenario answered.
          subst (λ (s : ReplayState). AreRising s.state.objects) (sym (replay_state-snoc store scenario all doubtful))
          (risen (replay_at store scenario all) doubtful.event (file_of doubtful) (tied.rising scenario (answered-front store scenario all (doubtful ∷ []) answered)));
      doubt = record {
        is_open = doubt-opens commit view.decided all doubtful refl within;
        place = c.place;
        landed = matched_landed;
        stands = replay_doubtful;
      };
    }

pub made_ties : MadeCommitsKeepTies
made_ties store view entries counter doubt session number call reply commit tag change right c tied =
    tied_made store view entries counter doubt session number call reply commit tag change tied right c

pub doubtful_ties : DoubtfulCommitsKeepTies
doubtful_ties store view entries counter doubt session number call reply commit tag change right within c makes tied =
    tied_doubtful store view entries counter doubt session number call reply commit tag change tied right within c makes

pub landed_ties : LandingsKeepTies
landed_ties store view entries counter d tied = record {
  listed = matched.listed;
  unique = matched.unique;
  versions = matched.versions;
  real = matched.real;
  counter = λ scenario answered.
      let x = t.stands scenario (answered-front store scenario view.all (r ∷ []) answered) in
      ap (λ (s : ReplayState). s.counter) (replay_state-snoc store scenario view.all r ∙ ap (replay_landed (replay_at store scenario view.all)) x.is_open) ∙ x.number;
  rising = λ scenario answered.
      subst (λ (s : ReplayState). AreRising s.state.objects) (sym (replay_state-snoc store scenario view.all r))
      (risen (replay_at store scenario view.all) r.event (file_of r) (tied.rising scenario (answered-front store scenario view.all (r ∷ []) answered)));
  doubt = λ n open_. closed n view.decided view.all r refl refl open_;
}
  where
    r : HistoryRecord
    r = landing_of d.number

    t : IsTiedDoubt store view entries d
    t = tied.doubt

    matched : AreMatched store.keys (changed entries d.change) (entries_at store (view.all ++ landing_of d.number ∷ [])).now (given_version store.mounted (view.all ++ landing_of d.number ∷ []))
    matched =
        matched_same store.keys (changed entries d.change) (as_landed (entries_at store view.all)).now (entries_at store (view.all ++ landing_of d.number ∷ [])).now
        (landed_version store.mounted view.all) (given_version store.mounted (view.all ++ landing_of d.number ∷ [])) tied.doubt.landed
        (ap (λ (p : Pending (List Entry)). p.now) (directory-snoc store.mounted view.all (landing_of d.number)))
        (λ file generation. landing-gives store.mounted view.all d.number file generation)
