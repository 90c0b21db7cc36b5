-- Both readings of the map, over an event with mark Unchanged, over a landing, and where a doubt is dropped.
use Rattle.std.proofs.Common.{◌≡◌, ◌≤◌, ℕ, Bool, true, false, true≢false, cond, List, [], ◌∷◌, ◌++◌, Option, Some, None, unwrap_or, refl, sym, ap, ◌∙◌, subst, inl, inr, arith}
use Rattle.std.proofs.lemmas.Bool.{cases_Bool, cond-true, cond-false}
use Rattle.tee_types.specs.declared.reply.Reply.{Reply}
use Rattle.tee_types.specs.declared.reply.Reply.TheVariants.{Misuse, NotAvailable}
use Rattle.store_model.specs.declared.event.Event.{Event}
use Rattle.store_model.specs.declared.event.Event.TheVariants.{Call as CallEvent, Landed}
use Rattle.store_model.specs.declared.event.Mark.{Mark}
use Rattle.store_model.specs.declared.event.Mark.TheVariants.{Unchanged, Made, Doubtful}
use Rattle.store_model.specs.Machine.{MachineState}
use Rattle.store_model.specs.Calls.{state_after}
use Rattle.store_model.specs.Doubt.{Doubt, state_landed}
use Rattle.store_model.specs.Record.{Tag, file_of}
use Rattle.store_model.specs.ReplayState.{ReplayState, doubt_after, is_undone, keeps_doubt, replay_after, replay_landed, state_unless_undone}
use Rattle.history_seats.specs.Records.{HistoryRecord, Version, concerns_object}
use Rattle.history_seats.specs.Mounts.{Entry}
use Rattle.history_seats.specs.Settling.{HasMark, IsOpenDoubt, Pending, as_landed, settled_by}
use Rattle.history_seats.specs.Versions.{version_after, version_of}
use Rattle.history_seats.specs.Directory.{given_version, has_entry}
use Rattle.history_seats.specs.Changes.{landing_of}
use Rattle.history_seats.specs.EntryLaws.{IsLeft}
use Rattle.history_seats.specs.Tags.{HasRightTag}
use Rattle.history_seats.proofs.Givens.{directory-snoc, version-snoc}
use Rattle.history_seats.proofs.GivenStays.{given-there, landing-gives, unchanged-leaves}
use Rattle.history_seats.proofs.DoubtedEntries.{landed_entry}
use Rattle.history_seats.proofs.OpenDoubts.{doubt-was-open}
use Rattle.core_laws.specs.TamperScenarios.{TamperScenario}
use Rattle.core_laws.specs.Stores.{Store, entries_at, replay_at}
use Rattle.core_laws.specs.Mapped.{IsMappedBoth, landed_version}
use Rattle.core_laws.specs.MapLaws.{DropsKeepMaps, LandingsKeepMaps}
use Rattle.core_laws.proofs.Mending.{none_some}
use Rattle.core_laws.proofs.Answers.{replay_state-snoc}
use Rattle.core_laws.proofs.InStep.{in_step_same}

-- an event with mark Unchanged leaves the files, and what doubt is left was there; the state is then left too
pub record IsQuietAfter (s t : ReplayState) : Type 0 where
  pub files : t.files ≡ s.files
  pub doubt : (doubt : Doubt) → t.doubt ≡ Some doubt → (s.doubt ≡ Some doubt) × (t.state ≡ s.state)

undone-kept : (reply : Reply) → keeps_doubt reply ≡ true → is_undone reply ≡ true
undone-kept (Misuse reason) e = refl
undone-kept (NotAvailable cause) e = refl
undone-kept _ e = absurd (true≢false (sym e))

pub quiet_after : (s : ReplayState) (event : Event) (file : Option ℕ) → HasMark Unchanged event → IsQuietAfter s (replay_after s event file)
quiet_after s (Landed commit) file is = absurd is
quiet_after s (CallEvent session number call reply mark) file is = subst (λ (m : Mark). IsQuietAfter s (replay_after s (CallEvent session number call reply m) file)) (sym is) (record { files = refl; doubt = by_reply })
  where
    by_test : (b : Bool) → keeps_doubt reply ≡ b → (doubt : Doubt) → elim b as (λ _. Option Doubt) [ true ↦ s.doubt | false ↦ None ] ≡ Some doubt
        → (s.doubt ≡ Some doubt) × (state_unless_undone s.state session call reply ≡ s.state)
    by_test true keeps doubt e = (e, ap (λ (b : Bool). elim b as (λ _. MachineState) [ true ↦ s.state | false ↦ state_after s.state session call ]) (undone-kept reply keeps))
    by_test false keeps doubt e = absurd (none_some doubt e)

    by_reply : (doubt : Doubt) → doubt_after reply s.doubt ≡ Some doubt → (s.doubt ≡ Some doubt) × (state_unless_undone s.state session call reply ≡ s.state)
    by_reply = by_test (keeps_doubt reply) refl

-- what landed, by the state, the files and the doubt alone
pub landed-same : (s t : ReplayState) (doubt : Doubt) → t.state ≡ s.state → t.files ≡ s.files
    → ((replay_landed t (Some doubt)).state.objects ≡ (replay_landed s (Some doubt)).state.objects) × ((replay_landed t (Some doubt)).files ≡ (replay_landed s (Some doubt)).files)
landed-same s t doubt state files = (
  ap (λ (m : MachineState). (state_landed m doubt).objects) state,
  λ i. (replay_landed (record s { state = state i; files = files i }) (Some doubt)).files,
)

module _ (store : Store) (scenario : TamperScenario) (all : List HistoryRecord) where
  abbrev here : ReplayState
  here = replay_at store scenario all

  -- What a doubt leaves to a file's generation stays over such an event.
  module _ (r : HistoryRecord) (unchanged : HasMark Unchanged r.event) (right : HasRightTag store.mounted all r) where
    abbrev after : List HistoryRecord
    after = all ++ r ∷ []

    left : IsLeft store.mounted all after
    left = unchanged-leaves store.mounted all r unchanged right

    keeps-doubted : (event : Event) (tag : Option (Tag Version)) (q : Pending (Option Version)) → HasMark Unchanged event → (b : Bool)
        → (cond b (version_after event tag q) (settled_by event q)).if_landed ≡ q.if_landed
    keeps-doubted (Landed commit) tag q is b = absurd is
    keeps-doubted (CallEvent session number call reply mark) tag q is b = by_mark mark is b
      where
        by_mark : (m : Mark) → m ≡ Unchanged → (b : Bool)
            → (cond b (version_after (CallEvent session number call reply m) tag q) (settled_by (CallEvent session number call reply m) q)).if_landed ≡ q.if_landed
        by_mark Unchanged e true = refl
        by_mark Unchanged e false = refl
        by_mark (Made commit) e b = absurd (cc (e))
        by_mark (Doubtful commit) e b = absurd (cc (e))

    doubted-stays : (file generation : ℕ) → (version_of file generation store.mounted after).if_landed ≡ (version_of file generation store.mounted all).if_landed
    doubted-stays file generation =
        ap (λ (p : Pending (Option Version)). p.if_landed) (version-snoc file generation store.mounted all r)
        ∙ keeps-doubted r.event r.tag (version_of file generation store.mounted all) unchanged (concerns_object file generation r)

    now-stays : (file generation : ℕ) → has_entry file generation (entries_at store all).now ≡ true
        → (version_of file generation store.mounted after).now ≡ (version_of file generation store.mounted all).now
    now-stays file generation has =
        sym (given-there store.mounted after file generation (ap (λ (p : Pending (List Entry)). has_entry file generation p.now) left.directory ∙ has))
        ∙ left.given file generation ∙ given-there store.mounted all file generation has

    landed-stays : (file generation : ℕ) → landed_version store.mounted after file generation ≡ landed_version store.mounted all file generation
    landed-stays file generation = elim (cases_Bool was) [
      | inl has ↦ ap (λ (b : Bool). cond b (as_landed q).now None) same ∙ cond-true was (as_landed q).now None has ∙ by_doubt p.if_landed refl has ∙ sym (cond-true was (as_landed p).now None has)
      | inr none ↦ ap (λ (b : Bool). cond b (as_landed q).now None) same ∙ cond-false was (as_landed q).now None none ∙ sym (cond-false was (as_landed p).now None none)
    ]
      where
        p : Pending (Option Version)
        p = version_of file generation store.mounted all

        q : Pending (Option Version)
        q = version_of file generation store.mounted after

        was : Bool
        was = has_entry file generation (as_landed (entries_at store all)).now

        same : has_entry file generation (as_landed (entries_at store after)).now ≡ has_entry file generation (as_landed (entries_at store all)).now
        same = ap (λ (l : Pending (List Entry)). has_entry file generation (as_landed l).now) left.directory

        by_doubt : (o : Option (Option Version)) → (version_of file generation store.mounted all).if_landed ≡ o → has_entry file generation (as_landed (entries_at store all)).now ≡ true
            → (as_landed (version_of file generation store.mounted after)).now ≡ (as_landed (version_of file generation store.mounted all)).now
        by_doubt (Some v) is has =
            ap (λ (x : Option (Option Version)). unwrap_or x (version_of file generation store.mounted after).now) (doubted-stays file generation ∙ is)
            ∙ sym (ap (λ (x : Option (Option Version)). unwrap_or x (version_of file generation store.mounted all).now) is)
        by_doubt None is has =
            ap (λ (x : Option (Option Version)). unwrap_or x (version_of file generation store.mounted after).now) (doubted-stays file generation ∙ is)
            ∙ now-stays file generation (landed_entry file generation store.mounted all is has)
            ∙ sym (ap (λ (x : Option (Option Version)). unwrap_or x (version_of file generation store.mounted all).now) is)

    -- the map stays in step, where the event leaves the objects
    pub unchanged-both : (z : ℕ) → (replay_at store scenario after).state.objects ≡ here.state.objects → IsMappedBoth store scenario z all → IsMappedBoth store scenario z after
    unchanged-both z objects both =
        let stands : replay_at store scenario after ≡ replay_after here r.event (file_of r) = replay_state-snoc store scenario all r in
        let quiet : IsQuietAfter here (replay_at store scenario after) = subst (IsQuietAfter here) (sym stands) (quiet_after here r.event (file_of r) unchanged) in
        record {
          now =
              in_step_same store.keys scenario (given_version store.mounted all) (given_version store.mounted after) (entries_at store all).now (entries_at store after).now
              here (replay_at store scenario after) both.now (ap (λ (l : Pending (List Entry)). l.now) left.directory) (λ e name is. left.given e.file e.generation) objects quiet.files;
          landed = λ doubt open_now is_open.
              let was = quiet.doubt doubt open_now in
              let same = landed-same here (replay_at store scenario after) doubt was.1 quiet.files in
              in_step_same store.keys scenario (landed_version store.mounted all) (landed_version store.mounted after) (as_landed (entries_at store all)).now (as_landed (entries_at store after)).now
              (replay_landed here (Some doubt)) (replay_landed (replay_at store scenario after) (Some doubt))
              (both.landed doubt was.0 (doubt-was-open doubt.commit z all r unchanged is_open))
              (ap (λ (l : Pending (List Entry)). (as_landed l).now) left.directory) (λ e name is. landed-stays e.file e.generation) same.0 same.1;
        }

  -- a landing: what was the second reading stands
  pub landing-both : (z y : ℕ) (doubt : Doubt) → IsMappedBoth store scenario z all → here.doubt ≡ Some doubt → IsOpenDoubt doubt.commit z all
      → IsMappedBoth store scenario y (all ++ landing_of doubt.commit ∷ [])
  landing-both z y doubt both is is_open =
      let r = landing_of doubt.commit in
      let after = all ++ r ∷ [] in
      let stands : replay_at store scenario after ≡ replay_landed here (Some doubt) = replay_state-snoc store scenario all r ∙ ap (replay_landed here) is in
      record {
        now =
            in_step_same store.keys scenario (landed_version store.mounted all) (given_version store.mounted after) (as_landed (entries_at store all)).now (entries_at store after).now
            (replay_landed here (Some doubt)) (replay_at store scenario after) (both.landed doubt is is_open)
            (ap (λ (l : Pending (List Entry)). l.now) (directory-snoc store.mounted all r)) (λ e name found. landing-gives store.mounted all doubt.commit e.file e.generation)
            (ap (λ (x : ReplayState). x.state.objects) stands) (ap (λ (x : ReplayState). x.files) stands);
        landed = λ other open_now _. absurd (none_some other (sym (ap (λ (x : ReplayState). x.doubt) stands) ∙ open_now));
      }

  -- a doubt that is dropped needs nothing: the second reading is void then
  pub dropped-both : (z y : ℕ) → z ≤ y → IsMappedBoth store scenario z all → IsMappedBoth store scenario y all
  dropped-both z y le both = record {
    now = both.now;
    landed = λ doubt open_now is_open. both.landed doubt open_now (record {
      front = is_open.front;
      doubted = is_open.doubted;
      back = is_open.back;
      is = is_open.is;
      marked = is_open.marked;
      last = is_open.last;
      late = omega (arith, le, is_open.late);
    });
  }

pub landing_keeps : LandingsKeepMaps
landing_keeps store scenario z y records doubt both is is_open = landing-both store scenario records z y doubt both is is_open

pub drop_keeps : DropsKeepMaps
drop_keeps store scenario z y records le both = dropped-both store scenario records z y le both
