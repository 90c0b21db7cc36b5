-- Both ends of a commit, made and in doubt, where its entries, versions and objects go in step.
use Rattle.std.proofs.Common.{◌≡◌, ℕ, Bool, true, false, true≢false, List, [], ◌∷◌, ◌++◌, Option, Some, None, is_some, unwrap_or, slice_index_or, refl, sym, ap, ◌∙◌, subst, inl, inr}
use Rattle.std.proofs.lemmas.Bool.{cases_Bool, cond-false, cond-true}
use Rattle.tee_types.specs.declared.call.Call.{Call}
use Rattle.tee_types.specs.declared.reply.Reply.{Reply}
use Rattle.store_model.specs.declared.name.ObjectName.{ObjectName}
use Rattle.store_model.specs.declared.event.Mark.TheVariants.{Made, Doubtful}
use Rattle.store_model.specs.Calls.{state_after}
use Rattle.store_model.specs.Doubt.{Doubt}
use Rattle.store_model.specs.Files.{files_after}
use Rattle.store_model.specs.Record.{Tag}
use Rattle.store_model.specs.ReplayState.{ReplayState, replay_after_call, replay_landed}
use Rattle.history_seats.specs.Records.{HistoryRecord, Version, is_object}
use Rattle.history_seats.specs.Mounts.{Entry}
use Rattle.history_seats.specs.Settling.{Pending, as_landed}
use Rattle.history_seats.specs.Versions.{version_of}
use Rattle.history_seats.specs.Directory.{entries_committed, given_version, has_entry}
use Rattle.history_seats.specs.CommitLaws.{GivesInDoubt, GivesMade}
use Rattle.history_seats.specs.Tags.{HasRightTag}
use Rattle.history_seats.proofs.Givens.{directory-snoc}
use Rattle.history_seats.proofs.GivenStays.{doubt-gives, given-there, made-gives}
use Rattle.history_seats.proofs.DoubtedEntries.{has_committed}
use Rattle.core_laws.specs.TamperScenarios.{TamperScenario}
use Rattle.core_laws.specs.Stores.{Store, entries_at, entry_named, replay_at}
use Rattle.core_laws.specs.Mapped.{IsInStep, IsMapped, IsMappedBoth, Versions, landed_version}
use Rattle.core_laws.specs.CommitLaws.{Place, commit_record}
use Rattle.core_laws.proofs.Mending.{none_some, some_same}
use Rattle.core_laws.proofs.Answers.{replay_state-snoc}
use Rattle.core_laws.proofs.InStep.{in_step_same}
use Rattle.core_laws.proofs.MapCommits.{has_named, not_object}

module _ (store : Store) (scenario : TamperScenario) (all : List HistoryRecord) (session number : ℕ) (call : Call) (reply : Reply) (place : Place) (left : Option Version)
    (mapped : IsMapped store scenario all) where
  abbrev pub here : ReplayState
  here = replay_at store scenario all

  abbrev pub apps : List ℕ
  apps = slice_index_or store.mounted.applications session []

  abbrev pub tag_with : (committed doubted : Option Version) → Tag Version
  tag_with committed doubted = record { file = place.file; generation = place.generation; committed = committed; doubted = doubted }

  abbrev pub entries_with : (committed doubted : Option Version) → List Entry
  entries_with committed doubted = entries_committed apps call (Some (tag_with committed doubted)) (entries_at store all).now

  abbrev pub IsOther : Entry → Type 0
  IsOther e = (e.file ≡ place.file) × (e.generation ≡ place.generation) → ⊥

  -- The commit's step: versions that give what it leaves for its own file's generation, and leave the others', are in step with its entries and
  -- with the machine's objects.
  abbrev pub Steps : Type 0
  Steps = (committed doubted : Option Version) (after : Versions) (t : ReplayState) → after place.file place.generation ≡ left
      → ((e : Entry) (name : ObjectName) → entry_named name (entries_with committed doubted) ≡ Some e → IsOther e → after e.file e.generation ≡ given_version store.mounted all e.file e.generation)
      → t.state.objects ≡ (state_after here.state session call).objects → t.files ≡ files_after here.files here.state session call (Some place.file)
      → IsInStep store.keys scenario after (entries_with committed doubted) t

  module _ (steps : Steps) (commit : ℕ) where
    abbrev made_record : HistoryRecord
    made_record = commit_record session number call reply (Made commit) place left None

    pub made_ends : HasRightTag store.mounted all made_record → IsMappedBoth store scenario 0 (all ++ made_record ∷ [])
    made_ends right =
        let after = all ++ made_record ∷ [] in
        let tag = tag_with left None in
        let gives : GivesMade store.mounted all after tag = made-gives store.mounted all made_record tag refl right refl in
        let listed : (entries_at store after).now ≡ entries_with left None = ap (λ (p : Pending (List Entry)). p.now) (directory-snoc store.mounted all made_record) in
        let stands : replay_at store scenario after ≡ replay_after_call here session call reply (Made commit) (Some place.file) = replay_state-snoc store scenario all made_record in
        record {
          now =
              subst (λ (l : List Entry). IsInStep store.keys scenario (given_version store.mounted after) l (replay_at store scenario after)) (sym listed)
              (steps left None (given_version store.mounted after) (replay_at store scenario after) gives.own
              (λ e name is off.
              gives.others e.file e.generation (not_object e.file e.generation tag off)
              ∙ cond-true (has_entry e.file e.generation (entries_at store after).now) (given_version store.mounted all e.file e.generation) None
              (ap (has_entry e.file e.generation) listed ∙ has_named name e (entries_with left None) is))
              (ap (λ (s : ReplayState). s.state.objects) stands) (ap (λ (s : ReplayState). s.files) stands));
          landed = λ doubt open_now _. absurd (none_some doubt (sym (ap (λ (s : ReplayState). s.doubt) stands) ∙ open_now));
        }

    abbrev replay_version : Option Version
    replay_version = given_version store.mounted all place.file place.generation

    abbrev doubtful_record : HistoryRecord
    doubtful_record = commit_record session number call reply (Doubtful commit) place replay_version left

    abbrev doubt : Doubt
    doubt = record { commit = commit; session = session; call = call; file = Some place.file }

    pub doubtful_ends : HasRightTag store.mounted all doubtful_record → IsMappedBoth store scenario 0 (all ++ doubtful_record ∷ [])
    doubtful_ends right =
        let after = all ++ doubtful_record ∷ [] in
        let tag = tag_with replay_version left in
        let gives : GivesInDoubt store.mounted all after tag = doubt-gives store.mounted all doubtful_record tag refl right refl in
        let directory : entries_at store after ≡ record { now = (entries_at store all).now; if_landed = Some (entries_with replay_version left) } = directory-snoc store.mounted all doubtful_record in
        let listed : (as_landed (entries_at store after)).now ≡ entries_with replay_version left = ap (λ (p : Pending (List Entry)). (as_landed p).now) directory in
        let stands : replay_at store scenario after ≡ record here { doubt = Some doubt } = replay_state-snoc store scenario all doubtful_record in
        record {
          now =
              in_step_same store.keys scenario (given_version store.mounted all) (given_version store.mounted after) (entries_at store all).now (entries_at store after).now
              here (replay_at store scenario after) mapped (ap (λ (p : Pending (List Entry)). p.now) directory) (λ e name is. gives.given e.file e.generation)
              (ap (λ (s : ReplayState). s.state.objects) stands) (ap (λ (s : ReplayState). s.files) stands);
          landed = λ other open_now is_open.
              let same : other ≡ doubt = some_same other doubt (sym open_now ∙ ap (λ (s : ReplayState). s.doubt) stands) in
              let lands : replay_landed (replay_at store scenario after) (Some other) ≡ replay_landed (record here { doubt = Some doubt }) (Some doubt) = λ i. replay_landed (stands i) (Some (same i)) in
              subst (λ (l : List Entry). IsInStep store.keys scenario (landed_version store.mounted after) l (replay_landed (replay_at store scenario after) (Some other))) (sym listed)
              (steps replay_version left (landed_version store.mounted after) (replay_landed (replay_at store scenario after) (Some other))
              (own after gives.own (right tag refl).doubted)
              (λ e name is off. others after tag gives directory listed e name is off)
              (ap (λ (s : ReplayState). s.state.objects) lands) (ap (λ (s : ReplayState). s.files) lands));
        }
      where
        nothing_left : (b : Bool) (o : Option Version) → b ≡ false → is_some o ≡ b → None ≡ o
        nothing_left b None off is = refl
        nothing_left b (Some x) off is = absurd (true≢false (is ∙ off))

        own : (after : List HistoryRecord) → (version_of place.file place.generation store.mounted after).if_landed ≡ Some left
            → is_some left ≡ has_entry place.file place.generation (as_landed (entries_at store after)).now → landed_version store.mounted after place.file place.generation ≡ left
        own after lands there =
            let q : Pending (Option Version) = version_of place.file place.generation store.mounted after in
            let b : Bool = has_entry place.file place.generation (as_landed (entries_at store after)).now in
            elim (cases_Bool b) [
              | inl has ↦ cond-true b (as_landed q).now None has ∙ ap (λ (o : Option (Option Version)). unwrap_or o q.now) lands
              | inr none ↦ cond-false b (as_landed q).now None none ∙ nothing_left b left none there
            ]

        others : (after : List HistoryRecord) (tag : Tag Version) → GivesInDoubt store.mounted all after tag
            → entries_at store after ≡ record { now = (entries_at store all).now; if_landed = Some (entries_committed apps call (Some tag) (entries_at store all).now) }
            → (as_landed (entries_at store after)).now ≡ entries_committed apps call (Some tag) (entries_at store all).now
            → (e : Entry) (name : ObjectName) → entry_named name (entries_committed apps call (Some tag) (entries_at store all).now) ≡ Some e
            → ((e.file ≡ tag.file) × (e.generation ≡ tag.generation) → ⊥) → landed_version store.mounted after e.file e.generation ≡ given_version store.mounted all e.file e.generation
        others after tag gives directory listed e name is off =
            let apart : is_object e.file e.generation (Some tag) ≡ false = not_object e.file e.generation tag off in
            let there : has_entry e.file e.generation (entries_committed apps call (Some tag) (entries_at store all).now) ≡ true = has_named name e (entries_committed apps call (Some tag) (entries_at store all).now) is in
            let was : has_entry e.file e.generation (entries_at store all).now ≡ true = has_committed e.file e.generation apps call (Some tag) (entries_at store all).now apart there in
            let q : Pending (Option Version) = version_of e.file e.generation store.mounted after in
            cond-true (has_entry e.file e.generation (as_landed (entries_at store after)).now) (as_landed q).now None (ap (has_entry e.file e.generation) listed ∙ there)
            ∙ ap (λ (o : Option (Option Version)). unwrap_or o q.now) (gives.others e.file e.generation apart)
            ∙ sym (given-there store.mounted after e.file e.generation (ap (λ (p : Pending (List Entry)). has_entry e.file e.generation p.now) directory ∙ was))
            ∙ gives.given e.file e.generation
