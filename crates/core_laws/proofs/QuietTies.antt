-- The ties over an event that commits nothing, and where a doubt is dropped.
use Rattle.std.proofs.Common.{◌≡◌, ◌+◌, ℕ, Bool, true, false, List, [], ◌∷◌, ◌++◌, length, Option, Some, None, unwrap_or, cond, refl, sym, ap, ◌∙◌, subst, arith, length-append}
use Rattle.std.proofs.lemmas.Bool.{cond-true, cond-false}
use Rattle.hmac_keys.specs.declared.Keys.{Keys}
use Rattle.tee_types.specs.declared.call.Call.{Call}
use Rattle.store_model.specs.declared.event.Event.{Event}
use Rattle.store_model.specs.declared.event.Event.TheVariants.{Call as CallEvent, Landed}
use Rattle.store_model.specs.declared.event.Mark.{Mark}
use Rattle.store_model.specs.declared.event.Mark.TheVariants.{Unchanged, Made, Doubtful}
use Rattle.store_model.specs.Machine.{MachineState}
use Rattle.store_model.specs.Makes.{MakesChange}
use Rattle.store_model.specs.Doubt.{Doubt}
use Rattle.store_model.specs.Record.{Tag, file_of}
use Rattle.store_model.specs.ReplayState.{ReplayState, replay_after}
use Rattle.dir_records.specs.declared.entry.DirEntry.{DirEntry}
use Rattle.history_seats.specs.Records.{HistoryRecord, Version, concerns_object}
use Rattle.history_seats.specs.Mounts.{Entry, Mounted}
use Rattle.history_seats.specs.Settling.{HasMark, IsOpenDoubt, Pending, as_landed, settled_by}
use Rattle.history_seats.specs.Versions.{version_after, version_of}
use Rattle.history_seats.specs.Directory.{directory_of, given_version, has_entry}
use Rattle.history_seats.specs.Tags.{HasRightTag}
use Rattle.history_seats.specs.Views.{GateView}
use Rattle.history_seats.specs.Changes.{with_record}
use Rattle.history_seats.specs.EntryLaws.{IsLeft}
use Rattle.history_seats.proofs.DoubtedEntries.{landed_entry}
use Rattle.history_seats.proofs.GivenStays.{given-there, unchanged-leaves}
use Rattle.history_seats.proofs.Givens.{version-snoc}
use Rattle.history_seats.proofs.OpenDoubts.{doubt-stays-open, doubt-was-open}
use Rattle.crash_core.specs.declared.change.EntryChange.{EntryChange}
use Rattle.crash_core.specs.EntryChanges.{IsChange, changed}
use Rattle.crash_core.specs.declared.change.DoubtedChange.{DoubtedChange}
use Rattle.core_laws.specs.Listed.{AreListed}
use Rattle.core_laws.specs.TamperScenarios.{TamperScenario}
use Rattle.core_laws.specs.Stores.{Store, entries_at, replay_at}
use Rattle.core_laws.specs.Mapped.{Versions, landed_version}
use Rattle.core_laws.specs.EntryLaws.{AreUnique}
use Rattle.core_laws.proofs.Answers.{answered-front, replay_state-snoc}
use Rattle.core_laws.proofs.MapSteps.{quiet_after}
use Rattle.core_laws.specs.Matched.{AreMatched}
use Rattle.core_laws.specs.Ties.{IsDoubtTied, IsReplayDoubt, IsTied, MakesEntries}
use Rattle.core_laws.specs.TieLaws.{AreRising, DropsKeepTies, KeepsDoubt, UnchangedEventsKeepTies}
use Rattle.core_laws.proofs.Rising.{risen}

-- What a doubt leaves to a file's generation stays over such an event.
module _ (mounted : Mounted) (all : List HistoryRecord) (r : HistoryRecord) (unchanged : HasMark Unchanged r.event) (right : HasRightTag mounted all r) where
  abbrev after : List HistoryRecord
  after = all ++ r ∷ []

  pub left_so : IsLeft mounted all after
  left_so = unchanged-leaves mounted all r unchanged right

  keeps_left : (event : Event) (tag : Option (Tag Version)) (q : Pending (Option Version)) → HasMark Unchanged event → (b : Bool)
      → (cond b (version_after event tag q) (settled_by event q)).if_landed ≡ q.if_landed
  keeps_left (Landed commit) tag q is b = absurd is
  keeps_left (CallEvent session number call reply mark) tag q is b = by_mark mark is b
    where
      by_mark : (m : Mark) → m ≡ Unchanged → (b : Bool)
          → (cond b (version_after (CallEvent session number call reply m) tag q) (settled_by (CallEvent session number call reply m) q)).if_landed ≡ q.if_landed
      by_mark Unchanged e true = refl
      by_mark Unchanged e false = refl
      by_mark (Made commit) e b = absurd (cc (e))
      by_mark (Doubtful commit) e b = absurd (cc (e))

  left_stays : (file generation : ℕ) → (version_of file generation mounted after).if_landed ≡ (version_of file generation mounted all).if_landed
  left_stays file generation =
      ap (λ (p : Pending (Option Version)). p.if_landed) (version-snoc file generation mounted all r)
      ∙ keeps_left r.event r.tag (version_of file generation mounted all) unchanged (concerns_object file generation r)

  now_stays : (file generation : ℕ) → has_entry file generation (directory_of mounted all).now ≡ true
      → (version_of file generation mounted after).now ≡ (version_of file generation mounted all).now
  now_stays file generation has =
      sym (given-there mounted after file generation (ap (λ (p : Pending (List Entry)). has_entry file generation p.now) left_so.directory ∙ has))
      ∙ left_so.given file generation ∙ given-there mounted all file generation has

  pub landed_stays : (file generation : ℕ) → landed_version mounted after file generation ≡ landed_version mounted all file generation
  landed_stays file generation = ap (λ (b : Bool). cond b (as_landed q).now None) same ∙ by_entry was refl
    where
      p : Pending (Option Version)
      p = version_of file generation mounted all

      q : Pending (Option Version)
      q = version_of file generation mounted after

      was : Bool
      was = has_entry file generation (as_landed (directory_of mounted all)).now

      same : has_entry file generation (as_landed (directory_of mounted after)).now ≡ has_entry file generation (as_landed (directory_of mounted all)).now
      same = ap (λ (l : Pending (List Entry)). has_entry file generation (as_landed l).now) left_so.directory

      by_doubt : (o : Option (Option Version)) → (version_of file generation mounted all).if_landed ≡ o → has_entry file generation (as_landed (directory_of mounted all)).now ≡ true
          → (as_landed (version_of file generation mounted after)).now ≡ (as_landed (version_of file generation mounted all)).now
      by_doubt (Some v) is has =
          ap (λ (x : Option (Option Version)). unwrap_or x (version_of file generation mounted after).now) (left_stays file generation ∙ is)
          ∙ sym (ap (λ (x : Option (Option Version)). unwrap_or x (version_of file generation mounted all).now) is)
      by_doubt None is has =
          ap (λ (x : Option (Option Version)). unwrap_or x (version_of file generation mounted after).now) (left_stays file generation ∙ is)
          ∙ now_stays file generation (landed_entry file generation mounted all is has)
          ∙ sym (ap (λ (x : Option (Option Version)). unwrap_or x (version_of file generation mounted all).now) is)

      by_entry : (b : Bool) → has_entry file generation (as_landed (directory_of mounted all)).now ≡ b
          → cond (has_entry file generation (as_landed (directory_of mounted all)).now) (as_landed (version_of file generation mounted after)).now None ≡ landed_version mounted all file generation
      by_entry true has =
          cond-true was (as_landed q).now None has ∙ by_doubt p.if_landed refl has ∙ sym (cond-true was (as_landed p).now None has)
      by_entry false has = cond-false was (as_landed q).now None has ∙ sym (cond-false was (as_landed p).now None has)

-- the same of entries that match
pub matched_same : (keys : Keys) (entries : List (Option DirEntry)) (listed more : List Entry) (versions next : Versions) → AreMatched keys entries listed versions → more ≡ listed
    → ((file generation : ℕ) → next file generation ≡ versions file generation) → AreMatched keys entries more next
matched_same keys entries listed more versions next m same so = record {
  listed = subst (AreListed entries) (sym same) m.listed;
  unique = subst AreUnique (sym same) m.unique;
  versions = λ index e at. let v = m.versions index e at in (v.0, so e.file e.generation ∙ v.1, v.2);
  real = λ index e v at is. m.real index e v at (sym (so e.file e.generation) ∙ is);
}

-- the ties of the entries as they stand
pub matched_now : (store : Store) (view : GateView) (entries : List (Option DirEntry)) (counter : ℕ) (doubt : Option DoubtedChange) → IsTied store view entries counter doubt
    → AreMatched store.keys entries (entries_at store view.all).now (given_version store.mounted view.all)
matched_now store view entries counter doubt tied = record { listed = tied.listed; unique = tied.unique; versions = tied.versions; real = tied.real }

-- such an event leaves the counter, and the state and the doubt where its reply keeps one
same_counter : (s : ReplayState) (event : Event) (file : Option ℕ) → HasMark Unchanged event → (replay_after s event file).counter ≡ s.counter
same_counter s (Landed commit) file is = absurd is
same_counter s (CallEvent session number call reply mark) file is =
    ap (λ (m : Mark). (replay_after s (CallEvent session number call reply m) file).counter) is

same_doubt : (s : ReplayState) (event : Event) (file : Option ℕ) (d : DoubtedChange) → HasMark Unchanged event → KeepsDoubt (Some d) event → (replay_after s event file).doubt ≡ s.doubt
same_doubt s (Landed commit) file d is keeps = absurd is
same_doubt s (CallEvent session number call reply mark) file d is keeps =
    ap (λ (m : Mark). (replay_after s (CallEvent session number call reply m) file).doubt) is
    ∙ ap (λ (b : Bool). elim b as (λ _. Option Doubt) [ true ↦ s.doubt | false ↦ None ]) keeps

-- what is said of a machine's change, by its state and counter alone
pub makes_same : (s t : ReplayState) (session : ℕ) (call : Call) (entries : List (Option DirEntry)) (change : EntryChange) → t.state ≡ s.state → t.counter ≡ s.counter
    → MakesEntries s session call entries change → MakesEntries t session call entries change
makes_same s t session call entries change state counter makes = record {
  made = makes.made;
  makes = subst (λ (m : MachineState). MakesChange m session call makes.made) (sym state) makes.makes;
  object = makes.object;
  enters = subst (λ (p : MachineState × ℕ). IsChange p.0.objects entries p.1 makes.made change makes.object) (λ i. (sym state i, sym counter i)) makes.enters;
}

module _ (store : Store) (view : GateView) (entries : List (Option DirEntry)) (counter : ℕ) (r : HistoryRecord) (unchanged : HasMark Unchanged r.event) (right : HasRightTag store.mounted view.all r) where
  stands : (scenario : TamperScenario) → replay_at store scenario (view.all ++ r ∷ []) ≡ replay_after (replay_at store scenario view.all) r.event (file_of r)
  stands scenario = replay_state-snoc store scenario view.all r

  replay_doubt : (scenario : TamperScenario) (d : DoubtedChange) → KeepsDoubt (Some d) r.event → IsReplayDoubt (replay_at store scenario view.all) entries d
      → IsReplayDoubt (replay_at store scenario (view.all ++ r ∷ [])) entries d
  replay_doubt scenario d keeps x =
      let s = replay_at store scenario view.all in
      let t = replay_at store scenario (view.all ++ r ∷ []) in
      let is_open : t.doubt ≡ Some x.doubt = ap (λ (y : ReplayState). y.doubt) (stands scenario) ∙ same_doubt s r.event (file_of r) d unchanged keeps ∙ x.is_open in
      let same : t.counter ≡ s.counter = ap (λ (y : ReplayState). y.counter) (stands scenario) ∙ same_counter s r.event (file_of r) unchanged in
      let state : t.state ≡ s.state =
      ap (λ (y : ReplayState). y.state) (stands scenario)
      ∙ ((quiet_after s r.event (file_of r) unchanged).doubt x.doubt (sym (ap (λ (y : ReplayState). y.doubt) (stands scenario)) ∙ is_open)).1 in
      record { doubt = x.doubt; is_open = is_open; number = x.number; makes = makes_same s t x.doubt.session x.doubt.call entries d.change state same x.makes }

  doubt_after_quiet : (doubt : Option DoubtedChange) → KeepsDoubt doubt r.event → IsDoubtTied store view entries doubt → IsDoubtTied store (with_record r view) entries doubt
  doubt_after_quiet None keeps tied = λ number open_. tied number (doubt-was-open number view.decided view.all r unchanged open_)
  doubt_after_quiet (Some d) keeps tied = record {
    is_open = doubt-stays-open d.number view.decided view.all r unchanged tied.is_open;
    place = tied.place;
    landed =
        matched_same store.keys (changed entries d.change) (as_landed (entries_at store view.all)).now (as_landed (entries_at store (view.all ++ r ∷ []))).now
        (landed_version store.mounted view.all) (landed_version store.mounted (view.all ++ r ∷ [])) tied.landed
        (ap (λ (p : Pending (List Entry)). (as_landed p).now) (left_so store.mounted view.all r unchanged right).directory) (landed_stays store.mounted view.all r unchanged right);
    stands = λ scenario answered. replay_doubt scenario d keeps (tied.stands scenario (answered-front store scenario view.all (r ∷ []) answered));
  }

  quiet_ties : (doubt : Option DoubtedChange) → KeepsDoubt doubt r.event → IsTied store view entries counter doubt → IsTied store (with_record r view) entries counter doubt
  quiet_ties doubt keeps tied =
      let left = left_so store.mounted view.all r unchanged right in
      let now = matched_same store.keys entries (entries_at store view.all).now (entries_at store (view.all ++ r ∷ [])).now
      (given_version store.mounted view.all) (given_version store.mounted (view.all ++ r ∷ [])) (matched_now store view entries counter doubt tied)
      (ap (λ (p : Pending (List Entry)). p.now) left.directory) left.given in
      record {
        listed = now.listed;
        unique = now.unique;
        versions = now.versions;
        real = now.real;
        counter = λ scenario answered.
            ap (λ (y : ReplayState). y.counter) (stands scenario) ∙ same_counter (replay_at store scenario view.all) r.event (file_of r) unchanged
            ∙ tied.counter scenario (answered-front store scenario view.all (r ∷ []) answered);
        rising = λ scenario answered.
            subst (λ (y : ReplayState). AreRising y.state.objects) (sym (stands scenario))
            (risen (replay_at store scenario view.all) r.event (file_of r) (tied.rising scenario (answered-front store scenario view.all (r ∷ []) answered)));
        doubt = doubt_after_quiet doubt keeps tied.doubt;
      }

pub unchanged_ties : UnchangedEventsKeepTies
unchanged_ties store view entries counter doubt r unchanged right keeps tied = quiet_ties store view entries counter r unchanged right doubt keeps tied

-- no doubt stands at the history's end or later
none_late : (view : GateView) (number : ℕ) → IsOpenDoubt number (length view.all) view.all → ⊥
none_late view number open_ =
    let long : length (open_.front ++ open_.doubted ∷ open_.back) ≡ length view.all = ap length open_.is in
    let parts : length (open_.front ++ open_.doubted ∷ open_.back) ≡ length open_.front + length (open_.doubted ∷ open_.back) = length-append open_.front (open_.doubted ∷ open_.back) in
    let later : length open_.back + 1 ≡ length (open_.doubted ∷ open_.back) = omega arith in
    omega (arith, open_.late, long, parts, later)

pub dropped_ties : DropsKeepTies
dropped_ties store view entries counter doubt tied = record {
  listed = tied.listed;
  unique = tied.unique;
  versions = tied.versions;
  real = tied.real;
  counter = tied.counter;
  rising = tied.rising;
  doubt = none_late view;
}
