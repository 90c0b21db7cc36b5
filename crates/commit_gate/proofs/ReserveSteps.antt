-- Taking a free file, and giving it up, are steps of the core machine.
use Rattle.std.proofs.Common.{◌≡◌, ◌≢◌, ℕ, zero, suc, List, [], ◌∷◌, get_or, inl, inr, Option, Some, None, refl, sym, ap, ◌∙◌, subst, get_or-set_other}
use Rattle.std.specs.Prelude.{slice_set}
use Rattle.std.proofs.lemmas.Bool.{cases_eq}
use Rattle.node_image.specs.declared.node.RootRef.{RootRef}
use Rattle.tee_types.proofs.FileNumbers.{object_not_directory}
use Rattle.rpmb_card.specs.Card.{CardState}
use Rattle.store_model.specs.Doubt.{Doubt}
use Rattle.dir_records.specs.declared.entry.DirEntry.{DirEntry}
use Rattle.history_seats.specs.Views.{GateView}
use Rattle.crash_core.specs.EntryChanges.{file_put}
use Rattle.crash_core.specs.CoreState.{PendingCommit, Phase, put}
use Rattle.crash_core.specs.CoreSteps.{DropTaking, TakeFile}
use Rattle.crash_core.proofs.Lists.{put_else, put_here}
use Rattle.core_laws.specs.GateParts.{GatePart}
use Rattle.core_laws.specs.GateSteps.{GateSteps, Handed}
use Rattle.core_laws.proofs.GateStepLaws.{drop_taking_is_step, one_step, take_is_step}
use Rattle.core_laws.specs.TamperScenarios.{TamperScenario}
use Rattle.core_laws.specs.Stores.{Store, replay_at}
use Rattle.core_laws.proofs.Mending.{none_some, some_same}
use Rattle.crash_core.specs.declared.change.DoubtedChange.{DoubtedChange}
use Rattle.store_commit.specs.Gates.{file_in_doubt}
use Rattle.store_commit.specs.Holds.{AreApart, AreHolds, file_held}
use Rattle.store_commit.specs.Sides.{Sides}
use Rattle.commit_gate.specs.FinishedPhases.{phase_under}
use Rattle.commit_gate.specs.CoreGates.{gate_part, pending_of, sealed_in, takes_of}
use Rattle.commit_gate.specs.Resting.{IsGateOf, StepsTo}
use Rattle.commit_gate.specs.ReserveSteps.{IsReleased, IsReserved, ReleasesAreSteps, ReservesAreSteps}
use Rattle.commit_gate.proofs.Holders.{held_taken, no_option, same_option, taken_held}

-- a place that is cleared is clear
cleared : (holds : List (Option ℕ)) (k : ℕ) → get_or (slice_set holds k None) k None ≡ None
cleared [] k = refl
cleared (hold ∷ holds) zero = refl
cleared (hold ∷ holds) (suc k) = cleared holds k

-- the commit in doubt does not put a file that is apart from its own
unput : (doubt : Option DoubtedChange) (o : Option Doubt) (sealed : Option RootRef) (file : ℕ) → AreApart (Some file) (file_in_doubt doubt)
    → (p : PendingCommit) → pending_of doubt o sealed ≡ Some p → file_put p.change ≢ Some file
unput None o sealed file apart p is = absurd (none_some p is)
unput (Some d) None sealed file apart p is = absurd (none_some p is)
unput (Some d) (Some x) sealed file apart p is =
    let same : record { session = x.session; call = x.call; change = d.change; sealed = sealed } ≡ p =
    some_same (record { session = x.session; call = x.call; change = d.change; sealed = sealed }) p is in
    λ puts. apart (ap (λ (q : PendingCommit). file_put q.change) same ∙ puts)

module _ (entries : List (Option DirEntry)) (before after : List (Option ℕ)) (session : ℕ) (were : AreHolds entries before) (are : AreHolds entries after) where
  -- where only one session's hold is another, another session has taken what it had
  module _ (others : (k : ℕ) → k ≢ session → file_held after k ≡ file_held before k) (n : ℕ) where
    same_takes : (file_held before session ≢ Some n) → (file_held after session ≢ Some n) → takes_of after n ≡ takes_of before n
    same_takes was is = same_option (takes_of after n) (takes_of before n)
        (λ k taken.
        let held : file_held after k ≡ Some n = taken_held after n k taken in
        let apart : k ≢ session = λ same. is (ap (file_held after) (sym same) ∙ held) in
        held_taken entries before were n k (sym (others k apart) ∙ held))
        (λ k taken.
        let held : file_held before k ≡ Some n = taken_held before n k taken in
        let apart : k ≢ session = λ same. was (ap (file_held before) (sym same) ∙ held) in
        held_taken entries after are n k (others k apart ∙ held))

    -- what that session held, nobody has taken
    gone_takes : file_held before session ≡ Some n → file_held after session ≡ None → takes_of after n ≡ None
    gone_takes was is = no_option (takes_of after n) (λ k taken.
        let held : file_held after k ≡ Some n = taken_held after n k taken in
        let apart : k ≢ session = λ same. none_some n (sym is ∙ ap (file_held after) (sym same) ∙ held) in
        apart (were.single k session n (sym (others k apart) ∙ held) was))

module _ (store : Store) (scenario : TamperScenario) (handed : Option Handed) (g : Sides) (doubt : Option DoubtedChange) (before after : List (Option ℕ)) (session : ℕ) (card : CardState) (view : GateView)
    (gate : IsGateOf store g doubt before card) where
  abbrev phase : Phase
  phase = phase_under store scenario

  abbrev waits : Option PendingCommit
  waits = pending_of doubt (replay_at store scenario view.all).doubt (sealed_in g card)

  abbrev part : (ℕ → Option ℕ) → GatePart
  part takes = gate_part g card takes waits None view

  abbrev reached : (ℕ → Option ℕ) → Type 0
  reached takes = GateSteps phase handed (part (takes_of before)) (part takes)

  to : (takes : ℕ → Option ℕ) → takes_of after ≡ takes → reached takes → StepsTo store scenario handed (part (takes_of before)) g doubt after view
  to takes is steps = record { card = card; told = gate.told; steps = subst reached (sym is) steps }

  reserve_steps : (file : ℕ) → IsReserved g doubt before after session file → StepsTo store scenario handed (part (takes_of before)) g doubt after view
  reserve_steps file r =
      let none : takes_of before file ≡ None = no_option (takes_of before file) (λ k taken. r.free.unheld k (taken_held before file k taken)) in
      let others : (k : ℕ) → k ≢ session → file_held after k ≡ file_held before k = λ k apart.
      ap (λ (l : List (Option ℕ)). get_or l k None) r.is ∙ get_or-set_other before session k (Some file) None apart in
      let point : (n : ℕ) → takes_of after n ≡ put (takes_of before) file (Some session) n = λ n. elim (cases_eq n file) [
        | inl same ↦
            held_taken g.dir.entries after r.held n session (r.takes ∙ ap (λ (m : ℕ). Some m) (sym same))
            ∙ sym (put_here (takes_of before) file (Some session) n same)
        | inr other ↦
            same_takes g.dir.entries before after session gate.held r.held others n
            (λ was. none_some n (sym r.idle ∙ was))
            (λ is. other (sym (some_same file n (sym r.takes ∙ is))))
            ∙ sym (put_else (takes_of before) file (Some session) n other)
      ] in
      to (put (takes_of before) file (Some session)) (λ j n. point n j)
      (one_step phase handed (part (takes_of before)) (TakeFile session file) (part (put (takes_of before) file (Some session)))
      (take_is_step phase handed (part (takes_of before)) session file (object_not_directory file r.free.from r.free.upto) r.free.unnamed (unput doubt (replay_at store scenario view.all).doubt (sealed_in g card) file r.undoubted) none))

  release_steps : (o : Option ℕ) → file_held before session ≡ o → IsReleased g doubt before after session → StepsTo store scenario handed (part (takes_of before)) g doubt after view
  release_steps o was r = by_hold o was
    where
      gone : file_held after session ≡ None
      gone = ap (λ (l : List (Option ℕ)). get_or l session None) r.is ∙ cleared before session

      others : (k : ℕ) → k ≢ session → file_held after k ≡ file_held before k
      others k apart = ap (λ (l : List (Option ℕ)). get_or l k None) r.is ∙ get_or-set_other before session k None None apart

      same : (n : ℕ) → (file_held before session ≢ Some n) → takes_of after n ≡ takes_of before n
      same n other = same_takes g.dir.entries before after session gate.held r.held others n other (λ is. none_some n (sym gone ∙ is))

      by_hold : (o : Option ℕ) → file_held before session ≡ o → StepsTo store scenario handed (part (takes_of before)) g doubt after view
      by_hold None none =
          to (takes_of before) (λ j n. same n (λ is. none_some n (sym none ∙ is)) j) (record { steps = []; run = λ slots. refl })
      by_hold (Some file) held =
          let point : (n : ℕ) → takes_of after n ≡ put (takes_of before) file None n = λ n. elim (cases_eq n file) [
            | inl is ↦
                gone_takes g.dir.entries before after session gate.held r.held others n (held ∙ ap (λ (m : ℕ). Some m) (sym is)) gone
                ∙ sym (put_here (takes_of before) file None n is)
            | inr other ↦
                same n (λ is. other (sym (some_same file n (sym held ∙ is))))
                ∙ sym (put_else (takes_of before) file None n other)
          ] in
          let apart : AreApart (Some file) (file_in_doubt doubt) = subst (λ (o : Option ℕ). AreApart o (file_in_doubt doubt)) held r.undoubted in
          to (put (takes_of before) file None) (λ j n. point n j)
          (one_step phase handed (part (takes_of before)) (DropTaking file) (part (put (takes_of before) file None))
          (drop_taking_is_step phase handed (part (takes_of before)) file (unput doubt (replay_at store scenario view.all).doubt (sealed_in g card) file apart)))

pub reserves_are_steps : ReservesAreSteps
reserves_are_steps store scenario handed g doubt before after session file card view gate r = reserve_steps store scenario handed g doubt before after session card view gate file r

pub releases_are_steps : ReleasesAreSteps
releases_are_steps store scenario handed g doubt before after session card view gate r = release_steps store scenario handed g doubt before after session card view gate (file_held before session) refl r
