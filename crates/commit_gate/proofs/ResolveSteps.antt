-- Each way in which a doubt is resolved is a list of steps of the core machine.
use Rattle.std.proofs.Common.{◌≡◌, ℕ, ◌+◌, List, [], inl, inr, Option, Some, None, Ok, Err, refl, sym, ap, ◌∙◌, subst, arith}
use Rattle.std.specs.Prelude.{◌==◌}
use Rattle.std.specs.Option.{option_map}
use Rattle.std.proofs.lemmas.Bool.{cond-true, cond-false, eq-eqb, ne_eqb}
use Rattle.node_image.specs.declared.node.RootRef.{RootRef}
use Rattle.tee_types.specs.declared.reply.Cause.{Cause}
use Rattle.rpmb_card.specs.Card.{CardState}
use Rattle.rpmb_host.specs.Honest.{HasCard}
use Rattle.store_model.specs.ReplayState.{ReplayState}
use Rattle.dir_records.specs.declared.entry.DirEntry.{DirEntry}
use Rattle.disk_model.specs.State.{FileState}
use Rattle.history_seats.specs.Views.{GateView}
use Rattle.history_seats.specs.Changes.{doubt_dropped, landing_of, with_record}
use Rattle.crash_core.specs.Appends.{freed}
use Rattle.crash_core.specs.declared.change.EntryChange.{EntryChange}
use Rattle.crash_core.specs.declared.change.EntryChange.TheVariants.{Put, Clear}
use Rattle.crash_core.specs.EntryChanges.{changed}
use Rattle.crash_core.specs.CoreState.{PendingCommit, Phase, put}
use Rattle.crash_core.specs.CoreSteps.{Append, DropCommit, DropTaking}
use Rattle.core_laws.specs.GateParts.{GatePart}
use Rattle.core_laws.specs.GateSteps.{GateSteps, Handed}
use Rattle.core_laws.proofs.GateStepLaws.{append_landed_is_step, drop_commit_is_step, drop_taking_is_step, one_step, steps_then, unseen_is_run}
use Rattle.core_laws.specs.TamperScenarios.{TamperScenario}
use Rattle.core_laws.specs.Stores.{Store, replay_at}
use Rattle.core_laws.proofs.Mending.{none_some}
use Rattle.store_commit.specs.View.{DirView, StagedDirectory}
use Rattle.crash_core.specs.declared.change.DoubtedChange.{DoubtedChange}
use Rattle.store_commit.specs.declared.resolve.Resolved.TheVariants.{Landed, Dropped}
use Rattle.store_commit.specs.Sides.{Names, Sides}
use Rattle.commit_gate.specs.FinishedPhases.{phase_under}
use Rattle.commit_gate.specs.CoreGates.{IsCardOf, pending_of, sealed_in, takes_of}
use Rattle.commit_gate.specs.Readings.{IsDoubtRead}
use Rattle.commit_gate.specs.Resting.{IsGateOf, StepsTo, resting_part}
use Rattle.commit_gate.specs.Resolves.{IsResolved, ResolvesAreSteps}
use Rattle.commit_gate.proofs.CommitSteps.{made_of, one_root}
use Rattle.commit_gate.proofs.Holders.{takes_freed}

-- no step
no_step : (phase : Phase) (handed : Option Handed) (g : GatePart) → GateSteps phase handed g g
no_step phase handed g = record { steps = []; run = λ slots. refl }

-- the file that a change puts is no longer taken
free_steps : (phase : Phase) (handed : Option Handed) (file : FileState) (card : CardState) (root : RootRef) (entries : List (Option DirEntry)) (takes : ℕ → Option ℕ) (view : GateView) (change : EntryChange)
    → GateSteps phase handed (made_of file card root entries takes None view) (made_of file card root entries (freed change takes) None view)
free_steps phase handed file card root entries takes view (Put index e) =
    let g : GatePart = made_of file card root entries takes None view in
    one_step phase handed g (DropTaking e.file) (made_of file card root entries (put takes e.file None) None view) (drop_taking_is_step phase handed g e.file (λ p is. absurd (none_some p is)))
free_steps phase handed file card root entries takes view (Clear index) = no_step phase handed (made_of file card root entries takes None view)

module _ (store : Store) (scenario : TamperScenario) (handed : Option Handed) (old new : Sides) (d : DoubtedChange) (before after : List (Option ℕ)) (card : CardState) (view : GateView)
    (gate : IsGateOf store old (Some d) before card) (read : IsDoubtRead store scenario view old.dir.entries d) where
  abbrev phase : Phase
  phase = phase_under store scenario

  abbrev here : ReplayState
  here = replay_at store scenario view.all

  abbrev own : CardState
  own = (gate.told).own

  abbrev start : GatePart
  start = resting_part store scenario old (Some d) before card view

  abbrev commit : Option RootRef → PendingCommit
  commit sealed = record { session = (read.doubt).session; call = (read.doubt).call; change = d.change; sealed = sealed }

  abbrev waiting : Option RootRef → GatePart
  waiting sealed = made_of old.file card old.dir.root old.dir.entries (takes_of before) (Some (commit sealed)) view

  -- the part waits so, by what the card's counter tells
  waits : (sealed : Option RootRef) → sealed_in old card ≡ sealed → waiting sealed ≡ start
  waits sealed is =
      sym (λ j. made_of old.file card old.dir.root old.dir.entries (takes_of before) (pending_of (Some d) (read.is_open j) (is j)) view)

  -- the port tells that card still
  has_still : new.port.card ≡ old.port.card → new.key ≡ old.key → HasCard new.port new.key own
  has_still same key = record { told = same ∙ (gate.told).has.told; keyed = (gate.told).has.keyed ∙ ap (λ (k : List ℕ). Some k) (sym key) }

  told_still : new.port.card ≡ old.port.card → new.key ≡ old.key → IsCardOf new card
  told_still same key = record { own = own; has = has_still same key; same = (gate.told).same }

  -- LANDED
  module _ (n : ℕ) (c : IsResolved old new d (Ok (Landed n)) before after) where
    counted : own.counter ≡ old.counter + 1
    counted = c.counter own (gate.told).has

    named : Names own (gate.stands.next).root (old.counter + 1)
    named = elim (gate.stands.stands.named own (gate.told).has) [
      | inl names ↦ absurd (omega (arith, names.counted, counted))
      | inr names ↦ names
    ]

    sealed_is : sealed_in old card ≡ Some (gate.stands.next).root
    sealed_is =
        cond-false (card.counter == old.counter) None (option_map (λ (next : StagedDirectory). next.root) old.dir.stage)
        (ne_eqb card.counter old.counter (λ same. let is : card.counter ≡ old.counter + 1 = (gate.told).same.counter ∙ counted in omega (arith, same, is)))
        ∙ ap (option_map (λ (next : StagedDirectory). next.root)) gate.stands.stands.is_open

    root_is : (gate.stands.next).root ≡ new.dir.root
    root_is = one_root (gate.stands.next).root new.dir.root (sym named.block ∙ (c.resolves.settled.named own (has_still c.card c.key)).block)

    landed_steps : StepsTo store scenario handed start new None after (with_record (landing_of n) view)
    landed_steps =
        let root : RootRef = (gate.stands.next).root in
        let left : GatePart = made_of old.file card root (changed old.dir.entries d.change) (freed d.change (takes_of before)) None (with_record (landing_of n) view) in
        let lands : GateSteps phase handed (waiting (Some root)) left =
        one_step phase handed (waiting (Some root)) (Append (landing_of n)) left
        (append_landed_is_step phase handed (waiting (Some root)) n None read.doubt (commit (Some root)) root read.is_open refl refl refl refl
        (record { doubt = read.doubt; is_open = read.is_open; number = c.resolves.number ∙ sym read.number; untagged = refl })) in
        let done : GateSteps phase handed start left = subst (λ (g : GatePart). GateSteps phase handed g left) (waits (Some root) sealed_is) lands in
        let entries : changed old.dir.entries d.change ≡ new.dir.entries = sym c.resolves.entries in
        let takes : freed d.change (takes_of before) ≡ takes_of after = sym (takes_freed old.dir.entries new.dir.entries before after gate.held c.held d.change c.ends) in
        let file : old.file ≡ new.file = sym c.file in
        record {
          card = card;
          told = told_still c.card c.key;
          steps = subst (GateSteps phase handed start) (λ j. made_of (file j) card (root_is j) (entries j) (takes j) None (with_record (landing_of n) view)) done;
        }

  -- DROPPED
  module _ (n : ℕ) (c : IsResolved old new d (Ok (Dropped n)) before after) where
    unsealed_is : sealed_in old card ≡ None
    unsealed_is =
        cond-true (card.counter == old.counter) None (option_map (λ (next : StagedDirectory). next.root) old.dir.stage)
        (eq-eqb card.counter old.counter ((gate.told).same.counter ∙ c.counter own (gate.told).has))

    dropped_steps : StepsTo store scenario handed start new None after (doubt_dropped view)
    dropped_steps =
        let given_up : GatePart = made_of old.file card old.dir.root old.dir.entries (takes_of before) None view in
        let free : GatePart = made_of old.file card old.dir.root old.dir.entries (freed d.change (takes_of before)) None view in
        let left : GatePart = made_of old.file card old.dir.root old.dir.entries (freed d.change (takes_of before)) None (doubt_dropped view) in
        let drops : GateSteps phase handed (waiting None) given_up =
        one_step phase handed (waiting None) DropCommit given_up (drop_commit_is_step phase handed (waiting None) (commit None) refl refl) in
        let frees : GateSteps phase handed given_up free = free_steps phase handed old.file card old.dir.root old.dir.entries (takes_of before) view d.change in
        let seen : GateSteps phase handed free left = record { steps = []; run = unseen_is_run phase handed free None (doubt_dropped view) refl } in
        let all : GateSteps phase handed (waiting None) left = steps_then phase handed (waiting None) free left (steps_then phase handed (waiting None) given_up free drops frees) seen in
        let done : GateSteps phase handed start left = subst (λ (g : GatePart). GateSteps phase handed g left) (waits None unsealed_is) all in
        let takes : freed d.change (takes_of before) ≡ takes_of after = sym (takes_freed old.dir.entries new.dir.entries before after gate.held c.held d.change c.ends) in
        let file : old.file ≡ new.file = sym c.file in
        let root : old.dir.root ≡ new.dir.root = sym (ap (λ (v : DirView). v.root) c.resolves.same) in
        let entries : old.dir.entries ≡ new.dir.entries = sym (ap (λ (v : DirView). v.entries) c.resolves.same) in
        record {
          card = card;
          told = told_still c.card c.key;
          steps = subst (GateSteps phase handed start) (λ j. made_of (file j) card (root j) (entries j) (takes j) None (doubt_dropped view)) done;
        }

  -- NOT KNOWN
  unknown_steps : (cause : Cause) → IsResolved old new d (Err cause) before after → StepsTo store scenario handed start new (Some d) after view
  unknown_steps cause c =
      let same : record old { port = new.port } ≡ new = sym c.resolves.same in
      let held : before ≡ after = sym c.ends in
      record {
        card = card;
        told = told_still c.card c.key;
        steps = subst (GateSteps phase handed start) (λ j. resting_part store scenario (same j) (Some d) (held j) card view) (no_step phase handed start);
      }

pub resolves_are_steps : ResolvesAreSteps
resolves_are_steps store scenario handed old new d (Ok (Landed n)) before after card view gate read c = landed_steps store scenario handed old new d before after card view gate read n c
resolves_are_steps store scenario handed old new d (Ok (Dropped n)) before after card view gate read c = dropped_steps store scenario handed old new d before after card view gate read n c
resolves_are_steps store scenario handed old new d (Err cause) before after card view gate read c = unknown_steps store scenario handed old new d before after card view gate read cause c
