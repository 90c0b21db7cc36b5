-- Each end of a commit, with its event, is a list of steps of the core machine.
use Rattle.std.proofs.Common.{◌≡◌, ℕ, ◌+◌, List, [], ◌∷◌, inl, inr, IsTrue, Option, Some, None, Result, Ok, refl, sym, ap, ◌∙◌, subst, arith}
use Rattle.std.specs.Prelude.{◌==◌, get_or, slice_set}
use Rattle.std.specs.Option.{option_map}
use Rattle.std.proofs.lemmas.Bool.{cond-true, cond-false, eq-eqb, ne_eqb}
use Rattle.disk_model.specs.State.{FileState, Sound}
use Rattle.disk_model.specs.Keeps.{Keeps, Outside, Writes}
use Rattle.disk_model.proofs.Goings.{goes_on_none}
use Rattle.disk_model.proofs.Masks.{reads_masked_none}
use Rattle.disk_model.proofs.ImageLaws.{reads_left}
use Rattle.node_image.specs.declared.node.RootRef.{RootRef}
use Rattle.htree_file.specs.Selected.{Lies}
use Rattle.tee_types.specs.Limits.{directory_file}
use Rattle.tee_types.specs.declared.call.Call.{Call}
use Rattle.tee_types.specs.declared.reply.Cause.{Cause}
use Rattle.tee_types.specs.declared.reply.Reply.{Reply}
use Rattle.rpmb_card.specs.Card.{CardState}
use Rattle.rpmb_host.specs.Honest.{HasCard}
use Rattle.store_model.specs.declared.event.Mark.{Mark}
use Rattle.store_model.specs.declared.event.Mark.TheVariants.{Unchanged, Made as MadeMark, Doubtful as DoubtfulMark}
use Rattle.store_model.specs.declared.event.Event.TheVariants.{Call as CallEvent}
use Rattle.store_model.specs.Doubt.{Doubt}
use Rattle.store_model.specs.Legal.{IsLegalEvent}
use Rattle.store_model.specs.Record.{Tag, file_of}
use Rattle.store_model.specs.ReplayState.{ReplayState}
use Rattle.dir_records.specs.declared.entry.DirEntry.{DirEntry}
use Rattle.history_seats.specs.Records.{HistoryRecord, Version}
use Rattle.history_seats.specs.Views.{GateView}
use Rattle.history_seats.specs.Changes.{with_record}
use Rattle.crash_core.specs.Refusal.{Refusal}
use Rattle.crash_core.specs.Appends.{freed}
use Rattle.crash_core.specs.CardBlock.{root_block, root_in}
use Rattle.crash_core.specs.Directory.{directory_of}
use Rattle.crash_core.specs.EntryChanges.{IsChange, changed}
use Rattle.crash_core.specs.Seals.{sealed_card}
use Rattle.crash_core.specs.Sights.{Misses}
use Rattle.crash_core.specs.CoreState.{IsTrusted, PendingCommit, Phase}
use Rattle.crash_core.specs.CoreSteps.{Append, DropCommit, Seal, WriteDirectory}
use Rattle.crash_core.proofs.CardBlocks.{root_in-block}
use Rattle.core_laws.specs.GateLaws.{MaySeal}
use Rattle.core_laws.specs.GateParts.{GatePart}
use Rattle.core_laws.specs.GateSteps.{GateSteps, Handed}
use Rattle.core_laws.proofs.DirectoryRuns.{directory_runs_are_steps}
use Rattle.core_laws.proofs.GateStepLaws.{append_doubtful_is_step, append_made_is_step, append_unchanged_is_step, drop_commit_is_step, one_step, seal_is_step, steps_then, write_directory_is_step}
use Rattle.core_laws.specs.TamperScenarios.{TamperScenario}
use Rattle.core_laws.specs.Stores.{Store, replay_at}
use Rattle.core_laws.proofs.Answers.{replay_state-snoc}
use Rattle.store_commit.specs.View.{DirView, StagedDirectory}
use Rattle.crash_core.specs.declared.change.EntryChange.{EntryChange}
use Rattle.store_commit.specs.declared.change.CommitEnd.TheVariants.{Made, Dropped, Doubtful, Spent}
use Rattle.store_commit.specs.CardEnds.{IsSealedCard}
use Rattle.store_commit.specs.Sides.{Sides}
use Rattle.store_commit.specs.Steps.{IsReady}
use Rattle.commit_gate.specs.FinishedPhases.{phase_under}
use Rattle.commit_gate.specs.CoreGates.{IsCardOf, pending_of, sealed_in, takes_of}
use Rattle.commit_gate.specs.Resting.{IsGateOf, StepsTo}
use Rattle.commit_gate.specs.CommitSteps.{CommitsAreSteps, IsGateCommit, IsForCall}
use Rattle.commit_gate.proofs.Holders.{takes_freed}

-- a write of nothing
no_write : (s : FileState) → Writes 0 0 s s
no_write s = record {
  changes = record { trail = inl refl; settled = λ honest. refl; pending_from = refl; goes_on = goes_on_none s };
  others = λ known place byte off has. has;
  masked = λ tells. reads_masked_none (Outside 0 0) s.arms s.reads;
}

-- the first block of a card that names a directory is set
pub first_set : (blocks : List (List ℕ)) (block : List ℕ) (root : RootRef) → root_in (get_or blocks 0 []) ≡ Ok root → get_or (slice_set blocks 0 block) 0 [] ≡ block
unfolding root_in
first_set [] block root names = absurd (cc (names))
first_set (b ∷ blocks) block root names = refl

pub one_root : (a b : RootRef) → (let r : Result RootRef Refusal = Ok a in r ≡ Ok b) → a ≡ b
one_root a b e = cc

-- a part, field by field
abbrev pub made_of : FileState → CardState → RootRef → List (Option DirEntry) → (takes : ℕ → Option ℕ) → Option PendingCommit → GateView → GatePart
made_of file card root entries takes waits view =
    record { directory = file; card = card; root = root; entries = entries; takes = takes; pending = waits; putting = None; view = view }

module _ (store : Store) (scenario : TamperScenario) (handed : Option Handed) (old new : Sides) (change : EntryChange) (before after : List (Option ℕ)) (card : CardState) (view : GateView)
    (session number : ℕ) (call : Call) (reply : Reply) (tag : Option (Tag Version)) (gate : IsGateOf store old None before card) where
  abbrev phase : Phase
  phase = phase_under store scenario

  abbrev here : ReplayState
  here = replay_at store scenario view.all

  abbrev own : CardState
  own = (gate.told).own

  abbrev start : GatePart
  start = made_of old.file card old.dir.root old.dir.entries (takes_of before) None view

  abbrev commit : PendingCommit
  commit = record { session = session; call = call; change = change; sealed = None }

  abbrev sealed_commit : RootRef → PendingCommit
  sealed_commit root = record { session = session; call = call; change = change; sealed = Some root }

  -- ready for the seal, and sealed
  abbrev prepared : GatePart
  prepared = made_of new.file card old.dir.root old.dir.entries (takes_of before) (Some commit) view

  abbrev sealed_part : RootRef → GatePart
  sealed_part root = made_of new.file (sealed_card card root) old.dir.root old.dir.entries (takes_of before) (Some (sealed_commit root)) view

  abbrev event : Mark → HistoryRecord
  event mark = record { event = CallEvent session number call reply mark; tag = tag }

  abbrev Legal : Mark → Type 0
  Legal mark = IsLegalEvent scenario.tampered here (CallEvent session number call reply mark) (file_of {Root = Version} (event mark))

  module _ (still : Sound new.file) (honest : IsTrusted (phase_under store scenario) directory_file → IsTrue new.file.honest) (keeps : Keeps (Lies old.dir.tree.layout old.dir.tree.nodes old.dir.root.version) old.file new.file) where
    was_honest : IsTrusted phase directory_file → IsTrue old.file.honest
    was_honest trusted = keeps.goes_on.honest (honest trusted)

    -- the commit begins with a write of nothing
    misses : IsTrusted phase directory_file → Misses 0 0 old.file.reads old.dir.root
    misses trusted = record {
      tree = old.dir.tree;
      loads = ((gate.stands.held (was_honest trusted)).firm old.file.reads (reads_left old.file gate.sound)).opens;
      off = λ place ge lt at. omega (arith, lt);
    }

    abbrev begun : GatePart
    begun = made_of old.file card old.dir.root old.dir.entries (takes_of before) (Some commit) view

    begins : GateSteps phase handed start begun
    begins = one_step phase handed start (WriteDirectory commit 0 0) begun
        (write_directory_is_step phase handed start commit 0 0 old.file (inl refl) refl misses (record { called = no_write old.file; sound = gate.sound; honest = was_honest }))

    prepares : GateSteps phase handed start prepared
    prepares =
        let ran = directory_runs_are_steps phase handed begun commit old.dir.tree new.file (inr refl, refl) (gate.stands.form.version, gate.current)
        (λ trusted. (gate.stands.held (was_honest trusted)).firm) keeps.run still honest in
        let waits : ran.0 ≡ Some commit = elim ran.1 [ inl is ↦ is | inr is ↦ is ] in
        steps_then phase handed start begun prepared begins
        (subst (λ (o : Option PendingCommit). GateSteps phase handed begun (made_of new.file card old.dir.root old.dir.entries (takes_of before) o view)) waits ran.2)

    -- the card's counter is the gate's
    counted : card.counter ≡ old.counter
    counted = (gate.told).same.counter ∙ (gate.stands.named own (gate.told).has).counted

    module _ (purpose : IsForCall store scenario handed old view change session call) where
      may_seal : (root : RootRef) → IsReady old new change root → MaySeal phase handed prepared commit root
      may_seal root ready = record {
        form = ready.form;
        current = ready.format ∙ gate.current;
        settled = λ trusted. ready.settled;
        holds = λ trusted. subst (λ (key : List ℕ). directory_of key new.file.reads root ≡ Ok (changed old.dir.entries change)) gate.tsk (ready.holds (honest trusted));
        due = purpose.due;
        made = purpose.made;
        makes = purpose.makes;
        object = purpose.object;
        change = subst (λ (n : ℕ). IsChange (here.state).objects old.dir.entries n purpose.made change purpose.object) (sym counted) purpose.enters;
        shows = purpose.shows;
      }

      seals : (root : RootRef) → IsReady old new change root → GateSteps phase handed start (sealed_part root)
      seals root ready =
          steps_then phase handed start prepared (sealed_part root) prepares
          (one_step phase handed prepared (Seal root) (sealed_part root) (seal_is_step phase handed prepared commit root None refl refl (may_seal root ready)))

      -- the card that the port tells once it is sealed
      sealed_told : (root : RootRef) → IsSealedCard new.port new.key own root → IsCardOf new (sealed_card card root)
      sealed_told root sealed = record {
        own = sealed.next;
        has = sealed.has;
        same = record {
          key = (gate.told).same.key ∙ sym sealed.same.key;
          counter = ap (λ (n : ℕ). n + 1) (gate.told).same.counter ∙ sym sealed.same.counter;
          blocks = ap (λ (l : List (List ℕ)). slice_set l 0 (root_block root)) (gate.told).same.blocks ∙ sym sealed.same.blocks;
        };
      }

      -- MADE
      made_steps : (n : ℕ) → IsGateCommit old new change (Made n) before after → Legal (MadeMark n) → StepsTo store scenario handed start new None after (with_record (event (MadeMark n)) view)
      made_steps n c legal =
          let root : RootRef = new.dir.root in
          let left : GatePart = made_of new.file (sealed_card card root) root (changed old.dir.entries change) (freed change (takes_of before)) None (with_record (event (MadeMark n)) view) in
          let done : GateSteps phase handed start left =
          steps_then phase handed start (sealed_part root) left (seals root c.steps.0)
          (one_step phase handed (sealed_part root) (Append (event (MadeMark n))) left
          (append_made_is_step phase handed (sealed_part root) session number call reply n tag (sealed_commit root) root refl refl refl refl legal)) in
          let entries : changed old.dir.entries change ≡ new.dir.entries = sym c.leaves.entries in
          let takes : freed change (takes_of before) ≡ takes_of after = sym (takes_freed old.dir.entries new.dir.entries before after gate.held c.held change c.ends) in
          record {
            card = sealed_card card root;
            told = sealed_told root (c.steps.1 own (gate.told).has);
            steps = subst (GateSteps phase handed start) (λ j. made_of new.file (sealed_card card root) root (entries j) (takes j) None (with_record (event (MadeMark n)) view)) done;
          }

      -- DROPPED
      abbrev appended : GateView
      appended = with_record (event Unchanged) view

      dropped_steps : (cause : Cause) → IsGateCommit old new change (Dropped cause) before after → Legal Unchanged → StepsTo store scenario handed start new None after appended
      dropped_steps cause c legal =
          let given_up : GatePart = made_of new.file card old.dir.root old.dir.entries (takes_of before) None view in
          let left : GatePart = made_of new.file card old.dir.root old.dir.entries (takes_of before) None appended in
          let gives_up : GateSteps phase handed start given_up =
          steps_then phase handed start prepared given_up prepares
          (one_step phase handed prepared DropCommit given_up (drop_commit_is_step phase handed prepared commit refl refl)) in
          let done : GateSteps phase handed start left =
          steps_then phase handed start given_up left gives_up
          (one_step phase handed given_up (Append (event Unchanged)) left (append_unchanged_is_step phase handed given_up session number call reply tag legal (inl refl))) in
          let dir : old.dir ≡ new.dir = sym c.leaves.same in
          let takes : takes_of before ≡ takes_of after = ap takes_of (sym c.ends) in
          record {
            card = card;
            told = record { own = own; has = c.steps.1 own (gate.told).has; same = (gate.told).same };
            steps = subst (GateSteps phase handed start) (λ j. made_of new.file card (dir j).root (dir j).entries (takes j) None appended) done;
          }

      -- DOUBTFUL
      module _ (n : ℕ) (cause : Cause) (c : IsGateCommit old new change (Doubtful n cause) before after) (legal : Legal (DoubtfulMark n)) where
        abbrev doubted_view : GateView
        doubted_view = with_record (event (DoubtfulMark n)) view

        abbrev doubt : Doubt
        doubt = record { commit = n; session = session; call = call; file = file_of {Root = Version} (event (DoubtfulMark n)) }

        doubt_is : (replay_at store scenario doubted_view.all).doubt ≡ Some doubt
        doubt_is = ap (λ (s : ReplayState). s.doubt) (replay_state-snoc store scenario view.all (event (DoubtfulMark n)))

        waits : (sealed : Option RootRef) (next : CardState) → sealed_in new next ≡ sealed
            → Some (record { session = session; call = call; change = change; sealed = sealed })
            ≡ pending_of (Some (record { number = n; change = change })) (replay_at store scenario doubted_view.all).doubt (sealed_in new next)
        waits sealed next is = sym (λ j. pending_of (Some (record { number = n; change = change })) (doubt_is j) (is j))

        root_is : old.dir.root ≡ new.dir.root
        root_is = sym (ap (λ (d : DirView). d.root) c.leaves.same)

        entries_are : old.dir.entries ≡ new.dir.entries
        entries_are = sym (ap (λ (d : DirView). d.entries) c.leaves.same)

        takes_are : takes_of before ≡ takes_of after
        takes_are = ap takes_of (sym c.ends)

        unsealed_in : sealed_in new card ≡ None
        unsealed_in =
            cond-true (card.counter == new.counter) None (option_map (λ (next : StagedDirectory). next.root) new.dir.stage)
            (eq-eqb card.counter new.counter (counted ∙ sym c.leaves.counted))

        unsealed_steps : HasCard new.port new.key own → StepsTo store scenario handed start new (Some (record { number = n; change = change })) after doubted_view
        unsealed_steps has =
            let left : GatePart = made_of new.file card old.dir.root old.dir.entries (takes_of before) (Some commit) doubted_view in
            let done : GateSteps phase handed start left =
            steps_then phase handed start prepared left prepares
            (one_step phase handed prepared (Append (event (DoubtfulMark n))) left
            (append_doubtful_is_step phase handed prepared session number call reply n tag commit None refl refl refl legal)) in
            let pends = waits None card unsealed_in in
            record {
              card = card;
              told = record { own = own; has = has; same = (gate.told).same };
              steps = subst (GateSteps phase handed start) (λ j. made_of new.file card (root_is j) (entries_are j) (takes_are j) (pends j) doubted_view) done;
            }

        module _ (root : RootRef) (ready : IsReady old new change root) (sealed : IsSealedCard new.port new.key own root) where
          -- the stage in doubt is the one that the seal names
          staged_root : (c.leaves.next).root ≡ root
          staged_root = elim (c.leaves.doubt.named sealed.next sealed.has) [
            | inl names ↦
                let was : own.counter ≡ old.counter = (gate.stands.named own (gate.told).has).counted in
                let is : sealed.next.counter ≡ own.counter + 1 = sealed.same.counter in
                absurd (omega (arith, was, is, names.counted, c.leaves.counted))
            | inr names ↦
                let block : get_or sealed.next.blocks 0 [] ≡ root_block root =
                ap (λ (l : List (List ℕ)). get_or l 0 []) sealed.same.blocks
                ∙ first_set own.blocks (root_block root) old.dir.root (gate.stands.named own (gate.told).has).block in
                one_root (c.leaves.next).root root (sym names.block ∙ ap root_in block ∙ root_in-block root ready.form)
          ]

          sealed_in_new : sealed_in new (sealed_card card root) ≡ Some root
          sealed_in_new =
              cond-false (card.counter + 1 == new.counter) None (option_map (λ (next : StagedDirectory). next.root) new.dir.stage)
              (ne_eqb (card.counter + 1) new.counter (λ same. omega (arith, same, counted, c.leaves.counted)))
              ∙ ap (option_map (λ (next : StagedDirectory). next.root)) c.leaves.doubt.is_open
              ∙ ap (λ (r : RootRef). Some r) staged_root

          sealed_steps : StepsTo store scenario handed start new (Some (record { number = n; change = change })) after doubted_view
          sealed_steps =
              let left : GatePart = made_of new.file (sealed_card card root) old.dir.root old.dir.entries (takes_of before) (Some (sealed_commit root)) doubted_view in
              let done : GateSteps phase handed start left =
              steps_then phase handed start (sealed_part root) left (seals root ready)
              (one_step phase handed (sealed_part root) (Append (event (DoubtfulMark n))) left
              (append_doubtful_is_step phase handed (sealed_part root) session number call reply n tag (sealed_commit root) None refl refl refl legal)) in
              let pends = waits (Some root) (sealed_card card root) sealed_in_new in
              record {
                card = sealed_card card root;
                told = sealed_told root sealed;
                steps = subst (GateSteps phase handed start) (λ j. made_of new.file (sealed_card card root) (root_is j) (entries_are j) (takes_are j) (pends j) doubted_view) done;
              }

        doubtful_steps : StepsTo store scenario handed start new (Some (record { number = n; change = change })) after doubted_view
        doubtful_steps = elim (c.steps.2 own (gate.told).has) [
          | inl has ↦ unsealed_steps has
          | inr sealed ↦ sealed_steps c.steps.0 c.steps.1 sealed
        ]

  -- SPENT
  spent_steps : IsGateCommit old new change Spent before after → Legal Unchanged → StepsTo store scenario handed start new None after (with_record (event Unchanged) view)
  spent_steps c legal =
      let left : GatePart = made_of old.file card old.dir.root old.dir.entries (takes_of before) None (with_record (event Unchanged) view) in
      let done : GateSteps phase handed start left =
      one_step phase handed start (Append (event Unchanged)) left (append_unchanged_is_step phase handed start session number call reply tag legal (inl refl)) in
      let takes : takes_of before ≡ takes_of after = ap takes_of (sym c.ends) in
      subst (λ (g : Sides). StepsTo store scenario handed start g None after (with_record (event Unchanged) view)) (sym c.leaves.same)
      (record {
        card = card;
        told = gate.told;
        steps = subst (GateSteps phase handed start) (λ j. made_of old.file card old.dir.root old.dir.entries (takes j) None (with_record (event Unchanged) view)) done;
      })

-- Each commit with its event is a list of steps.
pub commits_are_steps : CommitsAreSteps
commits_are_steps store scenario handed old new change (Made n) before after card view session number call reply tag gate c purpose honest legal =
    made_steps store scenario handed old new change before after card view session number call reply tag gate c.sound honest c.throughout.keeps purpose n c legal
commits_are_steps store scenario handed old new change (Dropped cause) before after card view session number call reply tag gate c purpose honest legal =
    dropped_steps store scenario handed old new change before after card view session number call reply tag gate c.sound honest c.throughout.keeps purpose cause c legal
commits_are_steps store scenario handed old new change (Doubtful n cause) before after card view session number call reply tag gate c purpose honest legal =
    doubtful_steps store scenario handed old new change before after card view session number call reply tag gate c.sound honest c.throughout.keeps purpose n cause c legal
commits_are_steps store scenario handed old new change Spent before after card view session number call reply tag gate c purpose honest legal =
    spent_steps store scenario handed old new change before after card view session number call reply tag gate c legal
