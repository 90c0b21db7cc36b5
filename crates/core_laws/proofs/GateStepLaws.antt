-- What makes a step of the gate: what is asked of it speaks of the gate's part, and of the slot that it is handed.
use Rattle.std.proofs.Common.{◌≡◌, ◌≢◌, ◌⊎◌, ℕ, List, [], ◌∷◌, ◌++◌, eqb, Option, Some, None, Ok, inl, inr, refl, sym, ◌∙◌, ap, subst, eq-eqb, ne_eqb}
use Rattle.std.proofs.lemmas.Bool.{cases_eq, cond-false, cond-true}
use Rattle.disk_model.specs.State.{FileState, pending}
use Rattle.disk_model.specs.Keeps.{write, sync, rest}
use Rattle.node_image.specs.declared.node.RootRef.{RootRef}
use Rattle.tee_types.specs.Limits.{directory_file}
use Rattle.tee_types.specs.declared.call.Call.{Call}
use Rattle.tee_types.specs.declared.reply.Reply.{Reply}
use Rattle.store_model.specs.declared.event.Event.TheVariants.{Call as CallEvent, Landed}
use Rattle.store_model.specs.declared.event.Mark.TheVariants.{Unchanged, Made, Doubtful}
use Rattle.store_model.specs.Record.{Tag, file_of}
use Rattle.store_model.specs.Object.{Object}
use Rattle.store_model.specs.Doubt.{Doubt}
use Rattle.store_model.specs.ReplayState.{replay_after}
use Rattle.store_model.specs.Legal.{IsLegalEvent}
use Rattle.history_seats.specs.Records.{HistoryRecord, Version}
use Rattle.history_seats.specs.Views.{GateView}
use Rattle.history_seats.specs.Changes.{with_record}
use Rattle.crash_core.specs.DeviceKeys.{directory_key}
use Rattle.crash_core.specs.Directory.{directory_of}
use Rattle.crash_core.specs.EntryLists.{IsUnnamed}
use Rattle.crash_core.specs.declared.change.EntryChange.{EntryChange}
use Rattle.crash_core.specs.declared.change.EntryChange.TheVariants.{Clear, Put}
use Rattle.crash_core.specs.EntryChanges.{changed, file_put}
use Rattle.crash_core.specs.Mounting.{Held}
use Rattle.crash_core.specs.Sights.{Misses, Shows}
use Rattle.crash_core.specs.CoreState.{Core, IsTrusted, PendingCommit, Phase, put}
use Rattle.crash_core.specs.FileSteps.{IsFileStep}
use Rattle.crash_core.specs.Seals.{PutShows, sealed_card}
use Rattle.crash_core.specs.Appends.{freed}
use Rattle.crash_core.specs.CoreSteps.{Append, CoreStep, DropCommit, DropTaking, IsStep, RestFile, Seal, SyncDirectory, TakeFile, WriteDirectory}
use Rattle.core_laws.specs.SlotParts.{SlotPart}
use Rattle.core_laws.specs.GateParts.{GatePart, replay_of}
use Rattle.core_laws.specs.GateSteps.{GateSteps, Handed, IsGateRun, IsGateStep, IsHanded}
use Rattle.core_laws.specs.GateLaws.{HandedShows, MaySeal}
use Rattle.core_laws.specs.Joined.{core_of, files_of}
use Rattle.core_laws.proofs.JoinedParts.{directory_is, file_is}

-- the files with another directory's file
directory_put : (g : GatePart) (slots : ℕ → SlotPart) (new : FileState) → files_of (record g { directory = new }) slots ≡ put (files_of g slots) directory_file new
directory_put g slots new =
    let same : (n : ℕ) → files_of (record g { directory = new }) slots n ≡ put (files_of g slots) directory_file new n = λ n. elim (cases_eq n directory_file) [
      | inl is ↦
          let on = eq-eqb n directory_file is in
          cond-true (eqb n directory_file) new (slots n).file on ∙ sym (cond-true (eqb n directory_file) new (files_of g slots n) on)
      | inr other ↦
          let off = ne_eqb n directory_file other in
          cond-false (eqb n directory_file) new (slots n).file off
          ∙ sym (cond-false (eqb n directory_file) new (files_of g slots n) off ∙ cond-false (eqb n directory_file) g.directory (slots n).file off)
    ] in
    (λ j n. same n j)

-- what holds of the gate's directory holds of the file of its number
of_directory : (g : GatePart) (slots : ℕ → SlotPart) (P : FileState → Type 0) → P g.directory → P (files_of g slots directory_file)
of_directory g slots P own = subst P (sym (directory_is g slots)) own

module _ (phase : Phase) (handed : Option Handed) (g : GatePart) where
  -- A free file is taken, or is no longer.
  pub take_is_step : (actor file : ℕ) → file ≢ directory_file → IsUnnamed g.entries file → ((p : PendingCommit) → g.pending ≡ Some p → file_put p.change ≢ Some file) → g.takes file ≡ None
      → IsGateStep phase handed g (TakeFile actor file) (record g { takes = put g.takes file (Some actor) })
  take_is_step actor file other unnamed unput free slots known = (other, unnamed, unput, free, refl)

  pub drop_taking_is_step : (file : ℕ) → ((p : PendingCommit) → g.pending ≡ Some p → file_put p.change ≢ Some file)
      → IsGateStep phase handed g (DropTaking file) (record g { takes = put g.takes file None })
  drop_taking_is_step file unput slots known = (unput, refl)

  -- A write of the directory's file is for the commit that is pending, or makes it so.
  pub write_directory_is_step : (p : PendingCommit) (from upto : ℕ) (new : FileState) → ((g.pending ≡ None) ⊎ (g.pending ≡ Some p)) → p.sealed ≡ None → (IsTrusted phase directory_file → Misses from upto g.directory.reads g.root)
      → IsFileStep phase directory_file (write from upto) g.directory new → IsGateStep phase handed g (WriteDirectory p from upto) (record g { directory = new; pending = Some p })
  write_directory_is_step p from upto new open_ unsealed misses step slots known = (
    (open_, unsealed),
    of_directory g slots (λ (s : FileState). IsTrusted phase directory_file → Misses from upto s.reads g.root) misses,
    new,
    of_directory g slots (λ (s : FileState). IsFileStep phase directory_file (write from upto) s new) step,
    (λ j. record (core_of g slots) { files = directory_put g slots new j; pending = Some p }),
  )

  pub sync_directory_is_step : (new : FileState) → IsFileStep phase directory_file sync g.directory new → IsGateStep phase handed g SyncDirectory (record g { directory = new })
  sync_directory_is_step new step slots known = (new, of_directory g slots (λ (s : FileState). IsFileStep phase directory_file sync s new) step, (λ j. record (core_of g slots) { files = directory_put g slots new j }))

  pub rest_directory_is_step : (new : FileState) → IsFileStep phase directory_file rest g.directory new → IsGateStep phase handed g (RestFile directory_file) (record g { directory = new })
  rest_directory_is_step new step slots known = (new, of_directory g slots (λ (s : FileState). IsFileStep phase directory_file rest s new) step, (λ j. record (core_of g slots) { files = directory_put g slots new j }))

  -- A commit that is not sealed is dropped.
  pub drop_commit_is_step : (p : PendingCommit) → g.pending ≡ Some p → p.sealed ≡ None → IsGateStep phase handed g DropCommit (record g { pending = None })
  drop_commit_is_step p is unsealed slots known = (p, is, unsealed, refl)

  -- What the core machine does not see of the gate may change.
  pub unseen_is_run : (putting : Option Held) (view : GateView) → view.all ≡ g.view.all → IsGateRun phase handed g [] (record g { putting = putting; view = view })
  unseen_is_run putting view same slots = (λ j. record (core_of g slots) { history = same j })

handed_shows : (phase : Phase) (handed : Option Handed) (g : GatePart) (change : EntryChange) (object : Object) (slots : ℕ → SlotPart) → IsHanded handed slots → HandedShows phase handed change object
    → PutShows phase (files_of g slots) change object
handed_shows phase (Some handed) g (Put index e) object slots known shows =
    let is : handed.state ≡ files_of g slots e.file = sym known ∙ ap (λ (n : ℕ). (slots n).file) shows.0 ∙ sym (file_is g slots e.file shows.1) in
    λ trusted. subst (λ (s : FileState). Shows phase.keys s e object) is (shows.2 trusted)
handed_shows phase (Some handed) g (Clear index) object slots known shows = tt
handed_shows phase None g (Put index e) object slots known shows = absurd shows
handed_shows phase None g (Clear index) object slots known shows = tt

module _ (phase : Phase) (handed : Option Handed) (g : GatePart) where
  -- The card is written.
  pub seal_is_step : (p : PendingCommit) (dir : RootRef) (putting : Option Held) → g.pending ≡ Some p → p.sealed ≡ None → MaySeal phase handed g p dir
      → IsGateStep phase handed g (Seal dir) (record g { card = sealed_card g.card dir; pending = Some (record p { sealed = Some dir }); putting = putting })
  seal_is_step p dir putting is unsealed may slots known = (
    p,
    is,
    unsealed,
    record {
      form = may.form;
      current = may.current;
      settled = of_directory g slots (λ (s : FileState). IsTrusted phase directory_file → pending s ≡ []) may.settled;
      holds = of_directory g slots (λ (s : FileState). IsTrusted phase directory_file → directory_of (directory_key phase.keys) s.reads dir ≡ Ok (changed g.entries p.change)) may.holds;
      due = may.due;
      made = may.made;
      makes = may.makes;
      object = may.object;
      change = may.change;
      shows = handed_shows phase handed g p.change may.object slots known may.shows;
    },
    refl,
  )

  -- the gate with one record more, and another view of the same history
  abbrev pub appended : HistoryRecord → GatePart → GatePart
  appended r old = record old { view = with_record r old.view }

  -- An event is appended that changes nothing.
  pub append_unchanged_is_step : (session number : ℕ) (call : Call) (reply : Reply) (tag : Option (Tag Version))
      → IsLegalEvent phase.tampered (replay_of phase g.view) (CallEvent session number call reply Unchanged) (file_of {Root = Version} (record { event = CallEvent session number call reply Unchanged; tag = tag }))
      → ((g.pending ≡ None) ⊎ ((replay_after (replay_of phase g.view) (CallEvent session number call reply Unchanged) (file_of {Root = Version} (record { event = CallEvent session number call reply Unchanged; tag = tag }))).state
      ≡ (replay_of phase g.view).state))
      → IsGateStep phase handed g (Append (record { event = CallEvent session number call reply Unchanged; tag = tag })) (appended (record { event = CallEvent session number call reply Unchanged; tag = tag }) g)
  append_unchanged_is_step session number call reply tag legal still slots known = record { legal = legal; done = core_of g slots; does = (refl, still); is = refl }

  -- A commit is left in doubt.
  pub append_doubtful_is_step : (session number : ℕ) (call : Call) (reply : Reply) (commit : ℕ) (tag : Option (Tag Version)) (p : PendingCommit) (putting : Option Held) → g.pending ≡ Some p → p.session ≡ session → p.call ≡ call
      → IsLegalEvent phase.tampered (replay_of phase g.view) (CallEvent session number call reply (Doubtful commit)) (file_of {Root = Version} (record { event = CallEvent session number call reply (Doubtful commit); tag = tag }))
      → IsGateStep phase handed g (Append (record { event = CallEvent session number call reply (Doubtful commit); tag = tag }))
      (record g { putting = putting; view = with_record (record { event = CallEvent session number call reply (Doubtful commit); tag = tag }) g.view })
  append_doubtful_is_step session number call reply commit tag p putting is of_session of_call legal slots known =
      record { legal = legal; done = core_of g slots; does = (refl, p, record { is = is; session_is = of_session; call_is = of_call }); is = refl }

  -- A sealed commit is made.
  pub append_made_is_step : (session number : ℕ) (call : Call) (reply : Reply) (commit : ℕ) (tag : Option (Tag Version)) (p : PendingCommit) (dir : RootRef) → g.pending ≡ Some p → p.session ≡ session → p.call ≡ call → p.sealed ≡ Some dir
      → IsLegalEvent phase.tampered (replay_of phase g.view) (CallEvent session number call reply (Made commit)) (file_of {Root = Version} (record { event = CallEvent session number call reply (Made commit); tag = tag }))
      → IsGateStep phase handed g (Append (record { event = CallEvent session number call reply (Made commit); tag = tag })) (record g {
        root = dir;
        entries = changed g.entries p.change;
        takes = freed p.change g.takes;
        pending = None;
        putting = None;
        view = with_record (record { event = CallEvent session number call reply (Made commit); tag = tag }) g.view;
      })
  append_made_is_step session number call reply commit tag p dir is of_session of_call sealed legal slots known = record {
    legal = legal;
    done = record (core_of g slots) { root = dir; entries = changed g.entries p.change; takes = freed p.change g.takes; pending = None };
    does = record { commit = p; of = record { is = is; session_is = of_session; call_is = of_call }; dir = dir; sealed = sealed; next = refl };
    is = refl;
  }

  -- So is one in doubt that landed.
  pub append_landed_is_step : (commit : ℕ) (tag : Option (Tag Version)) (doubt : Doubt) (p : PendingCommit) (dir : RootRef) → (replay_of phase g.view).doubt ≡ Some doubt → g.pending ≡ Some p → p.session ≡ doubt.session → p.call ≡ doubt.call
      → p.sealed ≡ Some dir → IsLegalEvent phase.tampered (replay_of phase g.view) (Landed commit) (file_of {Root = Version} (record { event = Landed commit; tag = tag }))
      → IsGateStep phase handed g (Append (record { event = Landed commit; tag = tag })) (record g {
        root = dir;
        entries = changed g.entries p.change;
        takes = freed p.change g.takes;
        pending = None;
        putting = None;
        view = with_record (record { event = Landed commit; tag = tag }) g.view;
      })
  append_landed_is_step commit tag doubt p dir open_ is of_session of_call sealed legal slots known = record {
    legal = legal;
    done = record (core_of g slots) { root = dir; entries = changed g.entries p.change; takes = freed p.change g.takes; pending = None };
    does = (doubt, open_, record { commit = p; of = record { is = is; session_is = of_session; call_is = of_call }; dir = dir; sealed = sealed; next = refl });
    is = refl;
  }

-- LISTS OF STEPS
module _ (phase : Phase) where
  -- one step, and one after others
  pub one_step : (handed : Option Handed) (old : GatePart) (step : CoreStep Version) (new : GatePart) → IsGateStep phase handed old step new → GateSteps phase handed old new
  one_step handed old step new is = record { steps = step ∷ []; run = (new, is, λ slots. refl) }

  run_from : (handed : Option Handed) (a b : GatePart) (ys : List (CoreStep Version)) (c : GatePart) → ((slots : ℕ → SlotPart) → core_of b slots ≡ core_of a slots) → IsGateRun phase handed b ys c
      → IsGateRun phase handed a ys c
  run_from handed a b [] c same run = λ slots. run slots ∙ same slots
  run_from handed a b (y ∷ ys) c same run =
      (run.0, λ slots known. subst (λ (x : Core Version). IsStep phase x y (core_of run.0 slots)) (same slots) (run.1 slots known), run.2)

  run_then : (handed : Option Handed) (a : GatePart) (xs : List (CoreStep Version)) (b : GatePart) (ys : List (CoreStep Version)) (c : GatePart) → IsGateRun phase handed a xs b → IsGateRun phase handed b ys c
      → IsGateRun phase handed a (xs ++ ys) c
  run_then handed a [] b ys c first second = run_from handed a b ys c first second
  run_then handed a (x ∷ xs) b ys c first second = (first.0, first.1, run_then handed first.0 xs b ys c first.2 second)

  -- What the calls of the gate do, one after another.
  pub steps_then : (handed : Option Handed) (a b c : GatePart) → GateSteps phase handed a b → GateSteps phase handed b c → GateSteps phase handed a c
  steps_then handed a b c first second = record { steps = first.steps ++ second.steps; run = run_then handed a first.steps b second.steps c first.run second.run }

  -- what is done with no slot is done with any
  with_any : (handed : Option Handed) (old : GatePart) (steps : List (CoreStep Version)) (new : GatePart) → IsGateRun phase None old steps new → IsGateRun phase handed old steps new
  with_any handed old [] new run = run
  with_any handed old (step ∷ steps) new run = (run.0, λ slots known. run.1 slots tt, with_any handed run.0 steps new run.2)

  pub steps_with_any : (handed : Option Handed) (old new : GatePart) → GateSteps phase None old new → GateSteps phase handed old new
  steps_with_any handed old new s = record { steps = s.steps; run = with_any handed old s.steps new s.run }
