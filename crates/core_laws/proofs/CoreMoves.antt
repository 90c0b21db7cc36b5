-- A step of a slot is one of the core machine, whatever the other parts are.
use Rattle.std.proofs.Common.{◌≡◌, ◌≢◌, ◌⊎◌, ℕ, ◌<◌, List, eqb, cond, length, IsTrue, Option, Some, None, inl, inr, refl, sym, ◌∙◌, ap, subst}
use Rattle.std.specs.Option.{option_map}
use Rattle.std.proofs.lemmas.Bool.{cases_eq}
use Rattle.disk_model.specs.State.{FileState}
use Rattle.disk_model.specs.Keeps.{FileCall, write, sync, rest}
use Rattle.node_image.specs.declared.node.RootRef.{RootRef}
use Rattle.tee_types.specs.Limits.{IsObjectFile, directory_file}
use Rattle.tee_types.proofs.FileNumbers.{object_not_directory}
use Rattle.store_model.specs.Object.{ObjectMap}
use Rattle.dir_records.specs.declared.entry.DirEntry.{DirEntry}
use Rattle.history_seats.specs.Records.{Version}
use Rattle.crash_core.specs.MountedObject.{root_of}
use Rattle.crash_core.specs.EntryLists.{entry_at}
use Rattle.crash_core.specs.declared.change.EntryChange.{EntryChange}
use Rattle.crash_core.specs.declared.change.EntryChange.TheVariants.{Clear, Put}
use Rattle.crash_core.specs.EntryChanges.{changed, index_of}
use Rattle.crash_core.specs.Mounting.{Held}
use Rattle.crash_core.specs.Sights.{Misses}
use Rattle.crash_core.specs.CoreState.{IsTrusted, PendingCommit, Phase, put}
use Rattle.crash_core.specs.FileSteps.{IsFileStep, MayWrite, MissesNamed, MissesPending, MissesPut, MissesSealed}
use Rattle.crash_core.specs.CoreSteps.{CoreStep, DropStage, IsStep, RestFile, SyncFile, WriteFile}
use Rattle.crash_core.specs.Holding.{entries_held, held_at}
use Rattle.crash_core.proofs.Lists.{map_at, put_else, put_here, set_here}
use Rattle.core_laws.specs.SlotParts.{Knows, SlotHolds, SlotPart}
use Rattle.core_laws.specs.SlotSteps.{CallFile, DropOpenStage, FileUser, IsSlotCall, IsSlotStep, IsStageWritten, Reader, SlotStep, Stager, Taker}
use Rattle.core_laws.specs.GateParts.{GateDirectory, GatePart, GatePending, GateSealed}
use Rattle.core_laws.specs.Joined.{Parts, PartsHold, core_of, files_of}
use Rattle.core_laws.specs.Moves.{MayUse}
use Rattle.core_laws.proofs.JoinedParts.{file_is}
use Rattle.core_laws.proofs.SlotRuns.{spared_missed, step_honest}
use Rattle.core_laws.proofs.Versions.{entry_is_known}

-- FUNCTIONS WITH ANOTHER VALUE AT ONE NUMBER
pub put_same : {A : Type 0} (f : ℕ → A) (n : ℕ) (x : A) → x ≡ f n → put f n x ≡ f
put_same f n x is =
    let same : (k : ℕ) → put f n x k ≡ f k = λ k. elim (cases_eq k n) [
      | inl here ↦ put_here f n x k here ∙ is ∙ ap f (sym here)
      | inr other ↦ put_else f n x k other
    ] in
    (λ j k. same k j)

pub put_twice : {A : Type 0} (f : ℕ → A) (n : ℕ) (x y : A) → put (put f n x) n y ≡ put f n y
put_twice f n x y =
    let same : (k : ℕ) → put (put f n x) n y k ≡ put f n y k = λ k. elim (cases_eq k n) [
      | inl here ↦ put_here (put f n x) n y k here ∙ sym (put_here f n y k here)
      | inr other ↦ put_else (put f n x) n y k other ∙ put_else f n x k other ∙ sym (put_else f n y k other)
    ] in
    (λ j k. same k j)

pub put_map : {A B : Type 0} (g : A → B) (f : ℕ → A) (n : ℕ) (x : A) (k : ℕ) → g (put f n x k) ≡ put (λ i. g (f i)) n (g x) k
put_map g f n x k = elim (cases_eq k n) [
  | inl here ↦ ap g (put_here f n x k here) ∙ sym (put_here (λ i. g (f i)) n (g x) k here)
  | inr other ↦ ap g (put_else f n x k other) ∙ sym (put_else (λ i. g (f i)) n (g x) k other)
]

-- THE CORE WITH ANOTHER SLOT
module _ (g : GatePart) (slots : ℕ → SlotPart) (file : ℕ) (other : file ≢ directory_file) (slot : SlotPart) where
  -- the files with that slot's
  pub files_put : files_of g (put slots file slot) ≡ put (files_of g slots) file slot.file
  files_put =
      let same : (n : ℕ) → files_of g (put slots file slot) n ≡ put (files_of g slots) file slot.file n = λ n. elim (cases_eq n file) [
        | inl is ↦
            file_is g (put slots file slot) n (subst (λ (k : ℕ). k ≢ directory_file) (sym is) other)
            ∙ ap (λ (s : SlotPart). s.file) (put_here slots file slot n is)
            ∙ sym (put_here (files_of g slots) file slot.file n is)
        | inr apart ↦
            ap (λ (s : SlotPart). cond (eqb n directory_file) g.directory s.file) (put_else slots file slot n apart)
            ∙ sym (put_else (files_of g slots) file slot.file n apart)
      ] in
      (λ j n. same n j)

  pub core_put : core_of g (put slots file slot) ≡ record (core_of g slots) { files = put (files_of g slots) file slot.file; stages = put (λ n. (slots n).stage) file slot.stage }
  core_put =
      let stages : (n : ℕ) → (put slots file slot n).stage ≡ put (λ k. (slots k).stage) file slot.stage n = put_map (λ (s : SlotPart). s.stage) slots file slot in
      (λ j. record (core_of g slots) { files = files_put j; stages = (λ n. stages n j) })

  -- where its stage is as it was
  pub core_put_file : slot.stage ≡ (slots file).stage → core_of g (put slots file slot) ≡ record (core_of g slots) { files = put (files_of g slots) file slot.file }
  core_put_file is =
      let stages : put (λ n. (slots n).stage) file slot.stage ≡ (λ n. (slots n).stage) = put_same (λ n. (slots n).stage) file slot.stage is in
      core_put ∙ (λ j. record (core_of g slots) { files = put (files_of g slots) file slot.file; stages = stages j })

-- whose entry stands at a place is held there
pub held_entry : (o : Option Held) (e : DirEntry) → option_map (λ (h : Held). h.entry) o ≡ Some e → (h : Held) × (o ≡ Some h) × (h.entry ≡ e)
held_entry None e is = absurd (cc (is))
held_entry (Some h) e is = (h, refl, cc (is))

pub held_here : (held : List (Option Held)) (entries : List (Option DirEntry)) (index : ℕ) (e : DirEntry) → entries_held held ≡ entries → entry_at entries index ≡ Some e
    → (h : Held) × (held_at held index ≡ Some h) × (h.entry ≡ e)
held_here held entries index e is at =
    held_entry (held_at held index) e
    (sym (map_at (option_map (λ (h : Held). h.entry)) held index refl) ∙ ap (λ (l : List (Option DirEntry)). entry_at l index) is ∙ at)

-- A SLOT'S STEP
module _ (phase : Phase) (p : Parts) (h : PartsHold phase p) (file : ℕ) (of_object : IsObjectFile file) (free : (x : Held) → p.gate.putting ≡ Some x → x.entry.file ≢ file) where
  abbrev old : SlotPart
  old = p.slots file

  other : file ≢ directory_file
  other = object_not_directory file of_object.0 of_object.1

  here : (p.slots file).file ≡ files_of p.gate p.slots file
  here = sym (file_is p.gate p.slots file other)

  module _ (user : FileUser) (from upto : ℕ) (new : SlotPart) (step : IsSlotCall user (write from upto) (p.slots file) new) (honest : IsTrusted phase file → IsTrue new.file.honest) (trusted : IsTrusted phase file) where
    -- the write misses what an entry of the file selects
    misses_entry : (dir : RootRef) (entries : List (Option DirEntry)) (objects : ObjectMap) → GateDirectory phase p.gate.directory p.gate.view p.gate.putting dir entries objects
        → (index : ℕ) (e : DirEntry) → entry_at entries index ≡ Some e → file ≡ e.file → Misses from upto (p.slots file).file.reads (root_of e)
    misses_entry dir entries objects d index e at own =
        let found = held_here d.held entries index e d.holds at in
        let x : Held = found.0 in
        let of_file : x.entry.file ≡ file = ap (λ (y : DirEntry). y.file) found.2 ∙ sym own in
        let slot : SlotHolds phase.keys old = h.slots file other in
        let was : IsTrue old.file.honest = step_honest user old (CallFile (write from upto)) new step (honest trusted) in
        let spares = step.spares (honest trusted) in
        elim (d.each index x found.1 (subst (IsTrusted phase) (sym of_file) trusted)) [
          | inl known ↦
              let v : Version = known.0 in
              let knows : Knows old.view v = entry_is_known p.gate.view old.view x.entry v (h.fit.fits file of_object) (h.fit.numbered file other ∙ sym of_file) known.1 in
              subst (Misses from upto old.file.reads) (known.2.root ∙ ap root_of found.2)
              (spared_missed phase.keys old.file old.view (write from upto) v slot.sound (slot.stands was v knows) knows spares)
          | inr putting ↦ absurd (free x putting of_file)
        ]

    misses_named : MissesNamed from upto (p.slots file).file.reads p.gate.entries file
    misses_named root named = subst (Misses from upto old.file.reads) (sym named.is_root) (misses_entry p.gate.root p.gate.entries _ h.gate.committed named.index named.entry named.at named.is_file)

    misses_put : (change : EntryChange) (dir : RootRef) (objects : ObjectMap) → index_of change < length p.gate.entries
        → GateDirectory phase p.gate.directory p.gate.view p.gate.putting dir (changed p.gate.entries change) objects → MissesPut from upto (p.slots file).file.reads change file
    misses_put (Put index e) dir objects place d = λ own. misses_entry dir (changed p.gate.entries (Put index e)) objects d index e (set_here p.gate.entries index (Some e) place) own
    misses_put (Clear index) dir objects place d = tt

    misses_sealed : (commit : PendingCommit) (sealed : Option RootRef) → GateSealed phase p.gate commit sealed → MissesSealed from upto (p.slots file).file.reads commit.change sealed file
    misses_sealed commit None names = tt
    misses_sealed commit (Some dir) seal = misses_put commit.change dir _ seal.place seal.directory

    misses_pending : (pending : Option PendingCommit) → GatePending phase p.gate pending → MissesPending from upto (p.slots file).file.reads pending file
    misses_pending None names = tt
    misses_pending (Some commit) stands = misses_sealed commit commit.sealed stands

  -- there is a step of the core machine
  abbrev pub StepsTo : SlotPart → Type 0
  StepsTo new = (step : CoreStep Version) × IsStep phase (core_of p.gate p.slots) step (core_of p.gate (put p.slots file new))

  module _ (user : FileUser) (new : SlotPart) (honest : IsTrusted phase file → IsTrue new.file.honest) where
    file_step : (call : FileCall) → IsSlotCall user call (p.slots file) new → IsFileStep phase file call (files_of p.gate p.slots file) new.file
    file_step call c = subst (λ (s : FileState). IsFileStep phase file call s new.file) here (record { called = c.called; sound = c.sound; honest = honest })

    module _ (from upto : ℕ) (c : IsSlotCall user (write from upto) (p.slots file) new) where
      named : IsTrusted phase file → MissesNamed from upto (files_of p.gate p.slots file).reads p.gate.entries file
      named trusted = subst (λ (s : FileState). MissesNamed from upto s.reads p.gate.entries file) here (misses_named user from upto new c honest trusted)

      sealed : IsTrusted phase file → MissesPending from upto (files_of p.gate p.slots file).reads p.gate.pending file
      sealed trusted =
          subst (λ (s : FileState). MissesPending from upto s.reads p.gate.pending file) here
          (misses_pending user from upto new c honest trusted p.gate.pending h.gate.pending)

      abbrev stages : ℕ → Option ℕ
      stages = put (λ n. (p.slots n).stage) file new.stage

      write_step : (actor : ℕ) → MayWrite phase (core_of p.gate p.slots) actor file (put (λ n. (p.slots n).stage) file new.stage) → StepsTo new
      write_step actor may = (
        WriteFile actor file from upto,
        (other, stages, may, named, sealed, new.file, file_step (write from upto) c, core_put p.gate p.slots file other new),
      )

      same_stages : new.stage ≡ (p.slots file).stage → put (λ n. (p.slots n).stage) file new.stage ≡ (λ n. (p.slots n).stage)
      same_stages is = put_same (λ n. (p.slots n).stage) file new.stage is

      staged : (actor : ℕ) → MayUse p.gate file (Stager actor) → ((p.slots file).stage ≡ None) ⊎ ((p.slots file).stage ≡ Some actor) → new.stage ≡ Some actor
          → MayWrite phase (core_of p.gate p.slots) actor file (put (λ n. (p.slots n).stage) file new.stage)
      staged actor may (inl none) is = inr (inr (
        record {
          none = none;
          root = may.0;
          named = may.1;
          current = may.2;
          loads = λ trusted. let missed = named trusted may.0 may.1 in (missed.tree, missed.loads);
        },
        ap (λ (o : Option ℕ). put (λ n. (p.slots n).stage) file o) is,
      ))
      staged actor may (inr own) is = inr (inl (own, same_stages (is ∙ sym own)))

    write_is_step : (u : FileUser) (from upto : ℕ) → MayUse p.gate file u → IsSlotCall user (write from upto) (p.slots file) new → IsStageWritten u (p.slots file).stage new.stage → StepsTo new
    write_is_step Reader from upto may c stage = absurd stage
    write_is_step (Taker actor) from upto may c stage = write_step from upto c actor (inl (may, same_stages from upto c stage))
    write_is_step (Stager actor) from upto may c stage = write_step from upto c actor (staged from upto c actor may stage.0 stage.1)

    call_is_step : (call : FileCall) → MayUse p.gate file user → IsSlotCall user call (p.slots file) new → StepsTo new
    call_is_step (write from upto) may c = write_is_step user from upto may c c.stage
    call_is_step sync may c = (SyncFile file, (other, new.file, file_step sync c, core_put_file p.gate p.slots file other new c.stage))
    call_is_step rest may c = (RestFile file, (new.file, file_step rest c, core_put_file p.gate p.slots file other new c.stage))

    drop_is_step : new ≡ record (p.slots file) { stage = None } → StepsTo new
    drop_is_step is =
        let dropped : SlotPart = record old { stage = None } in
        let files : put (files_of p.gate p.slots) file dropped.file ≡ files_of p.gate p.slots = put_same (files_of p.gate p.slots) file dropped.file here in
        let core : core_of p.gate (put p.slots file dropped) ≡ record (core_of p.gate p.slots) { stages = put (λ n. (p.slots n).stage) file None } =
        core_put p.gate p.slots file other dropped ∙ (λ j. record (core_of p.gate p.slots) { files = files j; stages = put (λ n. (p.slots n).stage) file None }) in
        (DropStage file, ap (λ (s : SlotPart). core_of p.gate (put p.slots file s)) is ∙ core)

    -- Each step of the slot is one of the core machine.
    pub slot_step_is_step : (step : SlotStep) → MayUse p.gate file user → IsSlotStep user (p.slots file) step new → StepsTo new
    slot_step_is_step (CallFile call) may c = call_is_step call may c
    slot_step_is_step DropOpenStage may is = drop_is_step is
