-- Moves of the parts, in any order, are one run of the core machine, and keep what holds of each part.
use Rattle.std.proofs.Common.{◌≡◌, ◌≢◌, ◌⊎◌, ℕ, List, [], ◌∷◌, ◌++◌, IsTrue, Option, Some, inl, inr, refl, sym, ◌∙◌, ap, subst}
use Rattle.std.proofs.lemmas.Bool.{cases_eq}
use Rattle.disk_model.specs.State.{FileState}
use Rattle.tee_types.specs.Limits.{IsObjectFile, directory_file}
use Rattle.tee_types.proofs.FileNumbers.{object_not_directory}
use Rattle.history_seats.specs.Records.{Version}
use Rattle.history_seats.specs.Rule.{SlotFits}
use Rattle.history_seats.specs.Views.{SlotView}
use Rattle.crash_core.specs.Mounting.{Held}
use Rattle.crash_core.specs.Sights.{Shows}
use Rattle.crash_core.specs.CoreState.{Core, IsTrusted, Phase, put}
use Rattle.crash_core.specs.CoreSteps.{CoreStep, IsRun}
use Rattle.crash_core.proofs.Lists.{put_each, put_else, put_here}
use Rattle.core_laws.specs.SlotParts.{SlotHolds, SlotPart}
use Rattle.core_laws.specs.SlotSteps.{FileUser, IsSlotRun, IsSlotStep, SlotStep}
use Rattle.core_laws.specs.GateParts.{GatePart}
use Rattle.core_laws.specs.GateSteps.{Handed, IsGateRun, IsHanded}
use Rattle.core_laws.specs.Joined.{Parts, PartsFit, PartsHold, core_of, files_of}
use Rattle.core_laws.specs.Moves.{AreMoves, GateMoves, MayUse, MovesTo, SlotMoves}
use Rattle.core_laws.proofs.CoreMoves.{files_put, put_same, put_twice, slot_step_is_step}
use Rattle.core_laws.proofs.JoinedParts.{each_file, file_is}
use Rattle.core_laws.proofs.SlotRuns.{run_honest, step_holds, step_view}

-- runs of the core machine compose
pub run_then : (phase : Phase) (a : Core Version) (xs : List (CoreStep Version)) (b : Core Version) (ys : List (CoreStep Version)) (c : Core Version) → IsRun phase a xs b → IsRun phase b ys c
    → IsRun phase a (xs ++ ys) c
run_then phase a [] b ys c first second = subst (λ (x : Core Version). IsRun phase x ys c) first second
run_then phase a (x ∷ xs) b ys c first second = (first.0, first.1, run_then phase first.0 xs b ys c first.2 second)

pub moves_then : (phase : Phase) (a b c : Parts) → MovesTo phase a b → MovesTo phase b c → MovesTo phase a c
moves_then phase a b c first second = record {
  steps = first.steps ++ second.steps;
  run = run_then phase (core_of a.gate a.slots) first.steps (core_of b.gate b.slots) second.steps (core_of c.gate c.slots) first.run second.run;
  holds = second.holds;
}

pub moves_none : (phase : Phase) (p : Parts) → PartsHold phase p → MovesTo phase p p
moves_none phase p h = record { steps = []; run = refl; holds = h }

-- the parts with another slot
abbrev pub with_slot : Parts → ℕ → SlotPart → Parts
with_slot p file slot = record { gate = p.gate; slots = put p.slots file slot }

-- ONE SLOT
module _ (phase : Phase) (file : ℕ) (of_object : IsObjectFile file) (user : FileUser) where
  module _ (p : Parts) (h : PartsHold phase p) (free : (x : Held) → p.gate.putting ≡ Some x → x.entry.file ≢ file) (step : SlotStep) (new : SlotPart)
      (is : IsSlotStep user (p.slots file) step new) (honest : IsTrusted phase file → IsTrue new.file.honest) where
    view_is : new.view ≡ (p.slots file).view
    view_is = step_view user (p.slots file) step new is

    fit_stays : PartsFit phase p.gate (put p.slots file new)
    fit_stays = record {
      numbered = λ n. put_each (λ (k : ℕ) (s : SlotPart). k ≢ directory_file → s.view.file ≡ k) p.slots file new n (λ other. ap (λ (view : SlotView). view.file) view_is ∙ h.fit.numbered file other) (h.fit.numbered n);
      fits = λ n. put_each (λ (k : ℕ) (s : SlotPart). IsObjectFile k → SlotFits p.gate.view s.view) p.slots file new n
          (λ own. subst (SlotFits p.gate.view) (sym view_is) (h.fit.fits file own)) (h.fit.fits n);
      putting = λ x putting trusted.
          subst (λ (s : SlotPart). Shows phase.keys s.file x.entry x.object) (sym (put_else p.slots file new x.entry.file (free x putting))) (h.fit.putting x putting trusted);
    }

    step_parts : PartsHold phase (with_slot p file new)
    step_parts = record {
      gate = h.gate;
      slots = λ n. put_each (λ (k : ℕ) (s : SlotPart). k ≢ directory_file → SlotHolds phase.keys s) p.slots file new n
          (λ other. step_holds user phase.keys (p.slots file) step new (h.slots file other) is) (h.slots n);
      fit = fit_stays;
      honest = λ n. subst (λ (f : ℕ → FileState). IsTrusted phase n → IsTrue (f n).honest) (sym (files_put p.gate p.slots file (object_not_directory file of_object.0 of_object.1) new))
          (put_each (λ (k : ℕ) (s : FileState). IsTrusted phase k → IsTrue s.honest) (files_of p.gate p.slots) file new.file n honest (h.honest n));
    }

    step_moves : MayUse p.gate file user → MovesTo phase p (with_slot p file new)
    step_moves may =
        let taken = slot_step_is_step phase p h file of_object free user new honest step may is in
        record { steps = taken.0 ∷ []; run = (core_of p.gate (put p.slots file new), taken.1, refl); holds = step_parts }

  -- A run of a slot moves the parts.
  run_moves : (p : Parts) → PartsHold phase p → ((x : Held) → p.gate.putting ≡ Some x → x.entry.file ≢ file) → MayUse p.gate file user → (steps : List SlotStep) (new : SlotPart)
      → IsSlotRun user (p.slots file) steps new → (IsTrusted phase file → IsTrue new.file.honest) → MovesTo phase p (with_slot p file new)
  run_moves p h free may [] new run honest =
      let same : p ≡ with_slot p file new = (λ j. record { gate = p.gate; slots = sym (put_same p.slots file new run) j }) in
      subst (MovesTo phase p) same (moves_none phase p h)
  run_moves p h free may (step ∷ steps) new run honest =
      let mid : SlotPart = run.0 in
      let then : Parts = with_slot p file mid in
      let fine : IsTrusted phase file → IsTrue mid.file.honest = λ trusted. run_honest user mid steps new run.2 (honest trusted) in
      let first : MovesTo phase p then = step_moves p h free step mid run.1 fine may in
      let second : MovesTo phase then (with_slot then file new) =
      run_moves then first.holds free may steps new (subst (λ (s : SlotPart). IsSlotRun user s steps new) (sym (put_here p.slots file mid file refl)) run.2) honest in
      let same : with_slot then file new ≡ with_slot p file new = (λ j. record { gate = p.gate; slots = put_twice p.slots file mid new j }) in
      subst (MovesTo phase p) same (moves_then phase p then (with_slot then file new) first second)

slot_moves : (phase : Phase) (old new : Parts) → PartsHold phase old → SlotMoves phase old new → MovesTo phase old new
slot_moves phase old new h m =
    let same : with_slot old m.file m.slot ≡ new = (λ j. record { gate = sym m.gate_is j; slots = sym m.slots_are j }) in
    subst (MovesTo phase old) same (run_moves phase m.file m.of_object m.user old h m.free m.may m.steps.steps m.slot m.steps.run m.honest)

-- THE GATE
-- a run of the gate is one of the core machine, whatever the other slots are
pub gate_run_is_run : (phase : Phase) (handed : Option Handed) (old : GatePart) (steps : List (CoreStep Version)) (new : GatePart) (slots : ℕ → SlotPart) → IsHanded handed slots
    → IsGateRun phase handed old steps new → IsRun phase (core_of old slots) steps (core_of new slots)
gate_run_is_run phase handed old [] new slots known run = run slots
gate_run_is_run phase handed old (step ∷ steps) new slots known run = (core_of run.0 slots, run.1 slots known, gate_run_is_run phase handed run.0 steps new slots known run.2)

module _ (phase : Phase) (old new : Parts) (h : PartsHold phase old) (m : GateMoves phase old new) where
  abbrev slots : ℕ → SlotPart
  slots = put old.slots m.file m.slot

  same_file : (n : ℕ) → (put old.slots m.file m.slot n).file ≡ (old.slots n).file
  same_file n = elim (cases_eq n m.file) [
    | inl is ↦ ap (λ (s : SlotPart). s.file) (put_here old.slots m.file m.slot n is) ∙ m.same_file ∙ ap (λ (k : ℕ). (old.slots k).file) (sym is)
    | inr other ↦ ap (λ (s : SlotPart). s.file) (put_else old.slots m.file m.slot n other)
  ]

  same_stage : (n : ℕ) → (put old.slots m.file m.slot n).stage ≡ (old.slots n).stage
  same_stage n = elim (cases_eq n m.file) [
    | inl is ↦ ap (λ (s : SlotPart). s.stage) (put_here old.slots m.file m.slot n is) ∙ m.same_stage ∙ ap (λ (k : ℕ). (old.slots k).stage) (sym is)
    | inr other ↦ ap (λ (s : SlotPart). s.stage) (put_else old.slots m.file m.slot n other)
  ]

  -- the core machine does not see what the slots know
  same_core : core_of new.gate old.slots ≡ core_of new.gate (put old.slots m.file m.slot)
  same_core = (λ j. core_of new.gate (λ n. record { file = sym (same_file n) j; view = (slots n).view; stage = sym (same_stage n) j }))

  gate_parts : PartsHold phase (record { gate = new.gate; slots = put old.slots m.file m.slot })
  gate_parts = record {
    gate = m.holds;
    slots = λ n. put_each (λ (k : ℕ) (s : SlotPart). k ≢ directory_file → SlotHolds phase.keys s) old.slots m.file m.slot n m.slot_holds (h.slots n);
    fit = subst (PartsFit phase new.gate) m.slots_are m.fit;
    honest = each_file new.gate (put old.slots m.file m.slot) (λ n s. IsTrusted phase n → IsTrue s.honest) m.honest
        (λ n other trusted.
        subst (λ (s : FileState). IsTrue s.honest) (file_is old.gate old.slots n other ∙ sym (same_file n)) (h.honest n trusted));
  }

  gate_moves : MovesTo phase old new
  gate_moves =
      let handed : Handed = record { file = m.file; state = (old.slots m.file).file } in
      let run : IsRun phase (core_of old.gate old.slots) m.steps.steps (core_of new.gate old.slots) = gate_run_is_run phase (Some handed) old.gate m.steps.steps new.gate old.slots refl m.steps.run in
      let after : Parts = record { gate = new.gate; slots = slots } in
      let same : after ≡ new = (λ j. record { gate = new.gate; slots = sym m.slots_are j }) in
      subst (MovesTo phase old) same (record {
        steps = m.steps.steps;
        run = subst (λ (c : Core Version). IsRun phase (core_of old.gate old.slots) m.steps.steps c) same_core run;
        holds = gate_parts;
      })

-- ALL
one_move : (phase : Phase) (old new : Parts) → PartsHold phase old → SlotMoves phase old new ⊎ GateMoves phase old new → MovesTo phase old new
one_move phase old new h (inl m) = slot_moves phase old new h m
one_move phase old new h (inr m) = gate_moves phase old new h m

-- Moves in any order are one run of the core machine.
pub moves_are_a_run : (phase : Phase) (old : Parts) (moves : List Parts) (new : Parts) → PartsHold phase old → AreMoves phase old moves new → MovesTo phase old new
moves_are_a_run phase old [] new h moves = subst (MovesTo phase old) (sym moves) (moves_none phase old h)
moves_are_a_run phase old (mid ∷ rest) new h moves =
    let first : MovesTo phase old mid = one_move phase old mid h moves.0 in
    moves_then phase old mid new first (moves_are_a_run phase mid rest new first.holds moves.1)
