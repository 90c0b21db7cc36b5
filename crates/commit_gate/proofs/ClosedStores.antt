-- At the end of a phase all parts of a store together are at rest, so that every picture mounts to what the history leaves.
use Rattle.std.proofs.Common.{◌≡◌, ◌≢◌, ℕ, zero, suc, ◌<◌, false, eqb, List, ◌∷◌, IsTrue, inl, inr, Option, Some, None, refl, sym, ap, ◌∙◌, subst, arith, eq-eqb, ne_eqb}
use Rattle.std.specs.Prelude.{Contains}
use Rattle.std.proofs.lemmas.Bool.{cases_Bool, cases_eq, cases_lt, cond-true, cond-false}
use Rattle.disk_model.specs.State.{FileState, Sound}
use Rattle.tee_types.specs.Limits.{IsObjectFile, directory_file, file_count, may_hold_object}
use Rattle.tee_types.proofs.FileNumbers.{directory_on_bench, object_fails, object_or_not, object_passes}
use Rattle.rpmb_card.specs.Card.{CardState}
use Rattle.history_seats.specs.Records.{Version}
use Rattle.history_seats.specs.Rule.{SlotFits}
use Rattle.history_seats.specs.Views.{GateView}
use Rattle.crash_core.specs.Pictures.{IsPictureOf, Picture}
use Rattle.store_model.specs.ReplayState.{ReplayState}
use Rattle.crash_core.specs.CoreState.{IsTrusted, Phase}
use Rattle.crash_core.specs.Holding.{CardNames, PendingStands}
use Rattle.crash_core.specs.Theorem.{MountsTo}
use Rattle.crash_core.proofs.MountedPictures.{directory_mounts, mounts_whole}
use Rattle.core_laws.specs.SlotParts.{Knows, SlotHolds, SlotPart}
use Rattle.core_laws.specs.Finished.{IsAtRest}
use Rattle.core_laws.specs.GateParts.{replay_of}
use Rattle.core_laws.specs.Joined.{Parts, PartsHold, files_of}
use Rattle.core_laws.proofs.Contained.{contains_first, contains_later}
use Rattle.core_laws.proofs.FinishedParts.{finish_mounts}
use Rattle.core_laws.proofs.JoinedParts.{committed_stands, pending_stands}
use Rattle.core_laws.specs.TamperScenarios.{TamperScenario}
use Rattle.core_laws.specs.Stores.{Store, replay_at}
use Rattle.core_laws.proofs.Mending.{none_some}
use Rattle.crash_core.specs.declared.change.DoubtedChange.{DoubtedChange}
use Rattle.store_commit.specs.Sides.{Sides}
use Rattle.commit_gate.specs.FinishedPhases.{phase_under}
use Rattle.commit_gate.specs.Resting.{IsResting, resting_part}
use Rattle.commit_gate.specs.CoreGates.{pending_of, sealed_in}
use Rattle.commit_gate.specs.ClosedStores.{ClosedStoresMount, TamperedFilesAreSupposed, IsClosedStore, IsMapBy, HonestStoresMount, MountsBy, tampered_below, no_slot, slots_of, store_files}
use Rattle.commit_gate.proofs.RestingGates.{resting_gates_hold}

-- the slot of an object file, and of another number
pub slot_is : (slots : ℕ → SlotPart) (file : ℕ) → IsObjectFile file → slots_of slots file ≡ slots file
slot_is slots file object = cond-true (may_hold_object file) (slots file) (no_slot (slots file).file file) (object_passes file object)

pub slot_none : (slots : ℕ → SlotPart) (file : ℕ) → (IsObjectFile file → ⊥) → slots_of slots file ≡ no_slot (slots file).file file
slot_none slots file off = cond-false (may_hold_object file) (slots file) (no_slot (slots file).file file) (object_fails file off)

-- what holds of each object file's slot, and of no slot, holds of all
each_slot : (slots : ℕ → SlotPart) (P : ℕ → SlotPart → Type 0) → ((file : ℕ) → IsObjectFile file → P file (slots file)) → ((file : ℕ) → P file (no_slot (slots file).file file)) → (file : ℕ) → P file (slots_of slots file)
each_slot slots P own none file = elim (object_or_not file) [
  | inl object ↦ subst (P file) (sym (slot_is slots file object)) (own file object)
  | inr off ↦ subst (P file) (sym (slot_none slots file off)) (none file)
]

-- the directory's file is the gate's, and any other that of its slot
pub store_directory : (g : Sides) (slots : ℕ → SlotPart) → store_files g slots directory_file ≡ g.file
store_directory g slots = cond-true (eqb directory_file directory_file) g.file (slots_of slots directory_file).file (eq-eqb directory_file directory_file refl)

pub store_slot : (g : Sides) (slots : ℕ → SlotPart) (file : ℕ) → file ≢ directory_file → store_files g slots file ≡ (slots_of slots file).file
store_slot g slots file other = cond-false (eqb file directory_file) g.file (slots_of slots file).file (ne_eqb file directory_file other)

nothing_known : (s : FileState) (file : ℕ) (v : Version) → Knows (no_slot s file).view v → ⊥
nothing_known s file v (inl given) = none_some v given.1
nothing_known s file v (inr left) = none_some (Some v) left.1

no_slot_holds : (store : Store) (s : FileState) (file : ℕ) → Sound s → SlotHolds store.keys (no_slot s file)
no_slot_holds store s file sound = record { sound = sound; stands = λ honest v known. absurd (nothing_known s file v known) }

-- where no commit is pending, to the map that the history leaves
settled_mounts : (phase : Phase) (p : Parts) (picture : Picture) → PartsHold phase p → IsPictureOf (files_of p.gate p.slots) p.gate.card picture → IsTrusted phase directory_file → p.gate.pending ≡ None
    → MountsTo phase picture ((replay_of phase p.gate.view).state).objects
settled_mounts phase p picture h is trusted none =
    let s : ReplayState = replay_of phase p.gate.view in
    let names : CardNames p.gate.card p.gate.root s.counter =
    subst (PendingStands phase (files_of p.gate p.slots) p.gate.card p.gate.root p.gate.entries s) none (pending_stands phase p h p.gate.pending h.gate.pending) in
    directory_mounts phase (files_of p.gate p.slots) p.gate.card picture is p.gate.root p.gate.entries (s.state).objects s.counter names (committed_stands phase p h trusted)

mounts_by : {D : Type 0} (phase : Phase) (p : Parts) (picture : Picture) → PartsHold phase p → IsAtRest phase p.gate → IsPictureOf (files_of p.gate p.slots) p.gate.card picture → IsTrusted phase directory_file
    → (doubt : Option D) → (doubt ≡ None → p.gate.pending ≡ None) → MountsBy doubt phase picture (replay_of phase p.gate.view)
mounts_by phase p picture h rests is trusted None none = settled_mounts phase p picture h is trusted (none refl)
mounts_by phase p picture h rests is trusted (Some d) none = finish_mounts phase p picture h rests is trusted

-- where every file is honest, to that map itself
whole_by : {D : Type 0} (phase : Phase) (picture : Picture) (s : ReplayState) → ((file : ℕ) → IsTrusted phase file) → (doubt : Option D) → MountsBy doubt phase picture s → IsMapBy doubt phase picture s
whole_by phase picture s trusted None mounts = mounts_whole phase picture (s.state).objects trusted mounts
whole_by phase picture s trusted (Some d) (inl mounts) = inl (mounts_whole phase picture (s.state).objects trusted mounts)
whole_by phase picture s trusted (Some d) (inr other) = inr (other.0, other.1, mounts_whole phase picture other.0 trusted other.2)

module _ (store : Store) (scenario : TamperScenario) (g : Sides) (doubt : Option DoubtedChange) (holds : List (Option ℕ)) (card : CardState) (view : GateView) (slots : ℕ → SlotPart)
    (e : IsClosedStore store scenario g doubt holds card view slots) where
  -- each file is honest that is not supposed otherwise
  files_honest : (file : ℕ) → IsTrusted (phase_under store scenario) file → IsTrue (store_files g slots file).honest
  files_honest file trusted = elim (cases_lt file file_count) [
    | inl within ↦ e.tampered file within trusted
    | inr past ↦
        let is : store_files g slots file ≡ (slots_of slots file).file = store_slot g slots file (λ own. omega (arith, own, past, directory_on_bench)) in
        let none : slots_of slots file ≡ no_slot (slots file).file file = slot_none slots file (λ object. omega (arith, object.1, past)) in
        subst (λ (s : FileState). IsTrue s.honest) (sym (is ∙ ap (λ (s : SlotPart). s.file) none)) (e.slots_hold.past file past)
  ]

  directory_honest : IsTrusted (phase_under store scenario) directory_file → IsTrue g.file.honest
  directory_honest trusted = subst (λ (s : FileState). IsTrue s.honest) (store_directory g slots) (files_honest directory_file trusted)

  rests : IsResting (phase_under store scenario) (resting_part store scenario g doubt holds card view)
  rests = resting_gates_hold store scenario g doubt holds card view e.gate e.tied directory_honest

  abbrev parts : Parts
  parts = record { gate = resting_part store scenario g doubt holds card view; slots = slots_of slots }

  parts_hold : PartsHold (phase_under store scenario) parts
  parts_hold = record {
    gate = rests.fact;
    slots = λ file other. each_slot slots (λ file slot. SlotHolds store.keys slot) e.slots_hold.holds (λ n. no_slot_holds store (slots n).file n (e.slots_hold.sound n)) file;
    fit = record {
      numbered = λ file other. each_slot slots (λ file slot. slot.view.file ≡ file) e.slots_hold.numbered (λ file. refl) file;
      fits = λ file own. subst (λ (slot : SlotPart). SlotFits view slot.view) (sym (slot_is slots file own)) (e.slots_hold.fits file own);
      putting = λ h puts. absurd (none_some h puts);
    };
    honest = files_honest;
  }

  pub closed_mounts : (picture : Picture) → IsPictureOf (store_files g slots) card picture → IsTrusted (phase_under store scenario) directory_file
      → MountsBy doubt (phase_under store scenario) picture (replay_at store scenario view.all)
  closed_mounts picture is trusted =
      mounts_by (phase_under store scenario) parts picture parts_hold rests.at_rest is trusted doubt
      (λ none. ap (λ (d : Option DoubtedChange). pending_of d (replay_at store scenario view.all).doubt (sealed_in g card)) none)

  pub honest_mounts : (picture : Picture) → IsPictureOf (store_files g slots) card picture → ((file : ℕ) → IsTrusted (phase_under store scenario) file)
      → IsMapBy doubt (phase_under store scenario) picture (replay_at store scenario view.all)
  honest_mounts picture is trusted = whole_by (phase_under store scenario) picture (replay_at store scenario view.all) trusted doubt (closed_mounts picture is (trusted directory_file))

pub closed_stores_mount : ClosedStoresMount
closed_stores_mount store scenario g doubt holds card view slots picture e is trusted = closed_mounts store scenario g doubt holds card view slots e picture is trusted

pub honest_stores_mount : HonestStoresMount
honest_stores_mount store scenario g doubt holds card view slots picture e is trusted = honest_mounts store scenario g doubt holds card view slots e picture is trusted

-- THE FILES THAT ARE NOT HONEST
-- each of the first files that is not honest is among those
below_contains : (files : ℕ → FileState) (count file : ℕ) → file < count → (files file).honest ≡ false → Contains (tampered_below files count) file
unfolding tampered_below
below_contains files zero file lt tainted = absurd (omega (arith, lt))
below_contains files (suc last) file lt tainted = elim (cases_eq last file) [
  | inl same ↦
      let own : (files last).honest ≡ false = ap (λ (n : ℕ). (files n).honest) same ∙ tainted in
      subst (λ (l : List ℕ). Contains l file) (sym (cond-false (files last).honest (tampered_below files last) (last ∷ tampered_below files last) own))
      (contains_first last file (tampered_below files last) same)
  | inr other ↦
      let more : Contains (tampered_below files last) file = below_contains files last file (omega (arith, other, lt)) tainted in
      elim (cases_Bool (files last).honest) [
        | inl honest ↦ subst (λ (l : List ℕ). Contains l file) (sym (cond-true (files last).honest (tampered_below files last) (last ∷ tampered_below files last) honest)) more
        | inr tainted_too ↦
            subst (λ (l : List ℕ). Contains l file) (sym (cond-false (files last).honest (tampered_below files last) (last ∷ tampered_below files last) tainted_too))
            (contains_later last file (tampered_below files last) more)
      ]
]

pub tampered_files_are_supposed : TamperedFilesAreSupposed
tampered_files_are_supposed scenario files is file within trusted = elim (cases_Bool (files file).honest) [
  | inl honest ↦ honest
  | inr tainted ↦ absurd (trusted (subst (λ (l : List ℕ). Contains l file) (sym is) (below_contains files file_count file within tainted)))
]
