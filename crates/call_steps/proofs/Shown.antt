-- The version that a commit leaves stands in the file of its slot, so the slot shows the object.
use Rattle.std.proofs.Common.{◌≡◌, ◌==◌, ℕ, false, List, Option, Some, inl, inr, sym, ◌∙◌, subst}
use Rattle.std.specs.Prelude.{Contains}
use Rattle.std.proofs.lemmas.Bool.{cases_Bool, eqb-true}
use Rattle.std.proofs.lemmas.Map.Views.{Contains-from_any}
use Rattle.tee_types.specs.declared.call.Call.{Call}
use Rattle.tee_types.proofs.FileNumbers.{object_not_directory}
use Rattle.store_model.specs.Makes.{MakesChange, MapChange}
use Rattle.store_model.specs.Object.{Object}
use Rattle.store_model.specs.Record.{Tag}
use Rattle.dir_records.specs.declared.entry.DirEntry.{DirEntry}
use Rattle.dir_records.specs.Form.{HasForm}
use Rattle.history_seats.specs.Numbers.{is_in}
use Rattle.history_seats.specs.Records.{Version}
use Rattle.history_seats.specs.Views.{GateView}
use Rattle.crash_core.specs.CoreState.{IsTrusted}
use Rattle.crash_core.specs.declared.change.EntryChange.{EntryChange}
use Rattle.crash_core.specs.declared.change.EntryChange.TheVariants.{Clear, Put}
use Rattle.crash_core.specs.EntryChanges.{IsChange}
use Rattle.crash_core.specs.Mounting.{Held}
use Rattle.crash_core.proofs.Lists.{set_here}
use Rattle.core_laws.specs.GateLaws.{HandedShows}
use Rattle.core_laws.specs.GateSteps.{Handed}
use Rattle.core_laws.proofs.Versions.{version_shows}
use Rattle.core_laws.specs.TamperScenarios.{TamperScenario}
use Rattle.core_laws.specs.Stores.{Store, replay_at}
use Rattle.core_laws.proofs.Mending.{object_honest}
use Rattle.commit_gate.specs.FinishedPhases.{phase_under}
use Rattle.core_laws.specs.CommitMaps.{IsCommitUnder}
use Rattle.core_laws.specs.OwnEntries.{AreTold}
use Rattle.core_laws.proofs.Told.{tied_tell}
use Rattle.call_steps.specs.HandedSlots.{HandedSlotsShow, IsHandedFor}
use Rattle.call_steps.proofs.PutObjects.{puts_object}

-- a file that is honest to the end is none of those that are not
trusted_off : (scenario : TamperScenario) (file : ℕ) → (Contains scenario.tampered file → ⊥) → is_in file scenario.tampered ≡ false
trusted_off scenario file trusted = elim (cases_Bool (is_in file scenario.tampered)) [
  | inl among ↦ absurd (trusted (Contains-from_any {eq = λ (q m : ℕ). m == q} (λ x y e. sym (eqb-true y x e)) file scenario.tampered among))
  | inr off ↦ off
]

module _ (store : Store) (scenario : TamperScenario) (view : GateView) (entries : List (Option DirEntry)) (counter session : ℕ) (call : Call) (tag : Tag Version) (handed : Handed)
    (told : AreTold store scenario view entries) (to : IsHandedFor store scenario handed tag) (made : MapChange) (object : Object)
    (makes : MakesChange (replay_at store scenario view.all).state session call made) where
  shows : (change : EntryChange) → IsCommitUnder store scenario view entries counter session call change tag tag.doubted
      → IsChange (replay_at store scenario view.all).state.objects entries counter made change object → HandedShows (phase_under store scenario) (Some handed) change object
  shows (Clear index) c change = tt
  shows (Put index e) c change =
      let left = c.commit.leaves in
      let file : handed.file ≡ e.file = to.file ∙ c.commit.tagged.file in
      let form : HasForm e = c.commit.after.forms index e (set_here entries index (Some e) c.commit.place) in
      let held : Held = record { entry = e; object = object } in (
        file,
        object_not_directory e.file form.file.0 form.file.1,
        λ trusted.
            let honest = to.honest (subst (IsTrusted (phase_under store scenario)) (sym file) trusted) in
            let own : left.0.object ≡ object =
            sym (object_honest store.keys scenario e.file e.generation left.0 left.3 (trusted_off scenario e.file trusted))
            ∙ puts_object store scenario view entries counter session tag tag.doubted told call index e made object left.0 c makes change left.1 in
            version_shows store.keys handed.state held left.0 to.sound (to.stands honest left.0 left.1) left.2 own,
      )

pub handed_slots_show : HandedSlotsShow
handed_slots_show store scenario view entries counter doubt session call change tag handed made object tied c to makes enters =
    shows store scenario view entries counter session call tag handed (tied_tell store scenario view entries counter doubt tied c.commit.before c.answered c.mapped) to made object makes change c enters
