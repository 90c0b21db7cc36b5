-- A directory whose entries are tied to the history holds the machine's map.
use Rattle.std.proofs.Common.{◌≡◌, ℕ, false, List, inl, inr, Option, Some, None, refl, sym, ◌∙◌, subst}
use Rattle.std.specs.Prelude.{◌==◌, Contains}
use Rattle.std.proofs.lemmas.Bool.{cases_Bool, eqb-true}
use Rattle.std.proofs.lemmas.Map.Views.{Contains-from_any}
use Rattle.disk_model.specs.State.{FileState}
use Rattle.node_image.specs.declared.node.RootRef.{RootRef}
use Rattle.tee_types.specs.Limits.{directory_file}
use Rattle.store_model.specs.Object.{Object}
use Rattle.store_model.specs.ReplayState.{ReplayState}
use Rattle.store_model.proofs.Closeness.{IsRising}
use Rattle.dir_records.specs.declared.entry.DirEntry.{DirEntry}
use Rattle.history_seats.specs.Numbers.{is_in}
use Rattle.history_seats.specs.Records.{Version}
use Rattle.history_seats.specs.Mounts.{Entry}
use Rattle.history_seats.specs.Views.{GateView}
use Rattle.crash_core.specs.EntryLists.{AreDistinct, entry_at}
use Rattle.crash_core.specs.Mounting.{Held, map_of}
use Rattle.crash_core.specs.CoreState.{IsTrusted}
use Rattle.core_laws.specs.GateParts.{DirectoryReads, GateDirectory, IsBacked, KnowsEntry}
use Rattle.core_laws.specs.TamperScenarios.{TamperScenario, object_under}
use Rattle.core_laws.specs.Mapped.{Versions, object_by}
use Rattle.core_laws.specs.Stores.{Store, entry_named}
use Rattle.core_laws.proofs.Mending.{object_honest}
use Rattle.commit_gate.specs.FinishedPhases.{phase_under}
use Rattle.commit_gate.specs.Readings.{IsReading}
use Rattle.commit_gate.proofs.ListedMaps.{entries_back, held as held_from, held_as as held_from_as, map_has, object_from, of_entry, supposed_is}
use Rattle.commit_gate.proofs.SameMaps.{map_rising, same_maps}

-- a file that is honest is none of those that are not
honest_off : (scenario : TamperScenario) (file : ℕ) → (Contains scenario.tampered file → ⊥) → is_in file scenario.tampered ≡ false
honest_off scenario file trusted = elim (cases_Bool (is_in file scenario.tampered)) [
  | inl in_ ↦ absurd (trusted (Contains-from_any {eq = λ (q m : ℕ). m == q} (λ x y e. sym (eqb-true y x e)) file scenario.tampered in_))
  | inr off ↦ off
]

module _ (store : Store) (scenario : TamperScenario) (entries : List (Option DirEntry)) (kept : List Entry) (given : Versions) (s : ReplayState)
    (reading : IsReading store scenario entries kept given s) (distinct : AreDistinct entries) (rising : IsRising (s.state).objects) where
  -- the object of an entry: what stands for its version
  abbrev of : (file generation : ℕ) → Version → Object
  of = object_under store.keys scenario

  abbrev held_as : DirEntry → Held
  held_as = held_from_as of entries kept given reading.matched.listed reading.matched.versions distinct

  abbrev held : List (Option Held)
  held = held_from of entries kept given reading.matched.listed reading.matched.versions distinct

  object_same : (o : Option Entry) → object_from of given o ≡ object_by store.keys scenario given o
  object_same None = refl
  object_same (Some e) = refl

  map_same : map_of held ≡ (s.state).objects
  map_same = same_maps (map_of held) (s.state).objects (map_rising held) rising
      (λ name. map_has of entries kept given reading.matched.listed reading.matched.versions distinct name ∙ object_same (entry_named name kept) ∙ sym (reading.in_step.objects name))

  module _ (view : GateView) (knows : (index : ℕ) (e : DirEntry) (v : Version) → entry_at entries index ≡ Some e → given e.file e.generation ≡ Some v → KnowsEntry view e v) where
    backed : (index : ℕ) (e : DirEntry) → entry_at entries index ≡ Some e → IsTrusted (phase_under store scenario) e.file → IsBacked view None (held_as e)
    backed index e stood trusted =
        let v = reading.matched.versions index e stood in
        inl (
          v.0,
          knows index e v.0 stood v.1,
          v.2,
          sym (supposed_is of entries kept given reading.matched.listed reading.matched.versions distinct e v.0 v.1 ∙ object_honest store.keys scenario e.file e.generation v.0 (reading.matched.real index e v.0 stood v.1) (honest_off scenario e.file trusted)),
        )

    -- So the directory stands for the gate.
    pub reading_stands : (file : FileState) (dir : RootRef) → (IsTrusted (phase_under store scenario) directory_file → DirectoryReads store.keys file dir entries)
        → GateDirectory (phase_under store scenario) file view None dir entries (s.state).objects
    reading_stands file dir own = record {
      own = own;
      held = held;
      holds = entries_back of entries kept given reading.matched.listed reading.matched.versions distinct;
      each = λ index h stood trusted.
          let e = of_entry of entries kept given reading.matched.listed reading.matched.versions distinct index h stood in
          subst (IsBacked view None) e.2 (backed index e.0 e.1 (subst (λ (x : Held). IsTrusted (phase_under store scenario) x.entry.file) (sym e.2) trusted));
      map_is = λ trusted. map_same;
    }
