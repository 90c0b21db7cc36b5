-- A map that is in step with entries and versions, after the same or after a change of one object.
use Rattle.std.proofs.Common.{◌≡◌, Bool, true, false, true≢false, cond, List, Option, Some, None, option_map, IsSome, find, refl, sym, ap, ◌∙◌, subst}
use Rattle.hmac_keys.specs.declared.Keys.{Keys}
use Rattle.store_model.specs.declared.name.ObjectName.{ObjectName}
use Rattle.store_model.specs.Object.{Object, ObjectMap, changed_object, object_at}
use Rattle.store_model.specs.ReplayState.{ReplayState}
use Rattle.store_model.proofs.Maps.{at}
use Rattle.store_model.proofs.MapLaws.{alike, object_at-changed}
use Rattle.history_seats.specs.Records.{Version}
use Rattle.history_seats.specs.Mounts.{Entry}
use Rattle.core_laws.specs.TamperScenarios.{TamperScenario, object_under}
use Rattle.history_seats.specs.Directory.{given_version}
use Rattle.core_laws.specs.Stores.{entries_at, entry_named, replay_at}
use Rattle.core_laws.specs.MapLaws.{EntriesHaveObjects}
use Rattle.core_laws.specs.Mapped.{AreApart, IsInStep, Versions, object_by}

-- tied names have one entry
pub same_entry : (a b : ObjectName) (entries : List Entry) → at a b ≡ true → entry_named a entries ≡ entry_named b entries
same_entry a b entries e = λ i. find (λ (x : Entry). alike.congr a b x.name e i) entries

module _ (keys : Keys) (scenario : TamperScenario) where
  -- the objects of entries whose versions are the same
  pub same_object : (versions after : Versions) → (o : Option Entry) → ((e : Entry) → o ≡ Some e → after e.file e.generation ≡ versions e.file e.generation)
      → object_by keys scenario versions o ≡ object_by keys scenario after o
  same_object versions after None same = refl
  same_object versions after (Some e) same = ap (option_map (object_under keys scenario e.file e.generation)) (sym (same e refl))

  pub in_step_same : (versions after : Versions) (entries more : List Entry) (s t : ReplayState) → IsInStep keys scenario versions entries s → more ≡ entries
      → ((e : Entry) (name : ObjectName) → entry_named name entries ≡ Some e → after e.file e.generation ≡ versions e.file e.generation)
      → t.state.objects ≡ s.state.objects → t.files ≡ s.files → IsInStep keys scenario after more t
  in_step_same versions after entries more s t step listed same objects files = record {
    objects = λ name.
        ap (λ (m : ObjectMap). object_at m name) objects ∙ step.objects name
        ∙ same_object versions after (entry_named name entries) (λ e is. same e name is)
        ∙ ap (λ (l : List Entry). object_by keys scenario after (entry_named name l)) (sym listed);
    files = λ name.
        (λ i. files i name) ∙ step.files name ∙ ap (λ (l : List Entry). option_map (λ (e : Entry). e.file) (entry_named name l)) (sym listed);
  }

  -- The object under a name is what stands for the version of its entry.
  pub object_of : (versions : Versions) (entries : List Entry) (s : ReplayState) (name : ObjectName) (entry : Entry) (version : Version) → IsInStep keys scenario versions entries s
      → entry_named name entries ≡ Some entry → versions entry.file entry.generation ≡ Some version
      → object_at s.state.objects name ≡ Some (object_under keys scenario entry.file entry.generation version)
  object_of versions entries s name entry version step found gives =
      step.objects name ∙ ap (object_by keys scenario versions) found ∙ ap (option_map (object_under keys scenario entry.file entry.generation)) gives

  -- A change of one object that gives its file's generation a version, and leaves the others.
  pub in_step_changed : (versions after : Versions) (entries more : List Entry) (s t : ReplayState) (mine : ObjectName) (entry : Entry) (version : Version)
      → IsInStep keys scenario versions entries s → AreApart entries → more ≡ entries → entry_named mine entries ≡ Some entry → IsSome (versions entry.file entry.generation)
      → t.state.objects ≡ changed_object s.state.objects mine (object_under keys scenario entry.file entry.generation version) → t.files ≡ s.files
      → after entry.file entry.generation ≡ Some version
      → ((e : Entry) (name : ObjectName) → entry_named name entries ≡ Some e → ((e.file ≡ entry.file) × (e.generation ≡ entry.generation) → ⊥) → after e.file e.generation ≡ versions e.file e.generation)
      → IsInStep keys scenario after more t
  in_step_changed versions after entries more s t mine entry version step apart listed found given changes files own others = record {
    objects = λ name.
        ap (λ (m : ObjectMap). object_at m name) changes
        ∙ object_at-changed s.state.objects mine name (object_under keys scenario entry.file entry.generation version) there
        ∙ by_name name (at mine name) refl
        ∙ ap (λ (l : List Entry). object_by keys scenario after (entry_named name l)) (sym listed);
    files = λ name.
        (λ i. files i name) ∙ step.files name ∙ ap (λ (l : List Entry). option_map (λ (e : Entry). e.file) (entry_named name l)) (sym listed);
  }
    where
      there-by : (o : Option Version) → IsSome o → IsSome (option_map (object_under keys scenario entry.file entry.generation) o)
      there-by None some = some
      there-by (Some v) some = refl

      there : IsSome (object_at s.state.objects mine)
      there =
          subst (λ (o : Option Object). IsSome o) (sym (step.objects mine ∙ ap (object_by keys scenario versions) found))
          (there-by (versions entry.file entry.generation) given)

      other-entry : (name : ObjectName) → at mine name ≡ false → (e : Entry) → entry_named name entries ≡ Some e → (e.file ≡ entry.file) × (e.generation ≡ entry.generation) → ⊥
      other-entry name off e is same = true≢false (sym (apart mine name entry e found is (sym same.0)) ∙ off)

      by_name : (name : ObjectName) (b : Bool) → at mine name ≡ b
          → cond b (Some (object_under keys scenario entry.file entry.generation version)) (object_at s.state.objects name) ≡ object_by keys scenario after (entry_named name entries)
      by_name name true e =
          sym (ap (object_by keys scenario after) (sym (same_entry mine name entries e) ∙ found) ∙ ap (option_map (object_under keys scenario entry.file entry.generation)) own)
      by_name name false e =
          step.objects name ∙ same_object versions after (entry_named name entries) (λ x is. others x name is (other-entry name e x is))

pub entry_object : EntriesHaveObjects
entry_object store scenario records name entry version mapped found gives =
    object_of store.keys scenario (given_version store.mounted records) (entries_at store records).now (replay_at store scenario records) name entry version mapped found gives
