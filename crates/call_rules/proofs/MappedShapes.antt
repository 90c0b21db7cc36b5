-- The shape of a map that is in step with what the directory lists.
use Rattle.std.proofs.Common.{◌≡◌, ℕ, true, List, Option, Some, None, refl, sym, ap, ◌∙◌, option_map}
use Rattle.std.specs.Map.{keys_of}
use Rattle.std.specs.List.Sorted.{IsStrictlySortedBy}
use Rattle.hmac_keys.specs.declared.Keys.{Keys}
use Rattle.store_model.specs.declared.name.ObjectName.{ObjectName}
use Rattle.store_model.specs.Name.{name_cmp}
use Rattle.store_model.specs.Object.{Object}
use Rattle.store_model.specs.ReplayState.{ReplayState}
use Rattle.store_model.proofs.Maps.{at}
use Rattle.dir_records.specs.declared.entry.DirEntry.{DirEntry}
use Rattle.core_laws.specs.Entries.{name_of}
use Rattle.core_laws.specs.EntryLists.{AreDistinct, entry_at}
use Rattle.core_laws.specs.Mounts.{Entry}
use Rattle.core_laws.specs.Listed.{AreListed, IsInDirectory}
use Rattle.core_laws.specs.TamperScenarios.{TamperScenario, object_under}
use Rattle.core_laws.specs.Listings.{HaveListedVersions}
use Rattle.core_laws.specs.Mapped.{IsInStep, Versions, object_by}
use Rattle.core_laws.specs.Stores.{entry_named}
use Rattle.core_laws.proofs.Listed.{listed_named, name_found, named_there}
use Rattle.core_laws.proofs.Mending.{none_some, size_under}
use Rattle.call_rules.specs.Shapes.{HasShape}
use Rattle.call_rules.specs.MappedLaws.{LandedEntriesHaveShape, MappedEntriesHaveShape}

-- a name that has an object is that of an entry
entry_of : (keys : Keys) (scenario : TamperScenario) (versions : Versions) (listed : List (Option DirEntry)) (entries : List Entry) → AreListed listed entries
    → (name : ObjectName) (object : Object) → object_by keys scenario versions (entry_named name entries) ≡ Some object
    → (index : ℕ) × (e : DirEntry) × (entry_at listed index ≡ Some e) × (at name (name_of e) ≡ true)
entry_of keys scenario versions listed entries lists name object is = by_entry (entry_named name entries) refl is
  where
    by_entry : (found : Option Entry) → entry_named name entries ≡ found → object_by keys scenario versions found ≡ Some object
        → (index : ℕ) × (e : DirEntry) × (entry_at listed index ≡ Some e) × (at name (name_of e) ≡ true)
    by_entry None none same = absurd (none_some object same)
    by_entry (Some x) some same =
        let there : IsInDirectory listed x = lists.back x (named_there name x entries some) in
        (there.index, there.entry, there.at, ap (λ (y : Entry). at name y.name) there.is ∙ name_found name x entries some)

pub step_shape : (keys : Keys) (scenario : TamperScenario) (versions : Versions) (listed : List (Option DirEntry)) (entries : List Entry) (s : ReplayState)
    → IsInStep keys scenario versions entries s → AreListed listed entries → HaveListedVersions listed versions → AreDistinct listed
    → IsStrictlySortedBy name_cmp (keys_of s.state.objects) → HasShape listed s.state.objects
step_shape keys scenario versions listed entries s step lists have distinct rising = record {
  each = λ index e stood.
      let version = have index e stood in (
        object_under keys scenario e.file e.generation version.0,
        step.objects (name_of e)
            ∙ ap (object_by keys scenario versions) (listed_named listed entries lists distinct index e stood)
            ∙ ap (option_map (object_under keys scenario e.file e.generation)) version.1,
        size_under keys scenario e.file e.generation version.0 ∙ (version.2).size,
      );
  back = λ name object stands. entry_of keys scenario versions listed entries lists name object (sym (step.objects name) ∙ stands);
  rising = rising;
}

pub mapped_shape : MappedEntriesHaveShape
mapped_shape store scenario records listed mapped lists have distinct rising = step_shape store.keys scenario _ listed _ _ mapped lists have distinct rising

pub landed_shape : LandedEntriesHaveShape
landed_shape store scenario records doubt listed mapped lists have distinct rising = step_shape store.keys scenario _ listed _ _ mapped lists have distinct rising
