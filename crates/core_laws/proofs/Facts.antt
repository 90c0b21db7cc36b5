-- What an entry that matches the history tells of the machine's objects.
use Rattle.std.proofs.Common.{◌≡◌, ℕ, List, Option, Some, None, refl, sym, ap, ◌∙◌}
use Rattle.hmac_keys.specs.declared.Keys.{Keys}
use Rattle.store_model.specs.declared.name.ObjectName.{ObjectName}
use Rattle.store_model.specs.Object.{Object, object_at}
use Rattle.store_model.specs.ReplayState.{ReplayState}
use Rattle.store_model.proofs.Maps.{at}
use Rattle.dir_records.specs.declared.entry.DirEntry.{DirEntry}
use Rattle.history_seats.specs.Mounts.{Entry}
use Rattle.crash_core.specs.Entries.{name_of}
use Rattle.crash_core.specs.EntryLists.{AreDistinct, entry_at}
use Rattle.core_laws.specs.Listed.{IsInDirectory, history_entry}
use Rattle.core_laws.specs.TamperScenarios.{TamperScenario, object_under}
use Rattle.core_laws.specs.Stores.{entry_named}
use Rattle.core_laws.specs.Mapped.{IsInStep, Versions, object_by}
use Rattle.core_laws.proofs.Mending.{none_some, size_under}
use Rattle.core_laws.proofs.InStep.{object_of}
use Rattle.core_laws.proofs.Listed.{listed_apart, listed_named, name_found, named_there}
use Rattle.core_laws.specs.Matched.{AreMatched}
use Rattle.core_laws.specs.EntryFacts.{HasEntryNamed, IsEntryFact, MatchedEntriesTell}

module _ (keys : Keys) (scenario : TamperScenario) (versions : Versions) (listed : List Entry) (s : ReplayState) (entries : List (Option DirEntry)) (m : AreMatched keys entries listed versions) (distinct : AreDistinct entries)
    (step : IsInStep keys scenario versions listed s) where
  entry_fact : (index : ℕ) (e : DirEntry) → entry_at entries index ≡ Some e → IsEntryFact keys scenario versions listed s e
  entry_fact index e at_ =
      let v = m.versions index e at_ in
      let named : entry_named (name_of e) listed ≡ Some (history_entry e) = listed_named entries listed m.listed distinct index e at_ in
      record {
        named = named;
        version = v.0;
        gives = v.1;
        own = v.2;
        real = m.real index e v.0 at_ v.1;
        object = object_of keys scenario versions listed s (name_of e) (history_entry e) v.0 step named v.1;
        size = size_under keys scenario e.file e.generation v.0 ∙ v.2.size;
      }

  entry_named_by : (name : ObjectName) (object : Object) → object_at s.state.objects name ≡ Some object → HasEntryNamed entries name
  entry_named_by name object is = by_entry (entry_named name listed) refl
    where
      by_entry : (o : Option Entry) → entry_named name listed ≡ o → HasEntryNamed entries name
      by_entry None found = absurd (none_some object (sym (step.objects name ∙ ap (object_by keys scenario versions) found) ∙ is))
      by_entry (Some x) found =
          let i : IsInDirectory entries x = m.listed.back x (named_there name x listed found) in
          record { index = i.index; entry = i.entry; at = i.at; named = ap (λ (y : Entry). at name y.name) i.is ∙ name_found name x listed found }

pub matched_tell : MatchedEntriesTell
matched_tell keys scenario versions listed s entries m distinct single step = record {
  each = entry_fact keys scenario versions listed s entries m distinct step;
  sizes = λ index e at_. let f = entry_fact keys scenario versions listed s entries m distinct step index e at_ in (object_under keys scenario e.file e.generation f.version, f.object, f.size);
  back = entry_named_by keys scenario versions listed s entries m distinct step;
  apart = listed_apart entries listed m.listed single;
}
