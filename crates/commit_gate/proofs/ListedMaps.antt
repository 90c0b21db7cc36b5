-- Entries of a directory that match a history, and the map that they hold with an object for each version.
use Rattle.std.proofs.Common.{◌≡◌, ℕ, true, false, List, [], ◌∷◌, map, inl, inr, Option, Some, None, option_map, refl, sym, ap, ◌∙◌, subst}
use Rattle.std.specs.Prelude.{unwrap_or}
use Rattle.std.proofs.lemmas.Bool.{cases_Bool}
use Rattle.store_model.specs.declared.name.ObjectName.{ObjectName}
use Rattle.store_model.specs.Object.{Damaged, Object, object_at}
use Rattle.store_model.proofs.Maps.{at}
use Rattle.store_model.proofs.MapLaws.{alike}
use Rattle.dir_records.specs.declared.entry.DirEntry.{DirEntry}
use Rattle.history_seats.specs.Records.{Version}
use Rattle.history_seats.specs.Mounts.{Entry}
use Rattle.crash_core.specs.Entries.{name_of}
use Rattle.crash_core.specs.EntryLists.{AreDistinct, entry_at}
use Rattle.crash_core.specs.Mounting.{Held, map_of}
use Rattle.crash_core.specs.Holding.{entries_held, held_at}
use Rattle.crash_core.proofs.EntryMaps.{IsApart}
use Rattle.crash_core.proofs.Lists.{entry_held, map_at}
use Rattle.core_laws.specs.Listed.{AreListed, IsInDirectory, history_entry}
use Rattle.core_laws.specs.Listings.{HaveListedVersions}
use Rattle.core_laws.specs.Mapped.{Versions}
use Rattle.core_laws.specs.Stores.{entry_named}
use Rattle.core_laws.proofs.InStep.{same_entry}
use Rattle.core_laws.proofs.Listed.{listed_named, name_found, named_there}
use Rattle.core_laws.proofs.Mending.{none_some}
use Rattle.commit_gate.proofs.SameMaps.{map_found, map_none}

-- what `of` makes of the version of an entry
abbrev pub object_from : (of : (file generation : ℕ) → Version → Object) → Versions → Option Entry → Option Object
object_from of given None = None
object_from of given (Some e) = option_map (of e.file e.generation) (given e.file e.generation)

module _ (of : (file generation : ℕ) → Version → Object) (entries : List (Option DirEntry)) (kept : List Entry) (given : Versions)
    (listed : AreListed entries kept) (versions : HaveListedVersions entries given) (distinct : AreDistinct entries) where
  -- the object of an entry
  abbrev pub supposed : DirEntry → Object
  supposed e = unwrap_or (object_from of given (Some (history_entry e))) (Damaged e.size)

  abbrev pub held_as : DirEntry → Held
  held_as e = record { entry = e; object = supposed e }

  abbrev pub held : List (Option Held)
  held = map (option_map held_as) entries

  entry_back : (o : Option DirEntry) → option_map (λ (h : Held). h.entry) (option_map held_as o) ≡ o
  entry_back None = refl
  entry_back (Some e) = refl

  all_back : (l : List (Option DirEntry)) → entries_held (map (option_map held_as) l) ≡ l
  all_back [] = refl
  all_back (x ∷ l) = (λ i. entry_back x i ∷ all_back l i)

  pub entries_back : entries_held held ≡ entries
  entries_back = all_back entries

  held_back : (o : Option DirEntry) (h : Held) → option_map held_as o ≡ Some h → (e : DirEntry) × (o ≡ Some e) × (held_as e ≡ h)
  held_back None h is = absurd (none_some h is)
  held_back (Some e) h is = (e, refl, cc (is))

  -- what is held at a place is of the entry there
  pub of_entry : (index : ℕ) (h : Held) → held_at held index ≡ Some h → (e : DirEntry) × (entry_at entries index ≡ Some e) × (held_as e ≡ h)
  of_entry index h stood = held_back (entry_at entries index) h (sym (map_at (option_map held_as) entries index refl) ∙ stood)

  to_held : (index : ℕ) (e : DirEntry) → entry_at entries index ≡ Some e → held_at held index ≡ Some (held_as e)
  to_held index e stood = map_at (option_map held_as) entries index refl ∙ ap (option_map held_as) stood

  apart : (index : ℕ) (e : DirEntry) → entry_at entries index ≡ Some e → IsApart held index (name_of e)
  apart index e stood = λ other y else_ there. distinct index e stood other y.entry else_ (entry_held held entries other y entries_back there)

  -- it is the object of the entry's version
  pub supposed_is : (e : DirEntry) (v : Version) → given e.file e.generation ≡ Some v → supposed e ≡ of e.file e.generation v
  supposed_is e v is = ap (λ (o : Option Version). unwrap_or (option_map (of e.file e.generation) o) (Damaged e.size)) is

  supposed_by : (index : ℕ) (e : DirEntry) → entry_at entries index ≡ Some e → object_from of given (Some (history_entry e)) ≡ Some (supposed e)
  supposed_by index e stood =
      let v = versions index e stood in
      ap (option_map (of e.file e.generation)) v.1 ∙ ap (λ (x : Object). Some x) (sym (supposed_is e v.0 v.1))

  map_by : (name : ObjectName) (o : Option Entry) → entry_named name kept ≡ o → object_at (map_of held) name ≡ object_from of given o
  map_by name None none = map_none held name (λ index h stood.
      let e = of_entry index h stood in
      let found : entry_named (name_of e.0) kept ≡ Some (history_entry e.0) = listed_named entries kept listed distinct index e.0 e.1 in
      let off : at (name_of e.0) name ≡ false = elim (cases_Bool (at (name_of e.0) name)) [
        | inl tied ↦ absurd (none_some (history_entry e.0) (sym none ∙ sym (same_entry (name_of e.0) name kept tied) ∙ found))
        | inr apart_ ↦ apart_
      ] in
      subst (λ (x : Held). at (name_of x.entry) name ≡ false) e.2 off)
  map_by name (Some x) is =
      let e : IsInDirectory entries x = listed.back x (named_there name x kept is) in
      let tied : at (name_of e.entry) name ≡ true = alike.symm (name_of e.entry) name ∙ ap (λ (y : Entry). at name y.name) e.is ∙ name_found name x kept is in
      map_found held e.index (held_as e.entry) name (to_held e.index e.entry e.at) (apart e.index e.entry e.at) tied
      ∙ sym (supposed_by e.index e.entry e.at) ∙ ap (λ (y : Entry). object_from of given (Some y)) e.is

  -- the map of these has under each name the object of the version of its entry
  pub map_has : (name : ObjectName) → object_at (map_of held) name ≡ object_from of given (entry_named name kept)
  map_has name = map_by name (entry_named name kept) refl
