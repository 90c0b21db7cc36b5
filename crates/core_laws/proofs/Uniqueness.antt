-- Entries of the history, no two of one name, after a commit.
use Rattle.std.proofs.Common.{◌≡◌, ◌⊎◌, ℕ, Bool, true, false, true≢false, cond, not, List, [], ◌∷◌, map, filter, Option, Some, None, inl, inr, refl, sym, ap, ◌∙◌}
use Rattle.std.proofs.lemmas.Bool.{cases_Bool, cond-false, cond-true}
use Rattle.tee_types.specs.declared.call.Call.{Call}
use Rattle.tee_types.specs.declared.call.Call.TheVariants.{Create, Delete, Rename, Truncate, Write}
use Rattle.store_model.specs.declared.name.ObjectName.{ObjectName}
use Rattle.store_model.specs.Name.{name_eq}
use Rattle.store_model.specs.Record.{Tag}
use Rattle.store_model.proofs.Maps.{at}
use Rattle.dir_records.specs.declared.entry.DirEntry.{DirEntry}
use Rattle.history_seats.specs.Records.{Version}
use Rattle.history_seats.specs.Mounts.{Entry}
use Rattle.history_seats.specs.Versions.{is_entry_of}
use Rattle.history_seats.specs.Directory.{entries_committed, renamed}
use Rattle.crash_core.specs.declared.change.EntryChange.{EntryChange}
use Rattle.crash_core.specs.declared.change.EntryChange.TheVariants.{Clear, Put}
use Rattle.crash_core.specs.DirectoryLaws.{AreEntries}
use Rattle.core_laws.specs.Listed.{AreListed, IsInDirectory, IsTagOfChange, history_entry}
use Rattle.core_laws.specs.Stores.{entry_named}
use Rattle.core_laws.specs.Mapped.{AreApart}
use Rattle.core_laws.specs.EntryLaws.{AreUnique}
use Rattle.core_laws.proofs.Mending.{none_some}
use Rattle.core_laws.proofs.InStep.{same_entry}
use Rattle.core_laws.proofs.Listed.{listed_apart, listed_named, name_found, named_there}
use Rattle.core_laws.proofs.EntryNames.{FindsName, at_itself, finds_by_name, finds_own, named_otherwise, named_without}
use Rattle.core_laws.specs.CallChanges.{IsCallChange, LacksName}

-- a name that none has, not the first and none of the rest
none_parts : (q : ObjectName) (e : Entry) (entries : List Entry) → entry_named q (e ∷ entries) ≡ None → (at q e.name ≡ false) × (entry_named q entries ≡ None)
none_parts q e entries none = by_test (at q e.name) refl none
  where
    by_test : (b : Bool) → at q e.name ≡ b → cond b (Some e) (entry_named q entries) ≡ None → (at q e.name ≡ false) × (entry_named q entries ≡ None)
    by_test true is found = absurd (none_some e (sym found))
    by_test false is found = (is, found)

none_kept : (keep : Entry → Bool) (q : ObjectName) (entries : List Entry) → entry_named q entries ≡ None → entry_named q (filter keep entries) ≡ None
none_kept keep q [] none = refl
none_kept keep q (e ∷ entries) none = let parts = none_parts q e entries none in by_keep parts.0 (none_kept keep q entries parts.1) (keep e)
  where
    by_keep : at q e.name ≡ false → entry_named q (filter keep entries) ≡ None → (c : Bool) → entry_named q (cond c (e ∷ filter keep entries) (filter keep entries)) ≡ None
    by_keep off rest true = ap (λ (b : Bool). cond b (Some e) (entry_named q (filter keep entries))) off ∙ rest
    by_keep off rest false = rest

unique_kept : (keep : Entry → Bool) (entries : List Entry) → AreUnique entries → AreUnique (filter keep entries)
unique_kept keep [] unique = tt
unique_kept keep (e ∷ entries) unique = by_keep (unique_kept keep entries unique.1) (keep e)
  where
    by_keep : AreUnique (filter keep entries) → (c : Bool) → AreUnique (cond c (e ∷ filter keep entries) (filter keep entries))
    by_keep rest true = (none_kept keep e.name entries unique.0, rest)
    by_keep rest false = rest

module _ (tag : Tag Version) (old new : ObjectName) where
  abbrev moved : Entry → Entry
  moved e = record e { name = new }

  stays : (e : Entry) → is_entry_of tag.file tag.generation e ≡ false → renamed tag new e ≡ e
  stays e off = cond-false (is_entry_of tag.file tag.generation e) (moved e) e off

  -- where no entry has the old name, none moves
  none_moves : (entries : List Entry) → FindsName (is_entry_of tag.file tag.generation) old entries → entry_named old entries ≡ None → map (renamed tag new) entries ≡ entries
  none_moves [] finds none = refl
  none_moves (e ∷ entries) finds none =
      let parts = none_parts old e entries none in
      (λ i. stays e (finds.0 ∙ parts.0) i ∷ none_moves entries finds.1 parts.1 i)

  none_renamed : (q : ObjectName) (entries : List Entry) → FindsName (is_entry_of tag.file tag.generation) old entries → at new q ≡ false → entry_named q entries ≡ None
      → entry_named q (map (renamed tag new) entries) ≡ None
  none_renamed q entries finds off none =
      named_otherwise tag old new q entries finds off ∙ ap (λ (o : Option Entry). cond (at old q) None o) none ∙ by_test (at old q)
    where
      by_test : (b : Bool) → ◌≡◌ {A = Option Entry} (cond b None None) None
      by_test true = refl
      by_test false = refl

  unique_renamed : (entries : List Entry) → FindsName (is_entry_of tag.file tag.generation) old entries → AreUnique entries → entry_named new entries ≡ None → AreUnique (map (renamed tag new) entries)
  unique_renamed [] finds unique none = tt
  unique_renamed (e ∷ entries) finds unique none =
      let parts = none_parts new e entries none in
      (first parts.0 parts.1 (cases_Bool (is_entry_of tag.file tag.generation e)), unique_renamed entries finds.1 unique.1 parts.1)
    where
      first : at new e.name ≡ false → entry_named new entries ≡ None → (is_entry_of tag.file tag.generation e ≡ true) ⊎ (is_entry_of tag.file tag.generation e ≡ false)
          → entry_named (renamed tag new e).name (map (renamed tag new) entries) ≡ None
      first off free (inl own) =
          let gone : entry_named old entries ≡ None = same_entry old e.name entries (sym finds.0 ∙ own) ∙ unique.0 in
          ap (λ (x : Entry). entry_named x.name (map (renamed tag new) entries)) (cond-true (is_entry_of tag.file tag.generation e) (moved e) e own)
          ∙ ap (entry_named new) (none_moves entries finds.1 gone) ∙ free
      first off free (inr other) = ap (λ (x : Entry). entry_named x.name (map (renamed tag new) entries)) (stays e other) ∙ none_renamed e.name entries finds.1 off unique.0

-- a name that no entry of the directory has, none of the history's has
pub lacks_named : (entries : List (Option DirEntry)) (listed : List Entry) (name : ObjectName) → AreListed entries listed → LacksName entries name → entry_named name listed ≡ None
lacks_named entries listed name l lacks = by_found (entry_named name listed) refl
  where
    by_found : (o : Option Entry) → entry_named name listed ≡ o → entry_named name listed ≡ None
    by_found None is = is
    by_found (Some x) is =
        let i : IsInDirectory entries x = l.back x (named_there name x listed is) in
        absurd (true≢false (sym (name_found name x listed is) ∙ ap (λ (y : Entry). at name y.name) (sym i.is) ∙ lacks i.index i.entry i.at))

module _ (application : List ℕ) (entries : List (Option DirEntry)) (counter : ℕ) (tag : Tag Version) (listed : List Entry) (l : AreListed entries listed) (before : AreEntries entries) (unique : AreUnique listed) where
  pub unique_committed : (call : Call) (change : EntryChange) → IsCallChange application call entries counter change → IsTagOfChange entries change tag
      → AreUnique (entries_committed application call (Some tag) listed)
  unique_committed (Create id flags attributes bytes) (Put index e) makes tagged =
      let name : ObjectName = record { app = application; id = id } in (
        named_without (λ x. name_eq name x.name) name name listed (finds_by_name name listed) ∙ ap (λ (b : Bool). cond b None (entry_named name listed)) (at_itself name),
        unique_kept (λ x. not (name_eq name x.name)) listed unique,
      )
  unique_committed (Write handle bytes) (Put index e) makes tagged = unique
  unique_committed (Truncate handle size) (Put index e) makes tagged = unique
  unique_committed (Rename handle id) (Put index e) makes tagged =
      let new : ObjectName = record { app = application; id = id } in
      let was : DirEntry = makes.next.was.entry in
      let named : entry_named makes.old listed ≡ Some (history_entry was) =
      ap (λ (n : ObjectName). entry_named n listed) (sym makes.next.was.named) ∙ listed_named entries listed l before.distinct index was makes.next.was.at in
      let apart : AreApart listed = listed_apart entries listed l before.single in
      unique_renamed tag makes.old new listed
      (finds_own tag.file tag.generation makes.old (history_entry was) listed unique apart named (sym makes.next.file ∙ sym tagged.file) (sym makes.next.generation ∙ sym tagged.generation))
      unique (lacks_named entries listed new l makes.free)
  unique_committed (Delete handle) (Clear index) makes tagged = unique_kept (λ x. not (is_entry_of tag.file tag.generation x)) listed unique
  unique_committed call change makes tagged = absurd makes
