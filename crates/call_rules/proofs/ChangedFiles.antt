-- The files of names after one entry changed.
use Rattle.std.proofs.Common.{◌≡◌, ◌≢◌, ◌<◌, ℕ, true, List, Option, Some, None, inl, inr, length, slice_set, refl, sym, ap, ◌∙◌}
use Rattle.std.proofs.lemmas.Bool.{cases_eq}
use Rattle.std.proofs.lemmas.Cmp.{tied_itself}
use Rattle.std.proofs.lemmas.Grind.{get_or-set_at}
use Rattle.std.proofs.lemmas.List.{get_or-set_other}
use Rattle.std.proofs.Common.{true≢false}
use Rattle.std.specs.Ordering.{is_eq}
use Rattle.dir_records.specs.declared.entry.DirEntry.{DirEntry}
use Rattle.store_model.specs.declared.name.ObjectName.{ObjectName}
use Rattle.store_model.specs.Name.{name_cmp}
use Rattle.store_model.proofs.Maps.{name_cmp_total}
use Rattle.core_laws.specs.Entries.{name_of}
use Rattle.core_laws.specs.EntryLists.{AreDistinct, entry_at}
use Rattle.core_laws.specs.EntryChanges.{IsNewEntry, IsNextEntry, IsPlaceOf}
use Rattle.call_rules.specs.OpenHandles.{HasFile}
use Rattle.call_rules.proofs.OpenSteps.{KeepsFile}

-- an entry at the index is not that of the name
abbrev pub IsNotAt : List (Option DirEntry) → ℕ → ObjectName → Type 0
IsNotAt entries index name = (f : DirEntry) → entry_at entries index ≡ Some f → name_of f ≢ name

module _ (entries : List (Option DirEntry)) (index : ℕ) where
  pub keeps-elsewhere : (x : Option DirEntry) (name : ObjectName) → IsNotAt entries index name → KeepsFile entries (slice_set entries index x) name
  keeps-elsewhere x name other file has_file =
      let apart : has_file.index ≢ index = λ same. other has_file.named.entry (ap (entry_at entries) (sym same) ∙ has_file.named.at) has_file.named.named in
      record {
        index = has_file.index;
        named = record { entry = has_file.named.entry; at = get_or-set_other entries index has_file.index x None apart ∙ has_file.named.at; named = has_file.named.named };
        is = has_file.is;
      }

  -- what stands at the index of a new entry has its name, or nothing does
  place-name : (name : ObjectName) (o : Option DirEntry) (f : DirEntry) → IsPlaceOf name o → o ≡ Some f → name_of f ≡ name
  place-name name None f place is = absurd (cc (is))
  place-name name (Some g) f place is = let same : g ≡ f = cc (is) in ap name_of (sym same) ∙ place

  pub new-not_at : (counter : ℕ) (e : DirEntry) (name q : ObjectName) → IsNewEntry entries counter index e name → q ≢ name → IsNotAt entries index q
  new-not_at counter e name q new apart f at same = apart (sym same ∙ place-name name (entry_at entries index) f new.place at)

  pub next-not_at : (e : DirEntry) (old new q : ObjectName) → IsNextEntry entries index e old new → q ≢ old → IsNotAt entries index q
  next-not_at e old new q next apart f at same =
      let both : Some f ≡ Some next.was.entry = sym at ∙ next.was.at in
      let one : f ≡ next.was.entry = cc (both) in
      apart (sym same ∙ ap name_of one ∙ next.was.named)

  module _ (within : index < length entries) (e : DirEntry) where
    pub put-file : (name : ObjectName) (file : ℕ) → name_of e ≡ name → file ≡ e.file → HasFile (slice_set entries index (Some e)) name file
    put-file name file named is = record {
      index = index;
      named = record { entry = e; at = get_or-set_at entries index index (Some e) None refl within; named = named };
      is = is;
    }

    -- the file of the entry that was there
    next-file : (old new : ObjectName) (file : ℕ) → IsNextEntry entries index e old new → (f : DirEntry) → entry_at entries index ≡ Some f → file ≡ f.file
        → HasFile (slice_set entries index (Some e)) new file
    next-file old new file next f at is =
        let both : Some f ≡ Some next.was.entry = sym at ∙ next.was.at in
        let one : f ≡ next.was.entry = cc (both) in
        put-file new file next.named (is ∙ ap (λ (x : DirEntry). x.file) one ∙ sym next.file)

    -- a change of an object's own entry keeps the file of every name
    pub keeps-same : (name : ObjectName) → IsNextEntry entries index e name name → (q : ObjectName) → KeepsFile entries (slice_set entries index (Some e)) q
    keeps-same name next q file has_file = elim (cases_eq has_file.index index) [
      | inl same ↦
          let at : entry_at entries index ≡ Some has_file.named.entry = ap (entry_at entries) (sym same) ∙ has_file.named.at in
          let both : Some has_file.named.entry ≡ Some next.was.entry = sym at ∙ next.was.at in
          let one : has_file.named.entry ≡ next.was.entry = cc (both) in
          let q_is : q ≡ name = sym has_file.named.named ∙ ap name_of one ∙ next.was.named in
          put-file q file (next.named ∙ sym q_is) (has_file.is ∙ ap (λ (x : DirEntry). x.file) one ∙ sym next.file)
      | inr apart ↦ record {
        index = has_file.index;
        named = record {
          entry = has_file.named.entry;
          at = get_or-set_other entries index has_file.index (Some e) None apart ∙ has_file.named.at;
          named = has_file.named.named;
        };
        is = has_file.is;
      }
    ]

    -- the entry that is renamed takes its file along
    pub moves-file : (old new : ObjectName) → IsNextEntry entries index e old new → AreDistinct entries → (file : ℕ) → HasFile entries old file
        → HasFile (slice_set entries index (Some e)) new file
    moves-file old new next distinct file has_file = elim (cases_eq has_file.index index) [
      | inl same ↦ next-file old new file next has_file.named.entry (ap (entry_at entries) (sym same) ∙ has_file.named.at) has_file.is
      | inr apart ↦
          let one : name_of next.was.entry ≡ name_of has_file.named.entry = next.was.named ∙ sym has_file.named.named in
          let alike : is_eq (name_cmp (name_of next.was.entry) (name_of has_file.named.entry)) ≡ true =
          ap (λ (n : ObjectName). is_eq (name_cmp (name_of next.was.entry) n)) (sym one) ∙ ap is_eq (tied_itself name_cmp_total (name_of next.was.entry)) in
          absurd (true≢false (sym alike ∙ distinct index next.was.entry next.was.at has_file.index has_file.named.entry apart has_file.named.at))
    ]
