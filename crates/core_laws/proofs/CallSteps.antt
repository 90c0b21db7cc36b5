-- The steps of a create, a rename and a delete: entries, versions and objects go in step.
use Rattle.std.proofs.Common.{◌≡◌, ℕ, Bool, true, false, true≢false, cond, not, List, ◌∷◌, filter, Option, Some, None, option_map, refl, sym, ap, ◌∙◌, subst}
use Rattle.tee_types.specs.declared.call.Call.TheVariants.{Create, Delete, Rename}
use Rattle.tee_types.specs.declared.flags.Flags.{Flags}
use Rattle.store_model.specs.declared.name.ObjectName.{ObjectName}
use Rattle.store_model.specs.Name.{name_eq}
use Rattle.store_model.specs.Object.{Object, ObjectMap, moved_object, object_at, without_object}
use Rattle.store_model.specs.Calls.{state_after}
use Rattle.store_model.specs.Files.{files_after, moved_by, without_file}
use Rattle.store_model.specs.Record.{Tag}
use Rattle.store_model.specs.ReplayState.{ReplayState}
use Rattle.store_model.proofs.Maps.{at, moved_object-held}
use Rattle.store_model.proofs.MapLaws.{alike, object_at-with, object_at-without}
use Rattle.history_seats.specs.Records.{HistoryRecord, Version}
use Rattle.history_seats.specs.Mounts.{Entry}
use Rattle.history_seats.specs.Versions.{is_entry_of}
use Rattle.history_seats.specs.Directory.{given_version, with_name}
use Rattle.core_laws.specs.TamperScenarios.{TamperScenario, object_under}
use Rattle.core_laws.specs.Stores.{Store, entries_at, entry_named, replay_at}
use Rattle.core_laws.specs.Mapped.{IsInStep, Versions, object_by}
use Rattle.core_laws.specs.CommitLaws.{Place}
use Rattle.core_laws.specs.EntryLaws.{CreatesKeepMaps, CreatesObject, DeletesKeepMaps, HasOwnEntry, RenamesKeepMaps, RenamesObject, name_given}
use Rattle.core_laws.proofs.InStep.{object_of, same_object}
use Rattle.core_laws.proofs.CommitEnds.{doubtful_ends, made_ends}
use Rattle.core_laws.proofs.EntryNames.{FindsName, finds_by_name, finds_own, named_anew, named_otherwise, named_without}

module _ (store : Store) (scenario : TamperScenario) (before : List HistoryRecord) (place : Place) where
  abbrev here : ReplayState
  here = replay_at store scenario before

  abbrev entries : List Entry
  entries = (entries_at store before).now

  abbrev versions : Versions
  versions = given_version store.mounted before

  abbrev KeepsOthers : List Entry → Versions → Type 0
  KeepsOthers more after =
      (e : Entry) (name : ObjectName) → entry_named name more ≡ Some e → ((e.file ≡ place.file) × (e.generation ≡ place.generation) → ⊥) → after e.file e.generation ≡ versions e.file e.generation

  -- A create.
  module _ (session : ℕ) (id : List ℕ) (flags : Flags) (attributes bytes : List ℕ) (version : Version) (x : CreatesObject store scenario before session id flags attributes bytes place version) where
    abbrev name : ObjectName
    name = name_given store session id

    abbrev created : Entry
    created = record { name = name; file = place.file; generation = place.generation }

    abbrev with_created : List Entry
    with_created = created ∷ filter (λ e. not (name_eq name e.name)) entries

    created-twice : (b : Bool) (o : Option Entry) → cond b (Some created) (cond b None o) ≡ cond b (Some created) o
    created-twice true o = refl
    created-twice false o = refl

    created-named : (q : ObjectName) → entry_named q with_created ≡ cond (at name q) (Some created) (entry_named q entries)
    created-named q =
        ap (λ (b : Bool). cond b (Some created) (entry_named q (filter (λ e. not (name_eq name e.name)) entries))) (alike.symm q name)
        ∙ ap (λ (o : Option Entry). cond (at name q) (Some created) o) (named_without (λ e. name_eq name e.name) name q entries (finds_by_name name entries))
        ∙ created-twice (at name q) (entry_named q entries)

    pub create_step : (after : Versions) (t : ReplayState) → after place.file place.generation ≡ Some version → KeepsOthers with_created after
        → t.state.objects ≡ (state_after here.state session (Create id flags attributes bytes)).objects
        → t.files ≡ files_after here.files here.state session (Create id flags attributes bytes) (Some place.file)
        → IsInStep store.keys scenario after with_created t
    create_step after t own others objects files = record {
      objects = λ q.
          ap (λ (m : ObjectMap). object_at m q) (objects ∙ x.changes)
          ∙ object_at-with here.state.objects name q (object_under store.keys scenario place.file place.generation version)
          ∙ by_name q (at name q) refl ∙ ap (object_by store.keys scenario after) (sym (created-named q));
      files = λ q.
          (λ i. files i q) ∙ ap (λ (n : ObjectName). cond (at n q) (Some place.file) (here.files q)) x.name
          ∙ by_file q (at name q) ∙ ap (option_map (λ (e : Entry). e.file)) (sym (created-named q));
    }
      where
        by_name : (q : ObjectName) (b : Bool) → at name q ≡ b
            → cond (at name q) (Some (object_under store.keys scenario place.file place.generation version)) (object_at here.state.objects q) ≡ object_by store.keys scenario after (cond (at name q) (Some created) (entry_named q entries))
        by_name q true is =
            ap (λ (b : Bool). cond b (Some (object_under store.keys scenario place.file place.generation version)) (object_at here.state.objects q)) is
            ∙ sym (ap (option_map (object_under store.keys scenario place.file place.generation)) own)
            ∙ sym (ap (λ (b : Bool). object_by store.keys scenario after (cond b (Some created) (entry_named q entries))) is)
        by_name q false is =
            ap (λ (b : Bool). cond b (Some (object_under store.keys scenario place.file place.generation version)) (object_at here.state.objects q)) is
            ∙ x.mapped.objects q
            ∙ same_object store.keys scenario versions after (entry_named q entries)
            (λ e found. others e q (created-named q ∙ ap (λ (b : Bool). cond b (Some created) (entry_named q entries)) is ∙ found) (x.fresh q e found))
            ∙ sym (ap (λ (b : Bool). object_by store.keys scenario after (cond b (Some created) (entry_named q entries))) is)

        by_file : (q : ObjectName) (b : Bool) → cond b (Some place.file) (here.files q) ≡ option_map (λ (e : Entry). e.file) (cond b (Some created) (entry_named q entries))
        by_file q true = refl
        by_file q false = x.mapped.files q

  -- An object with an entry of its own.
  module _ (session handle : ℕ) (old : ObjectName) (entry : Entry) (x : HasOwnEntry store scenario before session handle old entry place) where
    finds : FindsName (is_entry_of place.file place.generation) old entries
    finds = finds_own place.file place.generation old entry entries x.unique x.apart x.named x.file x.generation

    -- an entry of another name is of another file
    other-file : (q : ObjectName) (e : Entry) → at old q ≡ false → entry_named q entries ≡ Some e → (e.file ≡ place.file) × (e.generation ≡ place.generation) → ⊥
    other-file q e off found same = true≢false (sym (x.apart old q entry e x.named found (x.file ∙ sym same.0)) ∙ off)

    -- A delete.
    module _ (changes : (state_after here.state session (Delete handle)).objects ≡ without_object here.state.objects old) where
      abbrev without : List Entry
      without = filter (λ e. not (is_entry_of place.file place.generation e)) entries

      deleted-named : (q : ObjectName) → entry_named q without ≡ cond (at old q) None (entry_named q entries)
      deleted-named q = named_without (is_entry_of place.file place.generation) old q entries finds

      pub delete_step : (after : Versions) (t : ReplayState) → KeepsOthers without after
          → t.state.objects ≡ (state_after here.state session (Delete handle)).objects → t.files ≡ files_after here.files here.state session (Delete handle) (Some place.file)
          → IsInStep store.keys scenario after without t
      delete_step after t others objects files = record {
        objects = λ q.
            ap (λ (m : ObjectMap). object_at m q) (objects ∙ changes) ∙ object_at-without here.state.objects old q x.rising
            ∙ by_name q (at old q) refl ∙ ap (object_by store.keys scenario after) (sym (deleted-named q));
        files = λ q.
            (λ i. files i q) ∙ ap (λ (n : Option ObjectName). without_file here.files n q) x.by_handle
            ∙ by_file q (at old q) ∙ ap (option_map (λ (e : Entry). e.file)) (sym (deleted-named q));
      }
        where
          by_name : (q : ObjectName) (b : Bool) → at old q ≡ b → cond (at old q) None (object_at here.state.objects q) ≡ object_by store.keys scenario after (cond (at old q) None (entry_named q entries))
          by_name q true is =
              ap (λ (b : Bool). cond b None (object_at here.state.objects q)) is ∙ sym (ap (λ (b : Bool). object_by store.keys scenario after (cond b None (entry_named q entries))) is)
          by_name q false is =
              ap (λ (b : Bool). cond b None (object_at here.state.objects q)) is
              ∙ x.mapped.objects q
              ∙ same_object store.keys scenario versions after (entry_named q entries)
              (λ e found. others e q (deleted-named q ∙ ap (λ (b : Bool). cond b None (entry_named q entries)) is ∙ found) (other-file q e is found))
              ∙ sym (ap (λ (b : Bool). object_by store.keys scenario after (cond b None (entry_named q entries))) is)

          by_file : (q : ObjectName) (b : Bool) → cond b None (here.files q) ≡ option_map (λ (e : Entry). e.file) (cond b None (entry_named q entries))
          by_file q true = refl
          by_file q false = x.mapped.files q

    -- A rename.
    module _ (id : List ℕ) (version : Version) (y : RenamesObject store scenario before session handle id old entry place version) (tag : Tag Version) (tag_file : tag.file ≡ place.file) (tag_generation : tag.generation ≡ place.generation) where
      abbrev new : ObjectName
      new = name_given store session id

      abbrev anew : List Entry
      anew = with_name tag new entries

      abbrev moved : Entry
      moved = record entry { name = new }

      finds-tag : FindsName (is_entry_of tag.file tag.generation) old entries
      finds-tag = subst (λ (p : ℕ × ℕ). FindsName (is_entry_of p.0 p.1) old entries) (λ i. (sym tag_file i, sym tag_generation i)) finds

      object-there : object_at here.state.objects old ≡ Some (object_under store.keys scenario entry.file entry.generation version)
      object-there = object_of store.keys scenario versions entries here old entry version x.mapped x.named ((λ i. versions (x.file i) (x.generation i)) ∙ y.gives)

      objects-are : (q : ObjectName) → object_at (moved_object here.state.objects old new) q
          ≡ cond (at new q) (Some (object_under store.keys scenario entry.file entry.generation version)) (cond (at old q) None (object_at here.state.objects q))
      objects-are q =
          ap (λ (m : ObjectMap). object_at m q) (moved_object-held here.state.objects old new (object_under store.keys scenario entry.file entry.generation version) object-there)
          ∙ object_at-with (without_object here.state.objects old) new q (object_under store.keys scenario entry.file entry.generation version)
          ∙ ap (λ (o : Option Object). cond (at new q) (Some (object_under store.keys scenario entry.file entry.generation version)) o) (object_at-without here.state.objects old q x.rising)

      renamed-named : (q : ObjectName) → entry_named q anew ≡ cond (at new q) (Some moved) (cond (at old q) None (entry_named q entries))
      renamed-named q = by_test (at new q) refl
        where
          by_test : (b : Bool) → at new q ≡ b → entry_named q anew ≡ cond (at new q) (Some moved) (cond (at old q) None (entry_named q entries))
          by_test true is = named_anew tag old new q entry entries finds-tag is y.free x.named ∙ sym (ap (λ (b : Bool). cond b (Some moved) (cond (at old q) None (entry_named q entries))) is)
          by_test false is = named_otherwise tag old new q entries finds-tag is ∙ sym (ap (λ (b : Bool). cond b (Some moved) (cond (at old q) None (entry_named q entries))) is)

      pub rename_step : (after : Versions) (t : ReplayState) → after place.file place.generation ≡ Some version → KeepsOthers anew after
          → t.state.objects ≡ (state_after here.state session (Rename handle id)).objects → t.files ≡ files_after here.files here.state session (Rename handle id) (Some place.file)
          → IsInStep store.keys scenario after anew t
      rename_step after t own others objects files = record {
        objects = λ q.
            ap (λ (m : ObjectMap). object_at m q) (objects ∙ y.changes) ∙ objects-are q
            ∙ by_name q (at new q) refl (at old q) refl ∙ ap (object_by store.keys scenario after) (sym (renamed-named q));
        files = λ q.
            (λ i. files i q) ∙ (λ i. moved_by here.files (x.by_handle i) (y.name i) q)
            ∙ by_file q (at new q) (at old q) ∙ ap (option_map (λ (e : Entry). e.file)) (sym (renamed-named q));
      }
        where
          own-object : Some (object_under store.keys scenario entry.file entry.generation version) ≡ object_by store.keys scenario after (Some moved)
          own-object = sym (ap (option_map (object_under store.keys scenario entry.file entry.generation)) ((λ i. after (x.file i) (x.generation i)) ∙ own))

          by_name : (q : ObjectName) (b : Bool) → at new q ≡ b → (c : Bool) → at old q ≡ c
              → cond (at new q) (Some (object_under store.keys scenario entry.file entry.generation version)) (cond (at old q) None (object_at here.state.objects q))
              ≡ object_by store.keys scenario after (cond (at new q) (Some moved) (cond (at old q) None (entry_named q entries)))
          by_name q true is c was =
              ap (λ (b : Bool). cond b (Some (object_under store.keys scenario entry.file entry.generation version)) (cond (at old q) None (object_at here.state.objects q))) is
              ∙ own-object
              ∙ sym (ap (λ (b : Bool). object_by store.keys scenario after (cond b (Some moved) (cond (at old q) None (entry_named q entries)))) is)
          by_name q false is true was =
              (λ i. cond (is i) (Some (object_under store.keys scenario entry.file entry.generation version)) (cond (was i) None (object_at here.state.objects q)))
              ∙ sym (λ i. object_by store.keys scenario after (cond (is i) (Some moved) (cond (was i) None (entry_named q entries))))
          by_name q false is false was =
              (λ i. cond (is i) (Some (object_under store.keys scenario entry.file entry.generation version)) (cond (was i) None (object_at here.state.objects q)))
              ∙ x.mapped.objects q
              ∙ same_object store.keys scenario versions after (entry_named q entries)
              (λ e found. others e q (renamed-named q ∙ (λ i. cond (is i) (Some moved) (cond (was i) None (entry_named q entries))) ∙ found) (other-file q e was found))
              ∙ sym (λ i. object_by store.keys scenario after (cond (is i) (Some moved) (cond (was i) None (entry_named q entries))))

          by_file : (q : ObjectName) (b c : Bool) → cond b (here.files old) (cond c None (here.files q)) ≡ option_map (λ (e : Entry). e.file) (cond b (Some moved) (cond c None (entry_named q entries)))
          by_file q true c = x.mapped.files old ∙ ap (option_map (λ (e : Entry). e.file)) x.named
          by_file q false true = refl
          by_file q false false = x.mapped.files q

pub creates_keep : CreatesKeepMaps
creates_keep store scenario before session number id flags attributes bytes reply place version x = record {
  made = made_ends store scenario before session number (Create id flags attributes bytes) reply place (Some version) x.mapped
      (λ committed doubted after t own others objects files. create_step store scenario before place session id flags attributes bytes version x after t own others objects files);
  doubtful = doubtful_ends store scenario before session number (Create id flags attributes bytes) reply place (Some version) x.mapped
      (λ committed doubted after t own others objects files. create_step store scenario before place session id flags attributes bytes version x after t own others objects files);
}

pub deletes_keep : DeletesKeepMaps
deletes_keep store scenario before session number handle reply old entry place x = record {
  made = made_ends store scenario before session number (Delete handle) reply place None x.own.mapped
      (λ committed doubted after t own others objects files. delete_step store scenario before place session handle old entry x.own x.changes after t others objects files);
  doubtful = doubtful_ends store scenario before session number (Delete handle) reply place None x.own.mapped
      (λ committed doubted after t own others objects files. delete_step store scenario before place session handle old entry x.own x.changes after t others objects files);
}

pub renames_keep : RenamesKeepMaps
renames_keep store scenario before session number handle id reply old entry place version y = record {
  made = made_ends store scenario before session number (Rename handle id) reply place (Some version) y.own.mapped
      (λ committed doubted after t own others objects files.
      rename_step store scenario before place session handle old entry y.own id version y (record { file = place.file; generation = place.generation; committed = committed; doubted = doubted }) refl refl
      after t own others objects files);
  doubtful = doubtful_ends store scenario before session number (Rename handle id) reply place (Some version) y.own.mapped
      (λ committed doubted after t own others objects files.
      rename_step store scenario before place session handle old entry y.own id version y (record { file = place.file; generation = place.generation; committed = committed; doubted = doubted }) refl refl
      after t own others objects files);
}
