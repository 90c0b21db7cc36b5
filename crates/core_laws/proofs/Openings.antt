-- A phase opens with a map that is in step with the mount, under each tamper scenario; and it is the mount's map altered back.
use Rattle.std.proofs.Common.{◌≡◌, ◌==◌, ◌&&◌, ℕ, Bool, true, false, cond, List, [], ◌∷◌, map, find, Option, Some, None, option_map, refl, sym, ap, ◌∙◌, is_eq}
use Rattle.std.proofs.lemmas.Bool.{cond-false, cond-true, eq-eqb}
use Rattle.store_model.specs.declared.name.ObjectName.{ObjectName}
use Rattle.store_model.specs.Name.{name_cmp}
use Rattle.store_model.specs.Object.{Object, ObjectMap, object_at}
use Rattle.store_model.proofs.Maps.{at}
use Rattle.store_model.proofs.MapLaws.{alike}
use Rattle.history_seats.specs.Mounts.{Entry, MountedEntry}
use Rattle.history_seats.specs.Versions.{is_entry_of, version_among}
use Rattle.history_seats.specs.Directory.{given_version, has_entry}
use Rattle.core_laws.specs.TamperScenarios.{TamperScenario, object_under}
use Rattle.core_laws.specs.Stores.{OpensMounted, Store, entry_named, mounted_named, object_for, objects_under}
use Rattle.core_laws.specs.Mapped.{IsMappedBoth, object_by}
use Rattle.core_laws.specs.MapLaws.{AreMountedApart}
use Rattle.core_laws.proofs.Mending.{none_some, some_same}
use Rattle.core_laws.proofs.MapCommits.{has_named}

-- a look-up among values that are changed by their keys, where tied keys change alike
lookup-keyed : (f : ObjectName → Object → Object) (name : ObjectName) → ((other : ObjectName) → at name other ≡ true → f other ≡ f name) → (entries : ObjectMap)
    → object_at (map (λ e. (e.0, f e.0 e.1)) entries) name ≡ option_map (f name) (object_at entries name)
lookup-keyed f name tied [] = refl
lookup-keyed f name tied (e ∷ entries) = by_test (lookup-keyed f name tied entries) (at name e.0) refl
  where
    by_test : object_at (map (λ x. (x.0, f x.0 x.1)) entries) name ≡ option_map (f name) (object_at entries name) → (b : Bool) → at name e.0 ≡ b
        → cond (at name e.0) (Some (f e.0 e.1)) (object_at (map (λ x. (x.0, f x.0 x.1)) entries) name) ≡ option_map (f name) (cond (at name e.0) (Some e.1) (object_at entries name))
    by_test later true same =
        ap (λ (b : Bool). cond b (Some (f e.0 e.1)) (object_at (map (λ x. (x.0, f x.0 x.1)) entries) name)) same
        ∙ ap (λ (h : Object → Object). Some (h e.1)) (tied e.0 same)
        ∙ sym (ap (λ (b : Bool). option_map (f name) (cond b (Some e.1) (object_at entries name))) same)
    by_test later false apart =
        ap (λ (b : Bool). cond b (Some (f e.0 e.1)) (object_at (map (λ x. (x.0, f x.0 x.1)) entries) name)) apart
        ∙ later
        ∙ sym (ap (λ (b : Bool). option_map (f name) (cond b (Some e.1) (object_at entries name))) apart)

-- the entries that the mount named, by name
named-mounted : (name : ObjectName) (entries : List MountedEntry)
    → entry_named name (map (λ e. e.entry) entries) ≡ option_map (λ e. e.entry) (find (λ e. is_eq (name_cmp name e.entry.name)) entries)
named-mounted name [] = refl
named-mounted name (e ∷ entries) = by_test (named-mounted name entries) (at name e.entry.name)
  where
    by_test : entry_named name (map (λ x. x.entry) entries) ≡ option_map (λ x. x.entry) (find (λ x. is_eq (name_cmp name x.entry.name)) entries)
        → (b : Bool) → cond b (Some e.entry) (entry_named name (map (λ x. x.entry) entries)) ≡ option_map (λ x. x.entry) (cond b (Some e) (find (λ x. is_eq (name_cmp name x.entry.name)) entries))
    by_test later true = refl
    by_test later false = later

-- an entry that is found is one of them, whose version is the one of its file and generation
version-found : (name : ObjectName) (e : MountedEntry) (entries : List MountedEntry) → AreMountedApart entries
    → find (λ x. is_eq (name_cmp name x.entry.name)) entries ≡ Some e → version_among e.entry.file e.entry.generation entries ≡ Some e.version
version-found name e [] apart is = absurd (none_some e is)
version-found name e (x ∷ entries) apart is = by_name (version-found name e entries apart.1) (at name x.entry.name) is
  where
    hits : Bool
    hits = is_entry_of e.entry.file e.entry.generation x.entry

    by_name : (find (λ y. is_eq (name_cmp name y.entry.name)) entries ≡ Some e → version_among e.entry.file e.entry.generation entries ≡ Some e.version)
        → (b : Bool) → cond b (Some x) (find (λ y. is_eq (name_cmp name y.entry.name)) entries) ≡ Some e
        → cond (is_entry_of e.entry.file e.entry.generation x.entry) (Some x.version) (version_among e.entry.file e.entry.generation entries) ≡ Some e.version
    by_name later true found =
        let same : x ≡ e = some_same x e found in
        cond-true hits (Some x.version) (version_among e.entry.file e.entry.generation entries)
        ((λ i. (x.entry.file == (sym same i).entry.file) && (x.entry.generation == (sym same i).entry.generation)) ∙ (λ i. eq-eqb x.entry.file x.entry.file refl i && eq-eqb x.entry.generation x.entry.generation refl i))
        ∙ ap (λ (y : MountedEntry). Some y.version) same
    by_name later false found =
        cond-false hits (Some x.version) (version_among e.entry.file e.entry.generation entries) (apart.0 name e found)
        ∙ later found

module _ (store : Store) (scenario : TamperScenario) (opens : OpensMounted store) (apart : AreMountedApart store.mounted.entries) where
  -- what stands for the object of a name
  object-opened : (name : ObjectName) → object_at (objects_under store scenario) name
      ≡ option_map (λ e. object_under store.keys scenario e.entry.file e.entry.generation e.version) (mounted_named name store.mounted)
  object-opened name =
      lookup-keyed (λ n. object_for store.keys scenario (mounted_named n store.mounted)) name
      (λ other tied. λ i. object_for store.keys scenario (find (λ (x : MountedEntry). sym (alike.congr name other x.entry.name tied) i) store.mounted.entries))
      store.objects
      ∙ ap (option_map (object_for store.keys scenario (mounted_named name store.mounted))) (opens name)
      ∙ by_entry (mounted_named name store.mounted)
    where
      by_entry : (o : Option MountedEntry) → option_map (object_for store.keys scenario o) (option_map (λ e. e.version.object) o)
          ≡ option_map (λ e. object_under store.keys scenario e.entry.file e.entry.generation e.version) o
      by_entry None = refl
      by_entry (Some e) = refl

  mapped-entry : (name : ObjectName) (o : Option MountedEntry) → mounted_named name store.mounted ≡ o
      → option_map (λ e. object_under store.keys scenario e.entry.file e.entry.generation e.version) o ≡ object_by store.keys scenario (given_version store.mounted []) (option_map (λ e. e.entry) o)
  mapped-entry name None is = refl
  mapped-entry name (Some e) is =
      let listed : entry_named name (map (λ x. x.entry) store.mounted.entries) ≡ Some e.entry = named-mounted name store.mounted.entries ∙ ap (option_map (λ x. x.entry)) is in
      let gives : given_version store.mounted [] e.entry.file e.entry.generation ≡ Some e.version =
      cond-true (has_entry e.entry.file e.entry.generation (map (λ x. x.entry) store.mounted.entries)) (version_among e.entry.file e.entry.generation store.mounted.entries) None
      (has_named name e.entry (map (λ x. x.entry) store.mounted.entries) listed) ∙ version-found name e store.mounted.entries apart is in
      sym (ap (option_map (object_under store.keys scenario e.entry.file e.entry.generation)) gives)

  pub opening_both : (z : ℕ) → IsMappedBoth store scenario z []
  opening_both z = record {
    now = record {
      objects = λ name.
          object-opened name ∙ mapped-entry name (mounted_named name store.mounted) refl
          ∙ ap (object_by store.keys scenario (given_version store.mounted [])) (sym (named-mounted name store.mounted.entries));
      files = λ name. by_entry (mounted_named name store.mounted) ∙ ap (option_map (λ (e : Entry). e.file)) (sym (named-mounted name store.mounted.entries));
    };
    landed = λ doubt open_now _. absurd (none_some doubt open_now);
  }
    where
      by_entry : (o : Option MountedEntry) → option_map (λ e. e.entry.file) o ≡ option_map (λ (e : Entry). e.file) (option_map (λ e. e.entry) o)
      by_entry None = refl
      by_entry (Some e) = refl
