-- Each part of a store that is mounted and synced has its fact.
use Rattle.std.proofs.Common.{◌≡◌, ℕ, List, [], ◌∷◌, Bool, true, ◌&&◌, ◌||◌, eqb, map, IsTrue, Option, Some, None, inl, inr, refl, sym, ◌∙◌, ap, subst, eq-eqb, arith, true≢false}
use Rattle.std.specs.Prelude.{◌==◌, Contains}
use Rattle.std.specs.Option.{option_map}
use Rattle.std.proofs.lemmas.Bool.{cases_Bool, cases_eq, cond-true, cond-false, and_parts, eqb-true}
use Rattle.disk_model.specs.State.{FileState, LeftNow, pending}
use Rattle.node_image.specs.References.{IsCurrent}
use Rattle.node_image.specs.declared.node.RootRef.{RootRef}
use Rattle.hmac_keys.specs.declared.Keys.{Keys}
use Rattle.tee_types.specs.Limits.{directory_file}
use Rattle.rpmb_card.specs.Card.{CardState}
use Rattle.dir_records.specs.declared.entry.DirEntry.{DirEntry}
use Rattle.history_seats.specs.Records.{Version}
use Rattle.history_seats.specs.Mounts.{Entry, Mounted, MountedEntry}
use Rattle.history_seats.specs.Versions.{is_entry_of, version_among}
use Rattle.history_seats.specs.Directory.{given_version, has_entry}
use Rattle.crash_core.specs.MountedObject.{mounted_object, object_in}
use Rattle.crash_core.specs.DeviceKeys.{object_key}
use Rattle.crash_core.specs.EntryLists.{entry_at}
use Rattle.crash_core.specs.Mounting.{Held, all_held_in, held_in}
use Rattle.crash_core.specs.Opening.{IsOpened, core_at, reads_of}
use Rattle.crash_core.specs.CoreState.{IsTrusted, Phase}
use Rattle.crash_core.specs.Holding.{held_at}
use Rattle.crash_core.specs.Theorem.{IsStart}
use Rattle.crash_core.proofs.Lists.{map_at}
use Rattle.crash_core.proofs.Openings.{entries_back, held_back, openings_are_starts}
use Rattle.crash_core.proofs.Sightings.{one_image}
use Rattle.core_laws.specs.SlotParts.{IsShownIn, Knows, VersionStands}
use Rattle.core_laws.specs.GateParts.{GateDirectory, GateHolds, IsBacked, IsVersionOf}
use Rattle.core_laws.specs.Joined.{Parts, PartsFit, PartsHold, files_of}
use Rattle.core_laws.specs.Opened.{HasMounted, IsMountOf, IsMountedAs, OpeningsHold, first_parts, first_view}
use Rattle.core_laws.proofs.Contained.{contains_cases, contains_first, contains_later, contains_none}
use Rattle.core_laws.proofs.JoinedParts.{file_is}

-- the first of the entries that has that file and generation
pub record IsAmong (entries : List MountedEntry) (file generation : ℕ) (version : Option Version) : Type 0 where
  pub mounted : MountedEntry
  pub there : Contains entries mounted
  pub own : is_entry_of file generation mounted.entry ≡ true
  pub is : version ≡ Some mounted.version

-- a version that is found is that of an entry
found_among : (file generation : ℕ) (entries : List MountedEntry) (v : Version) → version_among file generation entries ≡ Some v
    → (m : MountedEntry) × Contains entries m × (is_entry_of file generation m.entry ≡ true) × (m.version ≡ v)
found_among file generation [] v is = absurd (cc (is))
found_among file generation (e ∷ entries) v is = elim (cases_Bool (is_entry_of file generation e.entry)) [
  | inl own ↦
      let here : Some e.version ≡ Some v = sym (cond-true (is_entry_of file generation e.entry) (Some e.version) (version_among file generation entries) own) ∙ is in
      (e, contains_first e e entries refl, own, cc (here))
  | inr other ↦
      let rest = found_among file generation entries v (sym (cond-false (is_entry_of file generation e.entry) (Some e.version) (version_among file generation entries) other) ∙ is) in
      (rest.0, contains_later e rest.0 entries rest.1, rest.2, rest.3)
]

-- an entry that is there is found
among_found : (file generation : ℕ) (entries : List MountedEntry) (m : MountedEntry) → Contains entries m → is_entry_of file generation m.entry ≡ true
    → (v : Version) × (version_among file generation entries ≡ Some v) × (has_entry file generation (map (λ x. x.entry) entries) ≡ true)
among_found file generation [] m there own = absurd (contains_none m there)
among_found file generation (e ∷ entries) m there own = elim (cases_Bool (is_entry_of file generation e.entry)) [
  | inl here ↦ (
    e.version,
    cond-true (is_entry_of file generation e.entry) (Some e.version) (version_among file generation entries) here,
    ap (λ (b : Bool). b || has_entry file generation (map (λ x. x.entry) entries)) here,
  )
  | inr other ↦ elim (contains_cases e m entries there) [
    | inl is ↦ absurd (true≢false (sym own ∙ ap (λ (x : MountedEntry). is_entry_of file generation x.entry) (sym is) ∙ other))
    | inr more ↦
        let rest = among_found file generation entries m more own in (
          rest.0,
          cond-false (is_entry_of file generation e.entry) (Some e.version) (version_among file generation entries) other ∙ rest.1,
          ap (λ (b : Bool). b || has_entry file generation (map (λ x. x.entry) entries)) other ∙ rest.2,
        )
  ]
]

module _ (keys : Keys) (files : ℕ → FileState) (entries : List (Option DirEntry)) (mounted : Mounted) (o : IsMountOf keys files entries mounted) where
  -- a mounted entry of that file and generation is of an entry of the directory
  of_entry : (file generation : ℕ) (m : MountedEntry) → Contains mounted.entries m → is_entry_of file generation m.entry ≡ true → (h : HasMounted keys files entries m) × (h.entry.file ≡ file)
  of_entry file generation m there own =
      let h = o.back m there in
      let parts = and_parts (m.entry.file == file) (m.entry.generation == generation) own in
      (h, ap (λ (x : Entry). x.file) h.told.entry ∙ eqb-true m.entry.file file parts.0)

  -- what a slot knows as it is split stands in its file
  first_stands : (file : ℕ) (v : Version) (m : MountedEntry) → (h : HasMounted keys files entries m) → h.entry.file ≡ file → m.version ≡ v
      → ((image : List ℕ) → LeftNow (files file) image → image ≡ (files file).reads) → IsTrue (files file).honest → VersionStands keys (files file) v
  first_stands file v m h own is one honest =
      let e : DirEntry = h.entry in
      let current : IsCurrent m.version.root = subst IsCurrent (sym h.told.version.root) ((o.forms.forms h.index e h.at).version, o.current h.index e h.at) in
      let shown : IsShownIn keys (files e.file).reads m.version = h.told.shown (subst (λ (n : ℕ). IsTrue (files n).honest) (sym own) honest) in
      let here : IsShownIn keys (files file).reads v =
      subst (λ (w : Version). IsShownIn keys (files file).reads w) is (subst (λ (n : ℕ). IsShownIn keys (files n).reads m.version) own shown) in
      record {
        current = subst (λ (w : Version). IsCurrent w.root) is current;
        shown = λ image left. subst (λ (i : List ℕ). IsShownIn keys i v) (sym (one image left)) here;
      }

  -- the entry's version is known to the gate
  first_known : (index : ℕ) (e : DirEntry) → entry_at entries index ≡ Some e → (m : MountedEntry) × (given_version mounted [] e.file e.generation ≡ Some m.version) × IsMountedAs keys files e m
  first_known index e at =
      let own = o.each index e at in
      let m : MountedEntry = own.0 in
      let same : is_entry_of e.file e.generation m.entry ≡ true =
      subst (λ (x : Entry). is_entry_of e.file e.generation x ≡ true) own.2 (ap (λ (b : Bool). b && (e.generation == e.generation)) (eq-eqb e.file e.file refl) ∙ eq-eqb e.generation e.generation refl) in
      let found = among_found e.file e.generation mounted.entries m own.1 same in
      let first = found_among e.file e.generation mounted.entries found.0 found.1 in
      let h = of_entry e.file e.generation first.0 first.1 first.2 in
      let one : h.0.index ≡ index = o.forms.single h.0.index index h.0.entry e h.0.at at h.1 in
      let both : Some h.0.entry ≡ Some e = sym h.0.at ∙ ap (entry_at entries) one ∙ at in
      let is : h.0.entry ≡ e = cc (both) in (
        first.0,
        cond-true (has_entry e.file e.generation (map (λ x. x.entry) mounted.entries)) (version_among e.file e.generation mounted.entries) None found.2 ∙ found.1 ∙ ap (λ (v : Version). Some v) (sym first.3),
        subst (λ (x : DirEntry). IsMountedAs keys files x first.0) is h.0.told,
      )

-- the object that an entry mounts as is that of its version
mounted_is : (keys : Keys) (image : List ℕ) (e : DirEntry) (v : Version) → IsVersionOf e v → IsShownIn keys image v → v.object ≡ mounted_object (object_key keys e.app) image e
mounted_is keys image e v own shown =
    sym shown.object ∙ (λ j. object_in (object_key keys (own.app j)) image (own.root j) (own.size j) (own.attributes j))

module _ (phase : Phase) (files : ℕ → FileState) (card : CardState) (root : RootRef) (entries : List (Option DirEntry)) (mounted : Mounted) (outs sessions : List ℕ) (generations : ℕ → ℕ)
    (o : IsOpened phase files card root entries) (t : IsMountOf phase.keys files entries mounted) where
  abbrev p : Parts
  p = first_parts files card root entries mounted outs sessions generations

  slot_known : (file : ℕ) (v : Version) → IsTrue (files file).honest → Knows (first_view mounted file (generations file)) v → VersionStands phase.keys (files file) v
  slot_known file v honest (inl given) =
      let generation : ℕ = given.0 in
      let has : Bool = has_entry file generation (map (λ x. x.entry) mounted.entries) in
      elim (cases_Bool has) [
        | inl there ↦
            let found = found_among file generation mounted.entries v (sym (cond-true has (version_among file generation mounted.entries) None there) ∙ given.1) in
            let h = of_entry phase.keys files entries mounted t file generation found.0 found.1 found.2 in
            let settled = t.settled h.0.index h.0.entry h.0.at (subst (λ (n : ℕ). IsTrue (files n).honest) (sym h.1) honest) in
            first_stands phase.keys files entries mounted t file v found.0 h.0 h.1 found.3
            (one_image (files file) (o.sound file) honest (subst (λ (n : ℕ). pending (files n) ≡ []) h.1 settled)) honest
        | inr none ↦
            let nothing : None ≡ Some v = sym (cond-false has (version_among file generation mounted.entries) None none) ∙ given.1 in
            absurd (cc (nothing))
      ]
  slot_known file v honest (inr left) = let none : None ≡ Some (Some v) = left.1 in absurd (cc (none))

  start : IsStart phase (core_at {Root = Version} files card root entries)
  start = openings_are_starts {Root = Version} phase files card root entries o

  backed : (index : ℕ) (h : Held) → held_at (all_held_in phase.keys (reads_of files) entries) index ≡ Some h → IsTrusted phase h.entry.file → IsBacked p.gate.view None h
  backed index h at trusted =
      let found = held_back phase files (entry_at entries index) h (sym (map_at (option_map (held_in phase.keys (reads_of files))) entries index refl) ∙ at) in
      subst (λ (x : Held). IsTrusted phase x.entry.file → IsBacked p.gate.view None x) found.2
      (λ own.
      let known = first_known phase.keys files entries mounted t index found.0 found.1 in
      inl (known.0.version, inl known.1, known.2.version, mounted_is phase.keys (files found.0.file).reads found.0 known.0.version known.2.version (known.2.shown (o.honest found.0.file own)))) trusted

  gate_directory : GateDirectory phase (files directory_file) p.gate.view None root entries phase.begins.objects
  gate_directory = record {
    own = λ trusted. let d = start.directory trusted in record { sight = d.sight; stands = d.own; reads = d.reads };
    held = all_held_in phase.keys (reads_of files) entries;
    holds = entries_back phase files entries;
    each = backed;
    map_is = λ trusted. sym (o.begins trusted);
  }

  gate_holds : GateHolds phase p.gate
  gate_holds = record { sound = o.sound directory_file; committed = gate_directory; pending = o.names; taken = λ file actor taken. absurd (cc (taken)) }

  parts_fit : PartsFit phase p.gate p.slots
  parts_fit = record {
    numbered = λ file other. refl;
    fits = λ file own. record {
      sees = record { begins = record { rest = []; is = refl; lacks = refl }; decided_before = omega arith; decided_within = omega arith; decided_below = tt };
      mounted = refl;
    };
    putting = λ h puts. absurd (cc (puts));
  }

  same_file : (file : ℕ) → files_of p.gate p.slots file ≡ files file
  same_file file = elim (cases_eq file directory_file) [
    | inl is ↦ cond-true (eqb file directory_file) (files directory_file) (files file) (eq-eqb file directory_file is) ∙ ap files (sym is)
    | inr other ↦ file_is p.gate p.slots file other
  ]

  pub first_hold : PartsHold phase (first_parts files card root entries mounted outs sessions generations)
  first_hold = record {
    gate = gate_holds;
    slots = λ file other. record { sound = o.sound file; stands = λ honest v known. slot_known file v honest known };
    fit = parts_fit;
    honest = λ file trusted. subst (λ (s : FileState). IsTrue s.honest) (sym (same_file file)) (o.honest file trusted);
  }

pub openings_hold : OpeningsHold
openings_hold phase files card root entries mounted outs sessions generations o t = first_hold phase files card root entries mounted outs sessions generations o t
