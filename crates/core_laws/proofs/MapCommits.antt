-- A commit that changes an object in place, made or in doubt, keeps the map in step where it gives its version the object that the machine's
-- does.
use Rattle.std.proofs.Common.{◌≡◌, ◌==◌, ◌&&◌, ℕ, Bool, true, false, cond, List, [], ◌∷◌, ◌++◌, Option, Some, None, IsSome, unwrap_or, slice_index_or, refl, sym, ap, ◌∙◌, subst, inl, inr}
use Rattle.std.proofs.lemmas.Bool.{and_parts, cases_Bool, cond-true, eq-eqb, eqb-true}
use Rattle.tee_types.specs.declared.call.Call.{Call}
use Rattle.tee_types.specs.declared.call.Call.TheVariants.{Truncate, Write}
use Rattle.store_model.specs.declared.name.ObjectName.{ObjectName}
use Rattle.store_model.specs.declared.event.Mark.TheVariants.{Made, Doubtful}
use Rattle.store_model.specs.Object.{changed_object}
use Rattle.store_model.specs.Machine.{MachineState}
use Rattle.store_model.specs.Calls.{state_after}
use Rattle.store_model.specs.Doubt.{Doubt}
use Rattle.store_model.specs.Files.{FileMap, files_after}
use Rattle.store_model.specs.Record.{Tag}
use Rattle.store_model.specs.ReplayState.{ReplayState, replay_after_call, replay_landed}
use Rattle.store_model.proofs.Maps.{at}
use Rattle.history_seats.specs.Records.{HistoryRecord, Version, is_object}
use Rattle.history_seats.specs.Mounts.{Entry}
use Rattle.history_seats.specs.Settling.{Pending, as_landed}
use Rattle.history_seats.specs.Versions.{is_entry_of, version_of}
use Rattle.history_seats.specs.Directory.{entries_committed, given_version, has_entry}
use Rattle.history_seats.specs.CommitLaws.{GivesInDoubt, GivesMade}
use Rattle.history_seats.specs.Tags.{HasRightTag}
use Rattle.history_seats.proofs.Givens.{directory-snoc}
use Rattle.history_seats.proofs.GivenStays.{doubt-gives, given-there, made-gives}
use Rattle.history_seats.proofs.Lists.{both_true, or_left, or_right}
use Rattle.core_laws.specs.TamperScenarios.{TamperScenario, object_under}
use Rattle.core_laws.specs.Shown.{IsPartial}
use Rattle.core_laws.specs.Stores.{Store, entries_at, entry_named, replay_at}
use Rattle.core_laws.specs.Mapped.{IsMappedBoth, landed_version}
use Rattle.core_laws.specs.CommitLaws.{ChangesObject, changing_record}
use Rattle.core_laws.proofs.Mending.{none_some, some_same}
use Rattle.core_laws.proofs.Answers.{replay_state-snoc}
use Rattle.core_laws.proofs.InStep.{in_step_changed, in_step_same}

-- an entry of a name is among the entries
pub has_named : (name : ObjectName) (e : Entry) (entries : List Entry) → entry_named name entries ≡ Some e → has_entry e.file e.generation entries ≡ true
has_named name e [] is = absurd (none_some e is)
has_named name e (x ∷ entries) is = by_test (has_named name e entries) (at name x.name) refl is
  where
    by_test : (entry_named name entries ≡ Some e → has_entry e.file e.generation entries ≡ true) → (b : Bool) → at name x.name ≡ b → cond b (Some x) (entry_named name entries) ≡ Some e → has_entry e.file e.generation (x ∷ entries) ≡ true
    by_test later true tied same =
        let own : x ≡ e = some_same x e same in
        or_left (is_entry_of e.file e.generation x) (has_entry e.file e.generation entries)
        (both_true (x.file == e.file) (x.generation == e.generation) (eq-eqb x.file e.file (ap (λ (y : Entry). y.file) own)) (eq-eqb x.generation e.generation (ap (λ (y : Entry). y.generation) own)))
    by_test later false apart same = or_right (is_entry_of e.file e.generation x) (has_entry e.file e.generation entries) (later same)

-- such a call moves no entry and no file
unmoved : (application : List ℕ) (call : Call) (tag : Option (Tag Version)) (entries : List Entry) → IsPartial call → entries_committed application call tag entries ≡ entries
unmoved application call None entries partial = refl
unmoved application (Write handle bytes) (Some tag) entries partial = refl
unmoved application (Truncate handle size) (Some tag) entries partial = refl
unmoved application call (Some tag) entries partial = absurd partial

same_files : (files : FileMap) (s : MachineState) (i : ℕ) (call : Call) (file : Option ℕ) → IsPartial call → files_after files s i call file ≡ files
same_files files s i (Write handle bytes) file partial = refl
same_files files s i (Truncate handle size) file partial = refl
same_files files s i call file partial = absurd partial

pub not_object : (file generation : ℕ) (tag : Tag Version) → ((file ≡ tag.file) × (generation ≡ tag.generation) → ⊥) → is_object file generation (Some tag) ≡ false
not_object file generation tag apart = elim (cases_Bool ((tag.file == file) && (tag.generation == generation))) [
  | inl same ↦
      let both = and_parts (tag.file == file) (tag.generation == generation) same in
      absurd (apart (sym (eqb-true tag.file file both.0), sym (eqb-true tag.generation generation both.1)))
  | inr off ↦ off
]

module _ (store : Store) (scenario : TamperScenario) (all : List HistoryRecord) (x : ChangesObject store scenario all) (partial : IsPartial x.call) where
  abbrev here : ReplayState
  here = replay_at store scenario all

  abbrev version_there : Type 0
  version_there = IsSome (given_version store.mounted all x.tag.file x.tag.generation)

  given-at : IsSome (given_version store.mounted all x.entry.file x.entry.generation)
  given-at = subst (λ (o : Option Version). IsSome o) (λ i. given_version store.mounted all (sym x.file i) (sym x.generation i)) x.there

  changes-at : (state_after here.state x.session x.call).objects ≡ changed_object here.state.objects x.mine (object_under store.keys scenario x.entry.file x.entry.generation x.version)
  changes-at = x.changes ∙ (λ i. changed_object here.state.objects x.mine (object_under store.keys scenario (sym x.file i) (sym x.generation i) x.version))

  own-entry : has_entry x.tag.file x.tag.generation (entries_at store all).now ≡ true
  own-entry = (λ i. has_entry (sym x.file i) (sym x.generation i) (entries_at store all).now) ∙ has_named x.mine x.entry (entries_at store all).now x.named

  abbrev apps : List ℕ
  apps = slice_index_or store.mounted.applications x.session []

  pub made_both : (commit : ℕ) → HasRightTag store.mounted all (changing_record x (Made commit) (Some x.version) None)
      → IsMappedBoth store scenario 0 (all ++ changing_record x (Made commit) (Some x.version) None ∷ [])
  made_both commit right =
      let entries : entries_at store after ≡ record { now = entries_committed apps x.call r.tag (entries_at store all).now; if_landed = None } = directory-snoc store.mounted all r in
      let listed : (entries_at store after).now ≡ (entries_at store all).now = ap (λ (p : Pending (List Entry)). p.now) entries ∙ unmoved apps x.call r.tag (entries_at store all).now partial in
      let stands : replay_at store scenario after ≡ replay_after_call here x.session x.call x.reply (Made commit) (Some x.tag.file) = replay_state-snoc store scenario all r in
      record {
        now =
            in_step_changed store.keys scenario (given_version store.mounted all) (given_version store.mounted after) (entries_at store all).now (entries_at store after).now
            here (replay_at store scenario after) x.mine x.entry x.version x.mapped x.apart listed x.named given-at
            (ap (λ (s : ReplayState). s.state.objects) stands ∙ changes-at)
            (ap (λ (s : ReplayState). s.files) stands ∙ same_files here.files here.state x.session x.call (Some x.tag.file) partial)
            ((λ i. given_version store.mounted after (x.file i) (x.generation i)) ∙ gives.own)
            (λ e name is off. others listed e name is off);
        landed = λ doubt open_now _. absurd (none_some doubt (sym (ap (λ (s : ReplayState). s.doubt) stands) ∙ open_now));
      }
    where
      r : HistoryRecord
      r = changing_record x (Made commit) (Some x.version) None

      after : List HistoryRecord
      after = all ++ r ∷ []

      tag : Tag Version
      tag = record { file = x.tag.file; generation = x.tag.generation; committed = Some x.version; doubted = None }

      gives : GivesMade store.mounted all after tag
      gives = made-gives store.mounted all r tag refl right refl

      others : (entries_at store after).now ≡ (entries_at store all).now → (e : Entry) (name : ObjectName) → entry_named name (entries_at store all).now ≡ Some e
          → ((e.file ≡ x.entry.file) × (e.generation ≡ x.entry.generation) → ⊥) → given_version store.mounted after e.file e.generation ≡ given_version store.mounted all e.file e.generation
      others listed e name is off =
          gives.others e.file e.generation (not_object e.file e.generation tag (λ same. off (same.0 ∙ sym x.file, same.1 ∙ sym x.generation)))
          ∙ cond-true (has_entry e.file e.generation (entries_at store after).now) (given_version store.mounted all e.file e.generation) None
          (ap (has_entry e.file e.generation) listed ∙ has_named name e (entries_at store all).now is)

  pub doubtful_both : (commit : ℕ) → HasRightTag store.mounted all (changing_record x (Doubtful commit) (given_version store.mounted all x.tag.file x.tag.generation) (Some x.version))
      → IsMappedBoth store scenario 0 (all ++ changing_record x (Doubtful commit) (given_version store.mounted all x.tag.file x.tag.generation) (Some x.version) ∷ [])
  doubtful_both commit right =
      let entries : entries_at store after ≡ record { now = (entries_at store all).now; if_landed = Some (entries_committed apps x.call r.tag (entries_at store all).now) } = directory-snoc store.mounted all r in
      let landed_list : (as_landed (entries_at store after)).now ≡ (entries_at store all).now =
      ap (λ (p : Pending (List Entry)). (as_landed p).now) entries ∙ unmoved apps x.call r.tag (entries_at store all).now partial in
      let stands : replay_at store scenario after ≡ record here { doubt = Some doubt } = replay_state-snoc store scenario all r in
      record {
        now =
            in_step_same store.keys scenario (given_version store.mounted all) (given_version store.mounted after) (entries_at store all).now (entries_at store after).now
            here (replay_at store scenario after) x.mapped (ap (λ (p : Pending (List Entry)). p.now) entries) (λ e name is. gives.given e.file e.generation)
            (ap (λ (s : ReplayState). s.state.objects) stands) (ap (λ (s : ReplayState). s.files) stands);
        landed = λ other open_now is_open.
            let same : other ≡ doubt = some_same other doubt (sym open_now ∙ ap (λ (s : ReplayState). s.doubt) stands) in
            let t : ReplayState = replay_landed (replay_at store scenario after) (Some other) in
            let lands : t ≡ replay_landed (record here { doubt = Some doubt }) (Some doubt) = λ i. replay_landed (stands i) (Some (same i)) in
            in_step_changed store.keys scenario (given_version store.mounted all) (landed_version store.mounted after) (entries_at store all).now (as_landed (entries_at store after)).now
            here t x.mine x.entry x.version x.mapped x.apart landed_list x.named given-at
            (ap (λ (s : ReplayState). s.state.objects) lands ∙ changes-at)
            (ap (λ (s : ReplayState). s.files) lands ∙ same_files here.files here.state x.session x.call (Some x.tag.file) partial)
            ((λ i. landed_version store.mounted after (x.file i) (x.generation i)) ∙ own landed_list)
            (λ e name is off. others landed_list (ap (λ (p : Pending (List Entry)). p.now) entries) e name is off);
      }
    where
      r : HistoryRecord
      r = changing_record x (Doubtful commit) (given_version store.mounted all x.tag.file x.tag.generation) (Some x.version)

      after : List HistoryRecord
      after = all ++ r ∷ []

      tag : Tag Version
      tag = record { file = x.tag.file; generation = x.tag.generation; committed = given_version store.mounted all x.tag.file x.tag.generation; doubted = Some x.version }

      doubt : Doubt
      doubt = record { commit = commit; session = x.session; call = x.call; file = Some x.tag.file }

      gives : GivesInDoubt store.mounted all after tag
      gives = doubt-gives store.mounted all r tag refl right refl

      own : (as_landed (entries_at store after)).now ≡ (entries_at store all).now → landed_version store.mounted after x.tag.file x.tag.generation ≡ Some x.version
      own listed =
          cond-true (has_entry x.tag.file x.tag.generation (as_landed (entries_at store after)).now) (as_landed (version_of x.tag.file x.tag.generation store.mounted after)).now None
          (ap (has_entry x.tag.file x.tag.generation) listed ∙ own-entry)
          ∙ ap (λ (o : Option (Option Version)). unwrap_or o (version_of x.tag.file x.tag.generation store.mounted after).now) gives.own

      others : (as_landed (entries_at store after)).now ≡ (entries_at store all).now → (entries_at store after).now ≡ (entries_at store all).now
          → (e : Entry) (name : ObjectName) → entry_named name (entries_at store all).now ≡ Some e
          → ((e.file ≡ x.entry.file) × (e.generation ≡ x.entry.generation) → ⊥) → landed_version store.mounted after e.file e.generation ≡ given_version store.mounted all e.file e.generation
      others listed kept e name is off =
          let has = has_named name e (entries_at store all).now is in
          let q : Pending (Option Version) = version_of e.file e.generation store.mounted after in
          cond-true (has_entry e.file e.generation (as_landed (entries_at store after)).now) (as_landed q).now None (ap (has_entry e.file e.generation) listed ∙ has)
          ∙ ap (λ (o : Option (Option Version)). unwrap_or o q.now) (gives.others e.file e.generation (not_object e.file e.generation tag (λ same. off (same.0 ∙ sym x.file, same.1 ∙ sym x.generation))))
          ∙ sym (given-there store.mounted after e.file e.generation (ap (has_entry e.file e.generation) kept ∙ has))
          ∙ gives.given e.file e.generation
