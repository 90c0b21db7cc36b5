-- A commit that changes the gate's entries as its call does keeps the map of objects in step.
use Rattle.std.proofs.Common.{◌≡◌, ℕ, List, [], Option, Some, None, option_map, IsSome, refl, sym, ap, ◌∙◌, subst}
use Rattle.tee_types.specs.declared.call.Call.{Call}
use Rattle.tee_types.specs.declared.call.Call.TheVariants.{Create, Delete, Rename, Truncate, Write}
use Rattle.tee_types.specs.declared.flags.Flags.{Flags}
use Rattle.tee_types.specs.declared.reply.Reply.{Reply}
use Rattle.store_model.specs.declared.name.ObjectName.{ObjectName}
use Rattle.store_model.specs.declared.session.Handle.{Handle}
use Rattle.store_model.specs.Object.{Sound, changed_object, moved_object, with_object, without_object}
use Rattle.store_model.specs.Machine.{MachineState, handle_at, name_in, session_at}
use Rattle.store_model.specs.Calls.{state_after}
use Rattle.store_model.specs.Files.{name_by}
use Rattle.store_model.specs.Record.{Tag}
use Rattle.store_model.proofs.CloseCommits.{MovedBy, RemovedBy, delete-left, put-left, rename-left}
use Rattle.dir_records.specs.declared.entry.DirEntry.{DirEntry}
use Rattle.history_seats.specs.Records.{HistoryRecord, Version}
use Rattle.history_seats.specs.Directory.{given_version}
use Rattle.history_seats.specs.Views.{GateView}
use Rattle.crash_core.specs.Entries.{name_of}
use Rattle.crash_core.specs.declared.change.EntryChange.{EntryChange}
use Rattle.crash_core.specs.declared.change.EntryChange.TheVariants.{Clear, Put}
use Rattle.crash_core.specs.EntryChanges.{IsNextEntry}
use Rattle.core_laws.specs.Listed.{history_entry}
use Rattle.core_laws.specs.TamperScenarios.{TamperScenario, object_under}
use Rattle.core_laws.specs.Shown.{IsPartial}
use Rattle.core_laws.specs.Stores.{Store, entries_at, entry_named, replay_at}
use Rattle.core_laws.specs.CommitLaws.{ChangesObject, Place}
use Rattle.core_laws.specs.EntryLaws.{EndsKeepMaps, HasOwnEntry, name_given}
use Rattle.core_laws.proofs.Mending.{some_same}
use Rattle.core_laws.proofs.MapCommits.{doubtful_both, made_both}
use Rattle.core_laws.proofs.CallSteps.{creates_keep, deletes_keep, renames_keep}
use Rattle.core_laws.specs.MachineChanges.{IsAtHand}
use Rattle.core_laws.specs.OwnEntries.{AreTold}
use Rattle.core_laws.specs.CommitMaps.{CommitsKeepMaps, IsCommitUnder, place_of}
use Rattle.core_laws.proofs.Applications.{applications_stay}
use Rattle.core_laws.proofs.Told.{tied_tell}

module _ (store : Store) (scenario : TamperScenario) (view : GateView) (entries : List (Option DirEntry)) (counter session number : ℕ) (reply : Reply) (tag : Tag Version) (left : Option Version)
    (told : AreTold store scenario view entries) where
  abbrev all : List HistoryRecord
  all = view.all

  abbrev s : MachineState
  s = (replay_at store scenario all).state

  abbrev Ends : Call → Option Version → Type 0
  Ends call left = EndsKeepMaps store scenario all session number call reply (place_of tag) left

  -- the name that a call gives
  named_so : (id : List ℕ) → name_in s session id ≡ name_given store session id
  named_so id = λ i. record { app = applications_stay store scenario all session i; id = id }

  -- an entry's version is given for its place
  given_there : (e : DirEntry) (version : Version) → e.file ≡ tag.file → e.generation ≡ tag.generation → given_version store.mounted all e.file e.generation ≡ Some version
      → given_version store.mounted all tag.file tag.generation ≡ Some version
  given_there e version file generation gives = (λ i. given_version store.mounted all (sym file i) (sym generation i)) ∙ gives

  is_some_by : (o : Option Version) (v : Version) → o ≡ Some v → IsSome o
  is_some_by o v is = subst (λ (x : Option Version). IsSome x) (sym is) refl

  -- A write or a truncate.
  in_place : (call : Call) → IsPartial call → (index : ℕ) (e : DirEntry) (v : Version) (next : IsNextEntry entries index e (name_of e) (name_of e)) → e.file ≡ tag.file → e.generation ≡ tag.generation
      → (state_after s session call).objects ≡ changed_object s.objects (name_of e) (object_under store.keys scenario e.file e.generation v) → Ends call (Some v)
  in_place call partial index e v next file generation leaves = record {
    made = λ commit right. made_both store scenario all x partial commit right;
    doubtful = λ commit right. doubtful_both store scenario all x partial commit right;
  }
    where
      x : ChangesObject store scenario all
      x =
          let fact = told.facts.each index next.was.entry next.was.at in
          record {
            session = session;
            number = number;
            call = call;
            reply = reply;
            tag = place_of tag;
            version = v;
            mapped = told.mapped;
            apart = told.facts.apart;
            mine = name_of e;
            entry = history_entry next.was.entry;
            named = ap (λ (n : ObjectName). entry_named n (entries_at store all).now) (sym next.was.named) ∙ fact.named;
            file = sym next.file ∙ file;
            generation = sym next.generation ∙ generation;
            there = is_some_by (given_version store.mounted all tag.file tag.generation) fact.version (given_there next.was.entry fact.version (sym next.file ∙ file) (sym next.generation ∙ generation) fact.gives);
            changes = leaves ∙ (λ i. changed_object s.objects (name_of e) (object_under store.keys scenario (file i) (generation i) v));
          }

  -- the machine calls the object of the handle so
  pub called : (handle index : ℕ) (own : IsAtHand s session handle entries index) → name_by s session handle ≡ Some (name_of own.entry)
  called handle index own = ap (option_map (λ (h : Handle). h.name)) own.live ∙ ap (λ (n : ObjectName). Some n) own.named

  handle_named : (handle index : ℕ) (own : IsAtHand s session handle entries index) (h : Handle) → handle_at (session_at s session) handle ≡ Some h → h.name ≡ name_of own.entry
  handle_named handle index own h live = ap (λ (x : Handle). x.name) (some_same h own.handle (sym live ∙ own.live)) ∙ own.named

  own_at : (handle index : ℕ) (own : IsAtHand s session handle entries index) → own.entry.file ≡ tag.file → own.entry.generation ≡ tag.generation
      → HasOwnEntry store scenario all session handle (name_of own.entry) (history_entry own.entry) (place_of tag)
  own_at handle index own file generation =
      subst (λ (p : Place). HasOwnEntry store scenario all session handle (name_of own.entry) (history_entry own.entry) p) (λ i. record { file = file i; generation = generation i })
      (told.own session handle index own.entry own.at (called handle index own))

  -- the version that is left is that one
  end_so : (call : Call) (other : Option Version) → left ≡ other → Ends call other → Ends call left
  end_so call other is ends = subst (Ends call) (sym is) ends

  by_create : (id : List ℕ) (flags : Flags) (attributes bytes : List ℕ) (change : EntryChange) → IsCommitUnder store scenario view entries counter session (Create id flags attributes bytes) change tag left
      → Ends (Create id flags attributes bytes) left
  by_create id flags attributes bytes (Clear index) c = absurd c.commit.makes
  by_create id flags attributes bytes (Put index e) c =
      let v = c.commit.leaves in
      let t = c.commit.tagged in
      let object : Sound (record { attributes = attributes; bytes = bytes; bad = [] }) ≡ object_under store.keys scenario tag.file tag.generation v.0 =
      sym (c.object v.0 v.1) ∙ (λ i. object_under store.keys scenario (sym t.file i) (sym t.generation i) v.0) in
      end_so (Create id flags attributes bytes) (Some v.0) v.1
      (creates_keep store scenario all session number id flags attributes bytes reply (place_of tag) v.0
      (record {
        mapped = told.mapped;
        name = named_so id;
        fresh = λ name x is same. told.lacked.file e.file c.commit.makes.fresh name x is (same.0 ∙ t.file);
        changes = put-left s session id flags attributes bytes c.due ∙ (λ i. with_object s.objects (named_so id i) (object i));
      }))

  by_write : (handle : ℕ) (bytes : List ℕ) (change : EntryChange) → IsCommitUnder store scenario view entries counter session (Write handle bytes) change tag left → Ends (Write handle bytes) left
  by_write handle bytes (Clear index) c = absurd c.commit.makes
  by_write handle bytes (Put index e) c =
      let v = c.commit.leaves in
      end_so (Write handle bytes) (Some v.0) v.1
      (in_place (Write handle bytes) tt index e v.0 c.commit.makes (sym c.commit.tagged.file) (sym c.commit.tagged.generation) (c.object v.0 v.1))

  by_truncate : (handle size : ℕ) (change : EntryChange) → IsCommitUnder store scenario view entries counter session (Truncate handle size) change tag left → Ends (Truncate handle size) left
  by_truncate handle size (Clear index) c = absurd c.commit.makes
  by_truncate handle size (Put index e) c =
      let v = c.commit.leaves in
      end_so (Truncate handle size) (Some v.0) v.1
      (in_place (Truncate handle size) tt index e v.0 c.commit.makes (sym c.commit.tagged.file) (sym c.commit.tagged.generation) (c.object v.0 v.1))

  by_rename : (handle : ℕ) (id : List ℕ) (change : EntryChange) → IsCommitUnder store scenario view entries counter session (Rename handle id) change tag left → Ends (Rename handle id) left
  by_rename handle id (Clear index) c = absurd c.commit.makes
  by_rename handle id (Put index e) c =
      let v = c.commit.leaves in
      let t = c.commit.tagged in
      let own = c.on.0 in
      let next = c.commit.makes.next in
      let same : next.was.entry ≡ own.entry = some_same next.was.entry own.entry (sym next.was.at ∙ own.at) in
      let file : own.entry.file ≡ tag.file = sym (t.file ∙ next.file ∙ ap (λ (x : DirEntry). x.file) same) in
      let generation : own.entry.generation ≡ tag.generation = sym (t.generation ∙ next.generation ∙ ap (λ (x : DirEntry). x.generation) same) in
      let by : MovedBy s session handle (name_in s session id) (state_after s session (Rename handle id)).objects = rename-left s session handle id c.due in
      end_so (Rename handle id) (Some v.0) v.1
      (renames_keep store scenario all session number handle id reply (name_of own.entry) (history_entry own.entry) (place_of tag) v.0
      (record {
        own = own_at handle index own file generation;
        gives = sym c.object ∙ v.1;
        name = named_so id;
        free = told.lacked.name (name_given store session id) c.commit.makes.free;
        changes = by.leaves ∙ (λ i. moved_object s.objects (handle_named handle index own by.handle by.live i) (named_so id i));
      }))

  by_delete : (handle : ℕ) (change : EntryChange) → IsCommitUnder store scenario view entries counter session (Delete handle) change tag left → Ends (Delete handle) left
  by_delete handle (Put index e) c = absurd c.commit.makes
  by_delete handle (Clear index) c =
      let own = c.on in
      let t = c.commit.tagged own.entry own.at in
      let by : RemovedBy s session handle (state_after s session (Delete handle)).objects = delete-left s session handle c.due in
      end_so (Delete handle) None c.commit.leaves
      (deletes_keep store scenario all session number handle reply (name_of own.entry) (history_entry own.entry) (place_of tag)
      (record {
        own = own_at handle index own (sym t.file) (sym t.generation);
        changes = by.leaves ∙ ap (without_object s.objects) (handle_named handle index own by.handle by.live);
      }))

  by_call : (call : Call) (change : EntryChange) → IsCommitUnder store scenario view entries counter session call change tag left → Ends call left
  by_call (Create id flags attributes bytes) change c = by_create id flags attributes bytes change c
  by_call (Write handle bytes) change c = by_write handle bytes change c
  by_call (Truncate handle size) change c = by_truncate handle size change c
  by_call (Rename handle id) change c = by_rename handle id change c
  by_call (Delete handle) change c = by_delete handle change c
  by_call call change c = absurd c.commit.makes

pub commits_keep : CommitsKeepMaps
commits_keep store scenario view entries counter doubt tied session number call reply change tag left c =
    let told : AreTold store scenario view entries = tied_tell store scenario view entries counter doubt tied c.commit.before c.answered c.mapped in
    by_call store scenario view entries counter session number reply tag left told call change c
