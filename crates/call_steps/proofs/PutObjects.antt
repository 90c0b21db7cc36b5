-- The object that a commit of the machine puts is what stands for the version that the commit leaves.
use Rattle.std.proofs.Common.{◌≡◌, ℕ, Bool, cond, List, Option, Some, IsSome, refl, sym, ap, ◌∙◌, subst}
use Rattle.tee_types.specs.declared.call.Call.{Call}
use Rattle.tee_types.specs.declared.call.Call.TheVariants.{Create, Delete, Rename, Truncate, Write}
use Rattle.tee_types.specs.declared.flags.Flags.{Flags}
use Rattle.store_model.specs.declared.name.ObjectName.{ObjectName}
use Rattle.store_model.specs.declared.session.Handle.{Handle}
use Rattle.store_model.specs.Calls.{state_after}
use Rattle.store_model.specs.Data.{resized_contents, written_contents}
use Rattle.store_model.specs.Machine.{MachineState}
use Rattle.store_model.specs.Makes.{Change, HasContents, IsMadeChange, MakesChange, MapChange, Move}
use Rattle.store_model.specs.Makes.{Put as PutObject}
use Rattle.store_model.specs.Object.{Contents, Object, ObjectMap, Sound, changed_object, object_at}
use Rattle.store_model.specs.Record.{Tag}
use Rattle.store_model.proofs.MadeChanges.{commits_make_changes}
use Rattle.store_model.proofs.MapLaws.{alike, object_at-changed}
use Rattle.dir_records.specs.declared.entry.DirEntry.{DirEntry}
use Rattle.history_seats.specs.Directory.{given_version}
use Rattle.history_seats.specs.Records.{Version}
use Rattle.history_seats.specs.Views.{GateView}
use Rattle.crash_core.specs.Entries.{name_of}
use Rattle.crash_core.specs.declared.change.EntryChange.TheVariants.{Put}
use Rattle.crash_core.specs.EntryChanges.{IsChange}
use Rattle.core_laws.specs.TamperScenarios.{TamperScenario, object_under}
use Rattle.core_laws.specs.Stores.{Store, replay_at}
use Rattle.core_laws.proofs.Mending.{some_same}
use Rattle.core_laws.specs.CommitMaps.{IsCommitUnder}
use Rattle.core_laws.specs.OwnEntries.{AreTold}

-- the object that a change of one object leaves
changed_here : (objects : ObjectMap) (q : ObjectName) (x : Object) → IsSome (object_at objects q) → object_at (changed_object objects q x) q ≡ Some x
changed_here objects q x there = object_at-changed objects q q x there ∙ ap (λ (b : Bool). cond b (Some x) (object_at objects q)) (alike.refl q)

one_changed : (objects : ObjectMap) (q : ObjectName) (x y : Object) → IsSome (object_at objects q) → changed_object objects q x ≡ changed_object objects q y → x ≡ y
one_changed objects q x y there same = some_same x y (sym (changed_here objects q x there) ∙ ap (λ (l : ObjectMap). object_at l q) same ∙ changed_here objects q y there)

one_sound : (a b : Contents) → (let o : Object = Sound a in o ≡ Sound b) → a ≡ b
one_sound a b e = cc

is_there : (o : Option Object) (x : Object) → o ≡ Some x → IsSome o
is_there o x is = subst (λ (y : Option Object). IsSome y) (sym is) refl

module _ (store : Store) (scenario : TamperScenario) (view : GateView) (entries : List (Option DirEntry)) (counter session : ℕ) (tag : Tag Version) (left : Option Version)
    (told : AreTold store scenario view entries) where
  abbrev m : MachineState
  m = (replay_at store scenario view.all).state

  -- what stands for the version in the entry's file
  abbrev stands_for : DirEntry → Version → Object
  stands_for e v = object_under store.keys scenario e.file e.generation v

  abbrev Puts : Call → Type 0
  Puts call =
      (index : ℕ) (e : DirEntry) (made : MapChange) (object : Object) (v : Version) → IsCommitUnder store scenario view entries counter session call (Put index e) tag left
      → MakesChange m session call made → IsChange m.objects entries counter made (Put index e) object → left ≡ Some v → stands_for e v ≡ object

  -- a call that changes the object of its handle
  in_place : (number : ℕ) (f : Handle → Contents → Contents) (name other : ObjectName) (object x under : Object) (q : ObjectName) (after : ObjectMap) → HasContents m session number name object f
      → HasContents m session number other x f → after ≡ changed_object m.objects other x → after ≡ changed_object m.objects q under → q ≡ name → under ≡ object
  in_place number f name other object x under q after a b leaves stands named =
      let handle : a.handle ≡ b.handle = some_same a.handle b.handle (sym a.live ∙ b.live) in
      let same : other ≡ name = sym b.named ∙ ap (λ (h : Handle). h.name) (sym handle) ∙ a.named in
      let old : a.old ≡ b.old = one_sound a.old b.old (some_same (Sound a.old) (Sound b.old) (sym a.was ∙ ap (object_at m.objects) (sym same) ∙ b.was)) in
      let alike_put : x ≡ object = b.is ∙ (λ i. Sound (f (sym handle i) (sym old i))) ∙ sym a.is in
      let there : IsSome (object_at m.objects q) = is_there (object_at m.objects q) (Sound a.old) (ap (object_at m.objects) named ∙ a.was) in
      let maps : changed_object m.objects q x ≡ changed_object m.objects q under = ap (λ (n : ObjectName). changed_object m.objects n x) (named ∙ sym same) ∙ sym leaves ∙ stands in
      sym (one_changed m.objects q x under there maps) ∙ alike_put

  by_create : (id : List ℕ) (flags : Flags) (attributes bytes : List ℕ) → Puts (Create id flags attributes bytes)
  by_create id flags attributes bytes index e (PutObject name o) object v c makes change is = c.object v is ∙ sym makes.1 ∙ sym change.enters.1
  by_create id flags attributes bytes index e made object v c makes change is = absurd makes

  by_write : (number : ℕ) (bytes : List ℕ) → Puts (Write number bytes)
  by_write number bytes index e (Change name o) object v c makes change is =
      let own = commits_make_changes m session (Write number bytes) c.due in by_own own.0 own.1
    where
      by_own : (own : MapChange) → IsMadeChange m session (Write number bytes) own → stands_for e v ≡ object
      by_own (Change other x) own =
          in_place number (λ live old. written_contents old live.position bytes) name other o x (stands_for e v) (name_of e) (state_after m session (Write number bytes)).objects makes own.makes
          own.leaves (c.object v is) change.enters.0.named ∙ sym change.enters.1
      by_own made own = absurd own.makes
  by_write number bytes index e made object v c makes change is = absurd makes

  by_truncate : (number size : ℕ) → Puts (Truncate number size)
  by_truncate number size index e (Change name o) object v c makes change is =
      let own = commits_make_changes m session (Truncate number size) c.due in by_own own.0 own.1
    where
      by_own : (own : MapChange) → IsMadeChange m session (Truncate number size) own → stands_for e v ≡ object
      by_own (Change other x) own =
          in_place number (λ live old. resized_contents old size) name other o x (stands_for e v) (name_of e) (state_after m session (Truncate number size)).objects makes own.makes
          own.leaves (c.object v is) change.enters.0.named ∙ sym change.enters.1
      by_own made own = absurd own.makes
  by_truncate number size index e made object v c makes change is = absurd makes

  -- the version stays, and so does its object
  by_rename : (number : ℕ) (id : List ℕ) → Puts (Rename number id)
  by_rename number id index e (Move old new) object v c makes change is =
      let own = c.on.0 in
      let next = change.enters.0 in
      let fact = told.facts.each index own.entry own.at in
      let t = c.commit.tagged in
      let same : next.was.entry ≡ own.entry = some_same next.was.entry own.entry (sym next.was.at ∙ own.at) in
      let file : e.file ≡ own.entry.file = next.file ∙ ap (λ (x : DirEntry). x.file) same in
      let generation : e.generation ≡ own.entry.generation = next.generation ∙ ap (λ (x : DirEntry). x.generation) same in
      let name : old ≡ name_of own.entry = sym next.was.named ∙ ap name_of same in
      let given : Some v ≡ Some fact.version =
      sym is ∙ c.object ∙ (λ i. given_version store.mounted view.all ((t.file ∙ file) i) ((t.generation ∙ generation) i)) ∙ fact.gives in
      let version : v ≡ fact.version = some_same v fact.version given in
      (λ i. object_under store.keys scenario (file i) (generation i) (version i))
      ∙ some_same (object_under store.keys scenario own.entry.file own.entry.generation fact.version) object (sym fact.object ∙ ap (object_at m.objects) (sym name) ∙ change.enters.1)
  by_rename number id index e made object v c makes change is = absurd makes

  pub puts_object : (call : Call) → Puts call
  puts_object (Create id flags attributes bytes) = by_create id flags attributes bytes
  puts_object (Write number bytes) = by_write number bytes
  puts_object (Truncate number size) = by_truncate number size
  puts_object (Rename number id) = by_rename number id
  puts_object (Delete number) = λ index e made object v c makes change is. absurd c.commit.makes
  puts_object call = λ index e made object v c makes change is. absurd c.commit.makes
