-- A commit leaves the same entries in the gate's directory and in the history's.
use Rattle.std.proofs.Common.{◌≡◌, ◌≢◌, ℕ, ◌<◌, List, length, Bool, true, false, not, ◌&&◌, map, filter, Option, Some, None, inl, inr, sym, ◌∙◌, ap, subst, is_eq, eq-eqb, ne_eqb, true≢false}
use Rattle.std.specs.Prelude.{◌==◌, slice_set, Contains}
use Rattle.std.proofs.lemmas.Bool.{cases_eq, cond-true, cond-false}
use Rattle.tee_types.specs.declared.call.Call.{Call}
use Rattle.tee_types.specs.declared.call.Call.TheVariants.{Create, Write, Truncate, Rename, Delete}
use Rattle.store_model.specs.declared.name.ObjectName.{ObjectName}
use Rattle.store_model.specs.Name.{name_cmp, name_eq}
use Rattle.store_model.specs.Machine.{MachineState, name_in, session_at}
use Rattle.store_model.specs.Makes.{Change, MakesChange, MapChange, Move, Remove}
use Rattle.store_model.specs.Makes.{Put as PutObject}
use Rattle.store_model.specs.Object.{Object}
use Rattle.store_model.specs.Record.{Tag}
use Rattle.dir_records.specs.declared.entry.DirEntry.{DirEntry}
use Rattle.history_seats.specs.Records.{Version}
use Rattle.history_seats.specs.Mounts.{Entry}
use Rattle.history_seats.specs.Versions.{is_entry_of}
use Rattle.history_seats.specs.Directory.{entries_committed, renamed, with_entry, with_name, without_entry}
use Rattle.crash_core.specs.Entries.{name_of}
use Rattle.crash_core.specs.EntryLists.{AreDistinct, AreSingle, entry_at}
use Rattle.crash_core.specs.declared.change.EntryChange.{EntryChange}
use Rattle.crash_core.specs.declared.change.EntryChange.TheVariants.{Clear, Put}
use Rattle.crash_core.specs.EntryChanges.{Enters, IsChange, IsEntryOf, IsNextEntry, IsPlaceOf, changed, index_of}
use Rattle.crash_core.proofs.EntryMaps.{self}
use Rattle.crash_core.proofs.Lists.{set_else, set_here}
use Rattle.crash_core.proofs.Names.{name_test}
use Rattle.core_laws.specs.Listed.{AreListed, IsInDirectory, IsTagOf, IsTagOfChange, history_entry}
use Rattle.core_laws.proofs.Contained.{contains_cases, contains_filtered, contains_first, contains_later, contains_mapped, filtered_contains, mapped_contains}

both-true : (a b : Bool) → a ≡ true → b ≡ true → (a && b) ≡ true
both-true a b x y = ap (λ (c : Bool). c && b) x ∙ y

-- one entry stands at a place
one_at : (entries : List (Option DirEntry)) (index : ℕ) (a b : DirEntry) → entry_at entries index ≡ Some a → entry_at entries index ≡ Some b → a ≡ b
one_at entries index a b x y = let both : Some a ≡ Some b = sym x ∙ y in cc (both)

-- the tag names an entry of its own file and generation
own_tag : (tag : Tag Version) (x : Entry) → x.file ≡ tag.file → x.generation ≡ tag.generation → is_entry_of tag.file tag.generation x ≡ true
own_tag tag x file generation = both-true (x.file == tag.file) (x.generation == tag.generation) (eq-eqb x.file tag.file file) (eq-eqb x.generation tag.generation generation)

other_tag : (tag : Tag Version) (x : Entry) → x.file ≢ tag.file → is_entry_of tag.file tag.generation x ≡ false
other_tag tag x other = ap (λ (b : Bool). b && (x.generation == tag.generation)) (ne_eqb x.file tag.file other)

same_listed : (a b : DirEntry) → name_of a ≡ name_of b → a.file ≡ b.file → a.generation ≡ b.generation → history_entry a ≡ history_entry b
same_listed a b name file generation = (λ j. record { name = name j; file = file j; generation = generation j })

module _ (entries : List (Option DirEntry)) (listed : List Entry) (l : AreListed entries listed) (index : ℕ) (place : index < length entries) where
  -- an entry of the changed directory at another place
  module _ (x : Option DirEntry) where
    else_at : (k : ℕ) (e : DirEntry) → k ≢ index → entry_at (slice_set entries index x) k ≡ Some e → entry_at entries k ≡ Some e
    else_at k e other at = sym (set_else entries index x k other) ∙ at

    else_in : (b : Entry) (i : IsInDirectory entries b) → i.index ≢ index → IsInDirectory (slice_set entries index x) b
    else_in b i other = record { index = i.index; entry = i.entry; at = set_else entries index x i.index other ∙ i.at; is = i.is }

  module _ (e : DirEntry) where
    here_at : (k : ℕ) (x : DirEntry) → k ≡ index → entry_at (slice_set entries index (Some e)) k ≡ Some x → e ≡ x
    here_at k x is at =
        one_at (slice_set entries index (Some e)) index e x (set_here entries index (Some e) place)
        (subst (λ (n : ℕ). entry_at (slice_set entries index (Some e)) n ≡ Some x) is at)

    here_in : (b : Entry) → history_entry e ≡ b → IsInDirectory (slice_set entries index (Some e)) b
    here_in b is = record { index = index; entry = e; at = set_here entries index (Some e) place; is = is }

  -- A write or a truncate: the entry keeps name, file and generation.
  changed_listed : (e : DirEntry) (name : ObjectName) → IsNextEntry entries index e name name → AreListed (slice_set entries index (Some e)) listed
  changed_listed e name n =
      let was : DirEntry = n.was.entry in
      let same : history_entry was ≡ history_entry e = same_listed was e (n.was.named ∙ sym n.named) (sym n.file) (sym n.generation) in
      record {
        each = λ k x at. elim (cases_eq k index) [
          | inl is ↦ subst (λ (y : DirEntry). Contains listed (history_entry y)) (here_at e k x is at) (subst (Contains listed) same (l.each index was n.was.at))
          | inr other ↦ l.each k x (else_at (Some e) k x other at)
        ];
        back = λ b has.
            let i = l.back b has in
            elim (cases_eq i.index index) [
              | inl is ↦
                  let own : was ≡ i.entry = one_at entries index was i.entry n.was.at (subst (λ (k : ℕ). entry_at entries k ≡ Some i.entry) is i.at) in
                  here_in e b (sym same ∙ ap history_entry own ∙ i.is)
              | inr other ↦ else_in (Some e) b i other
            ];
      }

  -- A create: the new entry comes in front, and one of its name goes.
  created_listed : (e : DirEntry) (name : ObjectName) (tag : Tag Version) → IsPlaceOf name (entry_at entries index) → name_of e ≡ name → IsTagOf tag e
      → AreDistinct (slice_set entries index (Some e)) → AreListed (slice_set entries index (Some e)) (with_entry tag name listed)
  created_listed e name tag free named t distinct =
      let new : Entry = record { name = name; file = tag.file; generation = tag.generation } in
      let keep : Entry → Bool = λ (x : Entry). not (name_eq name x.name) in
      let is_new : new ≡ history_entry e = (λ j. record { name = sym named j; file = t.file j; generation = t.generation j }) in
      let rest : List Entry = filter keep listed in
      record {
        each = λ k x at. elim (cases_eq k index) [
          | inl is ↦ contains_first new (history_entry x) rest (is_new ∙ ap history_entry (here_at e k x is at))
          | inr other ↦
              let unlike : is_eq (name_cmp (name_of e) (name_of x)) ≡ false = distinct index e (set_here entries index (Some e) place) k x other at in
              let kept : name_eq name (name_of x) ≡ false = subst (λ (n : ObjectName). name_eq n (name_of x) ≡ false) named (sym (name_test (name_of e) (name_of x)) ∙ unlike) in
              contains_later new (history_entry x) rest (contains_filtered keep listed (history_entry x) (ap not kept) (l.each k x (else_at (Some e) k x other at)))
        ];
        back = λ b has. elim (contains_cases new b rest has) [
          | inl is ↦ here_in e b (sym is_new ∙ is)
          | inr more ↦
              let was = filtered_contains keep listed b more in
              let i = l.back b was.0 in
              elim (cases_eq i.index index) [
                | inl is ↦
                    let own : name_of i.entry ≡ name = subst (IsPlaceOf name) (subst (λ (k : ℕ). entry_at entries k ≡ Some i.entry) is i.at) free in
                    let b_name : name ≡ b.name = sym own ∙ ap (λ (y : Entry). y.name) i.is in
                    let alike : name_eq name b.name ≡ true = subst (λ (n : ObjectName). name_eq name n ≡ true) b_name (sym (name_test name name) ∙ ap is_eq (self name)) in
                    absurd (true≢false (sym was.1 ∙ ap not alike))
                | inr other ↦ else_in (Some e) b i other
              ]
        ];
      }

  -- an entry at another place has another file
  other_file : AreSingle entries → (was : DirEntry) (tag : Tag Version) → entry_at entries index ≡ Some was → tag.file ≡ was.file → (k : ℕ) (x : DirEntry) → k ≢ index → entry_at entries k ≡ Some x
      → is_entry_of tag.file tag.generation (history_entry x) ≡ false
  other_file single was tag stood file k x other at = other_tag tag (history_entry x) (λ same. other (single k index x was at stood (same ∙ file)))

  -- A rename: the entry has the new name, in the same place.
  renamed_listed : (e : DirEntry) (old name : ObjectName) (tag : Tag Version) → IsNextEntry entries index e old name → IsTagOf tag e → AreSingle entries
      → AreListed (slice_set entries index (Some e)) (with_name tag name listed)
  renamed_listed e old name tag n t single =
      let was : DirEntry = n.was.entry in
      let f : Entry → Entry = renamed tag name in
      let new : Entry = record (history_entry was) { name = name } in
      let is_new : new ≡ history_entry e = (λ j. record { name = sym n.named j; file = sym n.file j; generation = sym n.generation j }) in
      let own : is_entry_of tag.file tag.generation (history_entry was) ≡ true = own_tag tag (history_entry was) (sym n.file ∙ sym t.file) (sym n.generation ∙ sym t.generation) in
      let moved : f (history_entry was) ≡ history_entry e = cond-true (is_entry_of tag.file tag.generation (history_entry was)) new (history_entry was) own ∙ is_new in
      let stays : (k : ℕ) (x : DirEntry) → k ≢ index → entry_at entries k ≡ Some x → f (history_entry x) ≡ history_entry x = λ k x other at.
      cond-false (is_entry_of tag.file tag.generation (history_entry x)) (record (history_entry x) { name = name }) (history_entry x) (other_file single was tag n.was.at (t.file ∙ n.file) k x other at) in
      record {
        each = λ k x at. elim (cases_eq k index) [
          | inl is ↦ subst (Contains (map f listed)) (moved ∙ ap history_entry (here_at e k x is at)) (contains_mapped f listed (history_entry was) (l.each index was n.was.at))
          | inr other ↦
              let stood : entry_at entries k ≡ Some x = else_at (Some e) k x other at in
              subst (Contains (map f listed)) (stays k x other stood) (contains_mapped f listed (history_entry x) (l.each k x stood))
        ];
        back = λ b has.
            let from = mapped_contains f listed b has in
            let i = l.back from.0 from.1 in
            elim (cases_eq i.index index) [
              | inl is ↦
                  let same : was ≡ i.entry = one_at entries index was i.entry n.was.at (subst (λ (k : ℕ). entry_at entries k ≡ Some i.entry) is i.at) in
                  here_in e b (sym moved ∙ ap f (ap history_entry same ∙ i.is) ∙ from.2)
              | inr other ↦
                  let still : from.0 ≡ b = sym i.is ∙ sym (stays i.index i.entry other i.at) ∙ ap f i.is ∙ from.2 in
                  subst (IsInDirectory (slice_set entries index (Some e))) still (else_in (Some e) from.0 i other)
            ];
      }

  -- A delete: the entry goes.
  deleted_listed : (name : ObjectName) (tag : Tag Version) → IsEntryOf entries index name → ((e : DirEntry) → entry_at entries index ≡ Some e → IsTagOf tag e) → AreSingle entries
      → AreListed (slice_set entries index None) (without_entry tag listed)
  deleted_listed name tag o tagged single =
      let was : DirEntry = o.entry in
      let t : IsTagOf tag was = tagged was o.at in
      let keep : Entry → Bool = λ (x : Entry). not (is_entry_of tag.file tag.generation x) in
      record {
        each = λ k x at. elim (cases_eq k index) [
          | inl is ↦
              let gone : None ≡ Some x = sym (set_here entries index None place) ∙ subst (λ (n : ℕ). entry_at (slice_set entries index None) n ≡ Some x) is at in
              absurd (cc (gone))
          | inr other ↦
              let stood : entry_at entries k ≡ Some x = else_at None k x other at in
              contains_filtered keep listed (history_entry x) (ap not (other_file single was tag o.at t.file k x other stood)) (l.each k x stood)
        ];
        back = λ b has.
            let kept = filtered_contains keep listed b has in
            let i = l.back b kept.0 in
            elim (cases_eq i.index index) [
              | inl is ↦
                  let same : was ≡ i.entry = one_at entries index was i.entry o.at (subst (λ (k : ℕ). entry_at entries k ≡ Some i.entry) is i.at) in
                  let own : is_entry_of tag.file tag.generation b ≡ true =
                  subst (λ (y : Entry). is_entry_of tag.file tag.generation y ≡ true) (ap history_entry same ∙ i.is) (own_tag tag (history_entry was) (sym t.file) (sym t.generation)) in
                  absurd (true≢false (sym kept.1 ∙ ap not own))
              | inr other ↦ else_in None b i other
            ];
      }

module _ (s : MachineState) (session : ℕ) (entries : List (Option DirEntry)) (counter : ℕ) (object : Object) (tag : Tag Version) (listed : List Entry) (single : AreSingle entries) (l : AreListed entries listed) where
  abbrev application : List ℕ
  application = (session_at s session).application

  by_create : (id : List ℕ) (name : ObjectName) (made : Object) (change : EntryChange) → index_of change < length entries → name ≡ name_in s session id
      → Enters (PutObject name made) s.objects entries counter change object → IsTagOfChange entries change tag → AreDistinct (changed entries change)
      → AreListed (changed entries change) (with_entry tag (record { app = (session_at s session).application; id = id }) listed)
  by_create id name made (Clear index) place named enters tagged distinct = absurd enters
  by_create id name made (Put index e) place named enters tagged distinct =
      subst (λ (n : ObjectName). AreListed (slice_set entries index (Some e)) (with_entry tag n listed)) named
      (created_listed entries listed l index place e name tag enters.0.place enters.0.named tagged distinct)

  by_change : (name : ObjectName) (made : Object) (change : EntryChange) → index_of change < length entries → Enters (Change name made) s.objects entries counter change object → AreListed (changed entries change) listed
  by_change name made (Clear index) place enters = absurd enters
  by_change name made (Put index e) place enters = changed_listed entries listed l index place e name enters.0

  by_move : (id : List ℕ) (old name : ObjectName) (change : EntryChange) → index_of change < length entries → name ≡ name_in s session id
      → Enters (Move old name) s.objects entries counter change object → IsTagOfChange entries change tag
      → AreListed (changed entries change) (with_name tag (record { app = (session_at s session).application; id = id }) listed)
  by_move id old name (Clear index) place named enters tagged = absurd enters
  by_move id old name (Put index e) place named enters tagged =
      subst (λ (n : ObjectName). AreListed (slice_set entries index (Some e)) (with_name tag n listed)) named
      (renamed_listed entries listed l index place e old name tag enters.0 tagged single)

  by_remove : (name : ObjectName) (change : EntryChange) → index_of change < length entries → Enters (Remove name) s.objects entries counter change object → IsTagOfChange entries change tag
      → AreListed (changed entries change) (without_entry tag listed)
  by_remove name (Put index e) place enters tagged = absurd enters
  by_remove name (Clear index) place enters tagged = deleted_listed entries listed l index place name tag enters tagged single

  by_call : (call : Call) (made : MapChange) (change : EntryChange) → index_of change < length entries → MakesChange s session call made → Enters made s.objects entries counter change object
      → IsTagOfChange entries change tag → AreDistinct (changed entries change)
      → AreListed (changed entries change) (entries_committed (session_at s session).application call (Some tag) listed)
  by_call (Create id flags attributes bytes) (PutObject name made) change place makes enters tagged distinct = by_create id name made change place makes.0 enters tagged distinct
  by_call (Write handle bytes) (Change name made) change place makes enters tagged distinct = by_change name made change place enters
  by_call (Truncate handle size) (Change name made) change place makes enters tagged distinct = by_change name made change place enters
  by_call (Rename handle id) (Move old name) change place makes enters tagged distinct = by_move id old name change place makes.1 enters tagged
  by_call (Delete handle) (Remove name) change place makes enters tagged distinct = by_remove name change place enters tagged
  by_call call made change place makes enters tagged distinct = absurd makes

-- A commit keeps the entries the same.
pub commits_keep_listed : (s : MachineState) (session : ℕ) (call : Call) (made : MapChange) (entries : List (Option DirEntry)) (counter : ℕ) (change : EntryChange) (object : Object) (tag : Tag Version) (listed : List Entry)
    → MakesChange s session call made → IsChange s.objects entries counter made change object → IsTagOfChange entries change tag
    → AreDistinct (changed entries change) → AreSingle entries → AreListed entries listed
    → AreListed (changed entries change) (entries_committed (session_at s session).application call (Some tag) listed)
commits_keep_listed s session call made entries counter change object tag listed makes is tagged distinct single l =
    by_call s session entries counter object tag listed single l call made change is.place makes is.enters tagged distinct
