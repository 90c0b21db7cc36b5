-- A commit of the machine changes its map as the call changes the entries.
use Rattle.std.proofs.Common.{◌≡◌, ◌+◌, ◌<◌, ℕ, List, length, max, Option, Some, refl, sym, ap, ◌∙◌, subst, arith, length-append, length-drop}
use Rattle.std.proofs.lemmas.List.{length-replicate, length-take}
use Rattle.tee_types.specs.declared.call.Call.{Call}
use Rattle.tee_types.specs.declared.call.Call.TheVariants.{Create, Delete, Rename, Truncate, Write}
use Rattle.tee_types.specs.declared.flags.Flags.{Flags}
use Rattle.store_model.specs.declared.session.Handle.{Handle}
use Rattle.store_model.specs.declared.name.ObjectName.{ObjectName}
use Rattle.store_model.specs.Object.{Object, Sound, object_at, size_of}
use Rattle.store_model.specs.Machine.{MachineState, handle_at, session_at}
use Rattle.store_model.specs.Data.{written}
use Rattle.store_model.specs.Makes.{Change, IsNamedBy, MakesChange, MapChange, Move, Remove}
use Rattle.store_model.specs.Makes.{Put as PutObject}
use Rattle.store_model.specs.ReplayState.{ReplayState}
use Rattle.store_model.proofs.MadeChanges.{commits_make_changes}
use Rattle.dir_records.specs.declared.entry.DirEntry.{DirEntry}
use Rattle.crash_core.specs.Entries.{name_of}
use Rattle.crash_core.specs.EntryLists.{entry_at}
use Rattle.crash_core.specs.declared.change.EntryChange.{EntryChange}
use Rattle.crash_core.specs.declared.change.EntryChange.TheVariants.{Clear, Put}
use Rattle.crash_core.specs.EntryChanges.{IsEntryOf, IsNewEntry, IsNextEntry, index_of}
use Rattle.core_laws.proofs.Mending.{some_same}
use Rattle.core_laws.specs.CallChanges.{IsCallChange}
use Rattle.core_laws.specs.Ties.{MakesEntries}
use Rattle.core_laws.specs.MachineChanges.{CommitsMakeEntries, HaveSizes, IsAtHand, IsCallOn}
use Rattle.core_laws.proofs.Listing.{resized_long}

written_long : (old : List ℕ) (position : ℕ) (bytes : List ℕ) → length (written old position bytes) ≡ max (length old) (position + length bytes)
written_long old position bytes = simp (length-append, length-take, length-replicate, length-drop) (omega arith)

module _ (s : ReplayState) (session : ℕ) (entries : List (Option DirEntry)) (sizes : HaveSizes entries s.state.objects) where
  abbrev m : MachineState
  m = s.state

  -- the name of the handle's object is that of the entry at hand
  name_at_hand : (number index : ℕ) (own : IsAtHand m session number entries index) (handle : Handle) → handle_at (session_at m session) number ≡ Some handle → own.handle ≡ handle
  name_at_hand number index own handle live = some_same own.handle handle (sym own.live ∙ live)

  named_own : (number index : ℕ) (own : IsAtHand m session number entries index) (name : ObjectName) → IsNamedBy m session number name → name ≡ name_of own.entry
  named_own number index own name by = sym by.named ∙ ap (λ (h : Handle). h.name) (sym (name_at_hand number index own by.handle by.live)) ∙ own.named

  -- and of the entry that stands there, whatever it is called
  named_there : (number index : ℕ) (own : IsAtHand m session number entries index) (name other : ObjectName) → IsNamedBy m session number name → IsEntryOf entries index other → name ≡ other
  named_there number index own name other by is =
      named_own number index own name by ∙ ap name_of (some_same own.entry is.entry (sym own.at ∙ is.at)) ∙ is.named

  -- how long the object of an entry is
  long_at : (index : ℕ) (e : DirEntry) (name : ObjectName) (object : Object) → entry_at entries index ≡ Some e → name ≡ name_of e → object_at m.objects name ≡ Some object → size_of object ≡ e.size
  long_at index e name object at same is =
      let told = sizes index e at in
      ap size_of (some_same object told.0 (sym is ∙ ap (object_at m.objects) same ∙ told.1)) ∙ told.2

  abbrev Makes : Call → EntryChange → Type 0
  Makes call change = (made : MapChange) → MakesChange m session call made → IsCallChange (session_at m session).application call entries s.counter change → index_of change < length entries
      → IsCallOn m session call entries change → MakesEntries s session call entries change

  by_create : (id : List ℕ) (flags : Flags) (attributes bytes : List ℕ) (change : EntryChange) → Makes (Create id flags attributes bytes) change
  by_create id flags attributes bytes (Put index e) (PutObject name object) makes new place on = record {
    made = PutObject name object;
    makes = makes;
    object = object;
    enters = record { enters = (subst (IsNewEntry entries s.counter index e) (sym makes.0) new.entry, refl); place = place; sized = on ∙ ap size_of (sym makes.1) };
  }
  by_create id flags attributes bytes (Put index e) made makes new place on = absurd makes
  by_create id flags attributes bytes (Clear index) made makes new place on = absurd new

  by_write : (number : ℕ) (bytes : List ℕ) (change : EntryChange) → Makes (Write number bytes) change
  by_write number bytes (Put index e) (Change name object) makes next place on =
      let own = on.0 in
      let by : IsNamedBy m session number name = record { handle = makes.handle; live = makes.live; named = makes.named } in
      let long : length makes.old.bytes ≡ own.entry.size = long_at index own.entry name (Sound makes.old) own.at (named_own number index own name by) makes.was in
      let handle : own.handle ≡ makes.handle = name_at_hand number index own makes.handle makes.live in
      record {
        made = Change name object;
        makes = makes;
        object = object;
        enters = record {
          enters = (subst (λ (n : ObjectName). IsNextEntry entries index e n n) (sym (named_there number index own name (name_of e) by next.was)) next, refl);
          place = place;
          sized =
              on.1 ∙ (λ i. max (sym long i) ((handle i).position + length bytes)) ∙ sym (written_long makes.old.bytes makes.handle.position bytes)
              ∙ ap size_of (sym makes.is);
        };
      }
  by_write number bytes (Put index e) made makes next place on = absurd makes
  by_write number bytes (Clear index) made makes next place on = absurd next

  by_truncate : (number size : ℕ) (change : EntryChange) → Makes (Truncate number size) change
  by_truncate number size (Put index e) (Change name object) makes next place on =
      let by : IsNamedBy m session number name = record { handle = makes.handle; live = makes.live; named = makes.named } in
      record {
        made = Change name object;
        makes = makes;
        object = object;
        enters = record {
          enters = (subst (λ (n : ObjectName). IsNextEntry entries index e n n) (sym (named_there number index on.0 name (name_of e) by next.was)) next, refl);
          place = place;
          sized = on.1 ∙ sym (resized_long makes.old.bytes size) ∙ ap size_of (sym makes.is);
        };
      }
  by_truncate number size (Put index e) made makes next place on = absurd makes
  by_truncate number size (Clear index) made makes next place on = absurd next

  by_rename : (number : ℕ) (id : List ℕ) (change : EntryChange) → Makes (Rename number id) change
  by_rename number id (Put index e) (Move old new) makes renamed place on =
      let own = on.0 in
      let told = sizes index own.entry own.at in
      let next : IsNextEntry entries index e renamed.old new = subst (IsNextEntry entries index e renamed.old) (sym makes.1) renamed.next in
      record {
        made = Move old new;
        makes = makes;
        object = told.0;
        enters = record {
          enters = (
            subst (λ (n : ObjectName). IsNextEntry entries index e n new) (sym (named_there number index own old renamed.old makes.0 renamed.next.was)) next,
            ap (object_at m.objects) (named_own number index own old makes.0) ∙ told.1,
          );
          place = place;
          sized = on.1 ∙ sym told.2;
        };
      }
  by_rename number id (Put index e) made makes renamed place on = absurd makes
  by_rename number id (Clear index) made makes renamed place on = absurd renamed

  by_delete : (number : ℕ) (change : EntryChange) → Makes (Delete number) change
  by_delete number (Clear index) (Remove name) makes cleared place on = record {
    made = Remove name;
    makes = makes;
    object = (sizes index on.entry on.at).0;
    enters = record { enters = subst (IsEntryOf entries index) (sym (named_there number index on name cleared.0 makes cleared.1)) cleared.1; place = place; sized = tt };
  }
  by_delete number (Clear index) made makes cleared place on = absurd makes
  by_delete number (Put index e) made makes cleared place on = absurd cleared

  pub makes_entries : (call : Call) (change : EntryChange) → Makes call change
  makes_entries (Create id flags attributes bytes) change = by_create id flags attributes bytes change
  makes_entries (Write number bytes) change = by_write number bytes change
  makes_entries (Truncate number size) change = by_truncate number size change
  makes_entries (Rename number id) change = by_rename number id change
  makes_entries (Delete number) change = by_delete number change
  makes_entries call change = λ made makes is place on. absurd is

pub commits_make : CommitsMakeEntries
commits_make s session call entries change sizes due is place on =
    let made = commits_make_changes s.state session call due in
    makes_entries s session entries sizes call change made.0 made.1.makes is place on
