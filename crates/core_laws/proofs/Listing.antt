-- The entries after a commit are those of the history after it.
use Rattle.std.proofs.Common.{◌≡◌, ◌<◌, ℕ, Bool, false, cond, List, [], ◌∷◌, length, replicate, Option, Some, None, is_some, refl, sym, ap, subst, arith, length-append}
use Rattle.std.proofs.lemmas.List.{length-replicate, length-take}
use Rattle.tee_types.specs.declared.call.Call.{Call}
use Rattle.tee_types.specs.declared.call.Call.TheVariants.{Create, Delete, Rename, Truncate, Write}
use Rattle.enumerators.specs.Enumeration.{no_enumerators}
use Rattle.store_model.specs.declared.name.ObjectName.{ObjectName}
use Rattle.store_model.specs.declared.session.Handle.{Handle}
use Rattle.store_model.specs.Machine.{MachineState}
use Rattle.store_model.specs.Data.{resized, resized_contents}
use Rattle.store_model.specs.Makes.{Change, Move, Remove}
use Rattle.store_model.specs.Makes.{Put as PutObject}
use Rattle.store_model.specs.Object.{Contents, Object, Sound}
use Rattle.store_model.specs.Record.{Tag}
use Rattle.store_model.proofs.Maps.{at}
use Rattle.dir_records.specs.declared.entry.DirEntry.{DirEntry}
use Rattle.history_seats.specs.Records.{Version}
use Rattle.history_seats.specs.Mounts.{Entry}
use Rattle.history_seats.specs.Directory.{entries_committed}
use Rattle.crash_core.specs.Entries.{name_of}
use Rattle.crash_core.specs.declared.change.EntryChange.{EntryChange}
use Rattle.crash_core.specs.declared.change.EntryChange.TheVariants.{Clear, Put}
use Rattle.crash_core.specs.EntryChanges.{IsNextEntry, changed, index_of}
use Rattle.crash_core.specs.DirectoryLaws.{AreEntries}
use Rattle.core_laws.specs.Listed.{AreListed, IsTagOf, IsTagOfChange}
use Rattle.core_laws.proofs.ListedEntries.{commits_keep_listed}
use Rattle.core_laws.proofs.EntryNames.{at_itself}
use Rattle.core_laws.specs.CallChanges.{IsCallChange}

pub resized_long : (old : List ℕ) (size : ℕ) → length (resized old size) ≡ size
resized_long old size = simp (length-append, length-take, length-replicate) (omega arith)

-- A machine of one object under that name, and one session with a handle on it: what is known of the entries after a commit is said of a
-- machine that makes it, and they are the same whichever it is.
module _ (application : List ℕ) (name : ObjectName) (size : ℕ) where
  abbrev contents : Contents
  contents = record { attributes = []; bytes = replicate size 0; bad = [] }

  abbrev one_handle : Handle
  one_handle = record { name = name; flags = record { bits = 0 }; position = 0 }

  abbrev one_object : MachineState
  one_object = record {
    objects = (name, Sound contents) ∷ [];
    sessions = record { application = application; handles = (0, one_handle) ∷ []; next_handle = 1; enumerators = no_enumerators } ∷ [];
  }

  long : size ≡ length (contents.bytes)
  long = simp length-replicate

module _ (application : List ℕ) (entries : List (Option DirEntry)) (counter : ℕ) (tag : Tag Version) (listed : List Entry) (l : AreListed entries listed) (before : AreEntries entries) where
  in_place : (index : ℕ) (e : DirEntry) → index < length entries → IsNextEntry entries index e (name_of e) (name_of e) → IsTagOf tag e → AreEntries (changed entries (Put index e))
      → AreListed (changed entries (Put index e)) listed
  in_place index e place next tagged after =
      let name : ObjectName = name_of e in
      let object : Object = Sound (resized_contents (contents application name e.size) e.size) in
      commits_keep_listed (one_object application name e.size) 0 (Truncate 0 e.size) (Change name object) entries counter (Put index e) object tag listed
      (record { handle = one_handle application name e.size; live = refl; named = refl; old = contents application name e.size; was = ap (λ (b : Bool). cond b (Some (Sound (contents application name e.size))) None) (at_itself name); is = refl })
      (record { enters = (next, refl); place = place; sized = sym (resized_long (replicate e.size 0) e.size) }) tagged after.distinct before.single l

  pub listed_committed : (call : Call) (change : EntryChange) → index_of change < length entries → IsCallChange application call entries counter change → IsTagOfChange entries change tag
      → AreEntries (changed entries change) → AreListed (changed entries change) (entries_committed application call (Some tag) listed)
  listed_committed (Create id flags attributes bytes) (Put index e) place makes tagged after =
      let name : ObjectName = record { app = application; id = id } in
      let object : Object = Sound (contents application name e.size) in
      commits_keep_listed (one_object application name e.size) 0 (Create id flags [] (replicate e.size 0)) (PutObject name object) entries counter (Put index e) object tag listed
      (refl, refl) (record { enters = (makes.entry, refl); place = place; sized = long application name e.size }) tagged after.distinct before.single l
  listed_committed (Write handle bytes) (Put index e) place makes tagged after = in_place index e place makes tagged after
  listed_committed (Truncate handle size) (Put index e) place makes tagged after = in_place index e place makes tagged after
  listed_committed (Rename handle id) (Put index e) place makes tagged after =
      let name : ObjectName = makes.old in
      let new : ObjectName = record { app = application; id = id } in
      let object : Object = Sound (contents application name e.size) in
      let other : at new name ≡ false = subst (λ (n : ObjectName). at new n ≡ false) makes.next.was.named (makes.free index makes.next.was.entry makes.next.was.at) in
      commits_keep_listed (one_object application name e.size) 0 (Rename 0 id) (Move name new) entries counter (Put index e) object tag listed
      (record { handle = one_handle application name e.size; live = refl; named = refl }, refl, ap (λ (b : Bool). is_some (cond b (Some object) None)) other)
      (record { enters = (makes.next, ap (λ (b : Bool). cond b (Some object) None) (at_itself name)); place = place; sized = long application name e.size }) tagged after.distinct before.single l
  listed_committed (Delete handle) (Clear index) place makes tagged after =
      let name : ObjectName = makes.0 in
      commits_keep_listed (one_object application name 0) 0 (Delete 0) (Remove name) entries counter (Clear index) (Sound (contents application name 0)) tag listed
      (record { handle = one_handle application name 0; live = refl; named = refl })
      (record { enters = makes.1; place = place; sized = tt }) tagged after.distinct before.single l
  listed_committed call change place makes tagged after = absurd makes
