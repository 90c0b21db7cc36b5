-- The rows of a create, in the words of the directory.
use Rattle.std.proofs.Common.{subst, ◌≡◌, ◌∙◌, ◌++◌, ◌&&◌, ◌||◌, ◌<◌, ◌≤◌, ℕ, Bool, false, List, [], ◌∷◌, length, Option, Some, None, is_some, is_none, sym, ap, lt-ltb, le-ltb}
use Rattle.std.specs.Prelude.{nat_lt}
use Rattle.std.specs.List.{list_any}
use Rattle.tee_types.specs.declared.flags.Flags.{Flags}
use Rattle.tee_types.specs.declared.reply.Reply.{Reply}
use Rattle.tee_types.specs.declared.reply.Reply.TheVariants.{Refused}
use Rattle.tee_types.specs.declared.reply.Code.TheVariants.{NoSpace}
use Rattle.tee_types.specs.Limits.{most_data_bytes}
use Rattle.store_model.specs.declared.name.ObjectName.{ObjectName}
use Rattle.store_model.specs.Object.{holds}
use Rattle.store_model.specs.Machine.{Session, MachineState, session_at, name_in, first_refusal, has_all_handles}
use Rattle.store_model.specs.Handles.{has_open, create_refusals, lacks_room}
use Rattle.app_totals.proofs.MeantCreates.{create_rows as machine_rows}
use Rattle.dir_index.specs.Index.{named}
use Rattle.dir_records.specs.declared.entry.DirEntry.{DirEntry}
use Rattle.open_table.specs.Table.{TableState}
use Rattle.dir_index.specs.declared.Held.{Held}
use Rattle.call_rules.specs.declared.decision.NewPlace.{NewPlace}
use Rattle.core_laws.specs.DirectoryLaws.{AreEntries}
use Rattle.dir_index.specs.EntryNames.{IsEntryNamed}
use Rattle.call_rules.specs.Matches.{Matches}
use Rattle.call_rules.specs.Rows.{IsPlaceAfter, create_rows, is_busy}
use Rattle.call_rules.proofs.Lookups.{held_is}
use Rattle.call_rules.proofs.OpenSharing.{busy_is}
use Rattle.call_rules.proofs.Room.{lacks_is}
use Rattle.call_rules.proofs.Refusals.{rows_before, rows_after}

-- the row for want of room
abbrev pub room_row : List ℕ → Bool → List (Bool × Reply)
room_row bytes lacks = (nat_lt most_data_bytes (length bytes) || lacks, Refused NoSpace) ∷ []

-- the rows with equal tests
pub rows_of : (flags : Flags) (full : Bool) (count n : ℕ) (held h busy b : Bool) (refusal : Option Reply) → refusal ≡ first_refusal (create_rows flags full count held busy)
    → count ≡ n → held ≡ h → busy ≡ b → first_refusal (create_rows flags full n h b) ≡ refusal
rows_of flags full count n held h busy b refusal is p q r = sym (is ∙ (λ i. first_refusal (create_rows flags full (p i) (q i) (r i))))

-- the look-up by the session's application
pub named_for : (entries : List (Option DirEntry)) (caller : Session) (id app : List ℕ) (found : Option Held) → app ≡ caller.application → IsEntryNamed entries (named app id) found
    → IsEntryNamed entries (named caller.application id) found
named_for entries caller id app found of is = subst (λ (a : List ℕ). IsEntryNamed entries (named a id) found) of is

module _ (entries : List (Option DirEntry)) (table : TableState) (caller : Session) (are : AreEntries entries) (id : List ℕ) (found : Option Held)
    (is : IsEntryNamed entries (named caller.application id) found) (flags : Flags) (attributes bytes : List ℕ)
    (s : MachineState) (i : ℕ) (m : Matches entries table caller s i) where
  abbrev name : ObjectName
  name = name_in s i id

  same_name : named caller.application id ≡ name
  same_name = ap (λ (x : Session). named x.application id) (sym m.session)

  pub found_in : IsEntryNamed entries name found
  found_in = subst (λ (n : ObjectName). IsEntryNamed entries n found) same_name is

  -- the machine's rows are these, whatever it says of room
  pub rows_with : (lacks : Bool) → machine_rows flags attributes bytes (session_at s i) (holds s.objects name) (list_any (has_open name) s.sessions) lacks
      ≡ create_rows flags (has_all_handles caller) (length attributes) (is_some found) (is_busy table found) ++ room_row bytes lacks
  rows_with lacks =
      ap (λ (x : Session). create_rows flags (has_all_handles x) (length attributes) (holds s.objects name) (holds s.objects name && list_any (has_open name) s.sessions) ++ room_row bytes lacks) m.session
      ∙ ap (λ (b : Bool). create_rows flags (has_all_handles caller) (length attributes) b (holds s.objects name && list_any (has_open name) s.sessions) ++ room_row bytes lacks)
      (held_is entries s.objects m.shaped name found found_in)
      ∙ ap (λ (b : Bool). create_rows flags (has_all_handles caller) (length attributes) (is_some found) b ++ room_row bytes lacks)
      (busy_is entries table caller s i are m name found found_in)

  rows_are : create_refusals s i name flags attributes bytes
      ≡ create_rows flags (has_all_handles caller) (length attributes) (is_some found) (is_busy table found) ++ room_row bytes (lacks_room s.objects name)
  rows_are = rows_with (lacks_room s.objects name)

  abbrev pub early : List (Bool × Reply)
  early = create_rows flags (has_all_handles caller) (length attributes) (is_some found) (is_busy table found)

  -- the rows where there is room
  pub early_in_room : (reply : Reply) → first_refusal early ≡ Some reply
      → first_refusal (machine_rows flags attributes bytes (session_at s i) (holds s.objects name) (list_any (has_open name) s.sessions) false) ≡ Some reply
  early_in_room reply refused = ap first_refusal (rows_with false) ∙ rows_before early (room_row bytes false) reply refused

  pub late_in_room : first_refusal early ≡ None
      → first_refusal (machine_rows flags attributes bytes (session_at s i) (holds s.objects name) (list_any (has_open name) s.sessions) false) ≡ first_refusal (room_row bytes false)
  late_in_room passed = ap first_refusal (rows_with false) ∙ rows_after early (room_row bytes false) passed

  pub create_early : (reply : Reply) → first_refusal early ≡ Some reply → first_refusal (create_refusals s i name flags attributes bytes) ≡ Some reply
  create_early reply refused = ap first_refusal rows_are ∙ rows_before early (room_row bytes (lacks_room s.objects name)) reply refused

  create_late : first_refusal early ≡ None → first_refusal (create_refusals s i name flags attributes bytes) ≡ first_refusal (room_row bytes (lacks_room s.objects name))
  create_late passed = ap first_refusal rows_are ∙ rows_after early (room_row bytes (lacks_room s.objects name)) passed

  pub create_large : first_refusal early ≡ None → most_data_bytes < length bytes → first_refusal (create_refusals s i name flags attributes bytes) ≡ Some (Refused NoSpace)
  create_large passed large = create_late passed
      ∙ ap (λ (b : Bool). first_refusal ((b || lacks_room s.objects name, Refused NoSpace) ∷ [])) (lt-ltb most_data_bytes (length bytes) large)

  pub create_by_place : first_refusal early ≡ None → length bytes ≤ most_data_bytes → (place : Option NewPlace) → IsPlaceAfter entries found place
      → first_refusal (create_refusals s i name flags attributes bytes) ≡ first_refusal ((is_none place, Refused NoSpace) ∷ [])
  create_by_place passed small place after = create_late passed
      ∙ ap (λ (b : Bool). first_refusal ((b || lacks_room s.objects name, Refused NoSpace) ∷ [])) (le-ltb most_data_bytes (length bytes) small)
      ∙ ap (λ (b : Bool). first_refusal ((b, Refused NoSpace) ∷ [])) (lacks_is entries s.objects m.shaped are name found place found_in after)
