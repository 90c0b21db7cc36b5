-- What a create leaves its application.
use Rattle.std.proofs.Common.{◌≡◌, ◌∙◌, ◌<◌, ◌≤◌, ◌||◌, ℕ, Bool, true, false, List, [], ◌∷◌, length, cond, Option, Some, None, refl, ap, lt-ltb, le-ltb}
use Rattle.std.specs.Prelude.{nat_lt}
use Rattle.std.specs.List.{list_any}
use Rattle.tee_types.specs.Limits.{most_data_bytes}
use Rattle.tee_types.specs.declared.flags.Flags.{Flags}
use Rattle.tee_types.specs.declared.call.Call.{Call}
use Rattle.tee_types.specs.declared.call.Call.TheVariants.{Create}
use Rattle.tee_types.specs.declared.reply.Reply.{Reply}
use Rattle.tee_types.specs.declared.reply.Reply.TheVariants.{Refused}
use Rattle.tee_types.specs.declared.reply.Code.TheVariants.{NoSpace}
use Rattle.store_model.specs.declared.name.ObjectName.{ObjectName}
use Rattle.store_model.specs.Object.{Object, Sound, holds, with_object}
use Rattle.store_model.specs.Machine.{Session, MachineState, session_at, name_in, first_refusal}
use Rattle.store_model.specs.Handles.{has_open}
use Rattle.store_model.specs.Refusal.{is_refusal}
use Rattle.dir_index.specs.Index.{named}
use Rattle.dir_index.specs.EntryNames.{IsEntryNamed}
use Rattle.dir_index.specs.declared.Held.{Held}
use Rattle.dir_records.specs.declared.entry.DirEntry.{DirEntry}
use Rattle.open_table.specs.Table.{TableState}
use Rattle.app_totals.specs.declared.numbers.Totals.{Totals}
use Rattle.app_totals.specs.Totals.{totals_of}
use Rattle.app_totals.specs.EntryTotals.{entry_totals}
use Rattle.app_totals.specs.Meant.{held_by, raised, resized_totals, grown}
use Rattle.app_totals.proofs.Names.{itself}
use Rattle.app_totals.proofs.MeantCreates.{create_rows as machine_rows, granted_in_room, refused_in_room}
use Rattle.app_totals.proofs.MeantTotals.{refusals_raise_nothing}
use Rattle.app_totals.proofs.LeftTotals.{raised-with, raised-held}
use Rattle.core_laws.specs.DirectoryLaws.{AreEntries}
use Rattle.call_rules.specs.Growth.{placed_totals}
use Rattle.call_rules.specs.Matches.{Matches}
use Rattle.call_rules.proofs.Creating.{early, found_in, early_in_room, late_in_room}
use Rattle.call_rules.proofs.Growths.{held-entries}
use Rattle.call_rules.proofs.Lookups.{entry_object, held_is}

module _ (entries : List (Option DirEntry)) (table : TableState) (caller : Session) (are : AreEntries entries) (id : List ℕ) (found : Option Held)
    (is : IsEntryNamed entries (named caller.application id) found) (flags : Flags) (attributes bytes : List ℕ)
    (s : MachineState) (i : ℕ) (m : Matches entries table caller s i) where
  abbrev call : Call
  call = Create id flags attributes bytes

  abbrev name : ObjectName
  name = name_in s i id

  abbrev app : List ℕ
  app = (session_at s i).application

  abbrev rows : List (Bool × Reply)
  rows = machine_rows flags attributes bytes (session_at s i) (holds s.objects name) (list_any (has_open name) s.sessions) false

  abbrev first : Option Reply
  first = first_refusal (early entries table caller are id found is flags attributes bytes s i m)

  refused : (reply : Reply) → first_refusal rows ≡ Some reply → is_refusal reply ≡ true → grown s i call ≡ None
  refused reply why refusal = refusals_raise_nothing s i call (ap is_refusal (refused_in_room s i id flags attributes bytes reply why) ∙ refusal)

  -- it is refused, or too large
  pub early-none : (reply : Reply) → first ≡ Some reply → is_refusal reply ≡ true → grown s i call ≡ None
  early-none reply why refusal = refused reply (early_in_room entries table caller are id found is flags attributes bytes s i m reply why) refusal

  late : first ≡ None → (wide : Bool) → nat_lt most_data_bytes (length bytes) ≡ wide → first_refusal rows ≡ first_refusal ((wide || false, Refused NoSpace) ∷ [])
  late passed wide size = late_in_room entries table caller are id found is flags attributes bytes s i m passed ∙ ap (λ (b : Bool). first_refusal ((b || false, Refused NoSpace) ∷ [])) size

  pub large-none : first ≡ None → most_data_bytes < length bytes → grown s i call ≡ None
  large-none passed large = refused (Refused NoSpace) (late passed true (lt-ltb most_data_bytes (length bytes) large)) refl

  abbrev object : Object
  object = Sound (record { attributes = attributes; bytes = bytes; bad = [] })

  -- or its object is placed
  pub placed-grown : first ≡ None → length bytes ≤ most_data_bytes → grown s i call ≡ placed_totals (entry_totals caller.application entries) found (length bytes)
  placed-grown passed small =
      ap (λ (b : Bool). raised (held_by s i) (totals_of app (cond b (with_object s.objects name object) s.objects)))
      (granted_in_room s i id flags attributes bytes (late passed false (le-ltb most_data_bytes (length bytes) small)))
      ∙ one found (found_in entries table caller are id found is flags attributes bytes s i m)
      ∙ ap (λ (t : Totals). placed_totals t found (length bytes)) (held-entries entries table caller are.distinct s i m)
    where
      one : (o : Option Held) → IsEntryNamed entries name o → raised (held_by s i) (totals_of app (with_object s.objects name object)) ≡ placed_totals (held_by s i) o (length bytes)
      one None none = raised-with app s.objects name object (itself app) (held_is entries s.objects m.shaped name None none)
      one (Some old) held =
          let there = entry_object entries s.objects m.shaped name old held in
          raised-held app s.objects name there.object object (m.shaped).rising (itself app) there.at
          ∙ ap (λ n. resized_totals (held_by s i) n (length bytes)) there.sized
