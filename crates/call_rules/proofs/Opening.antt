-- The rows of an open, in the words of the directory.
use Rattle.std.proofs.Common.{◌≡◌, ◌∙◌, ◌++◌, ℕ, Bool, true, false, not, List, [], ◌∷◌, Option, Some, None, refl, sym, ap, subst}
use Rattle.std.specs.List.{list_all}
use Rattle.tee_types.specs.declared.call.Call.TheVariants.{Open}
use Rattle.tee_types.specs.declared.flags.Flags.{Flags}
use Rattle.tee_types.specs.declared.reply.Reply.{Reply}
use Rattle.tee_types.specs.declared.reply.Reply.TheVariants.{Refused, Corrupt}
use Rattle.tee_types.specs.declared.reply.Code.TheVariants.{AccessConflict, ItemNotFound}
use Rattle.store_model.specs.declared.name.ObjectName.{ObjectName}
use Rattle.store_model.specs.Object.{holds, object_at, is_damaged}
use Rattle.store_model.specs.Machine.{Session, MachineState, Outcome, name_in, first_refusal, has_all_handles, refuse}
use Rattle.store_model.specs.Handles.{allows_open, open_refusals, open_of, open_handle}
use Rattle.dir_index.specs.Index.{named}
use Rattle.dir_records.specs.declared.entry.DirEntry.{DirEntry}
use Rattle.open_table.specs.Table.{TableState, allows_on_file}
use Rattle.core_laws.specs.DirectoryLaws.{AreEntries}
use Rattle.dir_index.specs.declared.Held.{Held}
use Rattle.dir_index.specs.EntryNames.{IsEntryNamed}
use Rattle.call_rules.specs.Matches.{Matches}
use Rattle.call_rules.specs.Objects.{IsOpened, open_sound}
use Rattle.store_model.specs.Calls.{outcome_of}
use Rattle.call_rules.proofs.Proper.{proper_unless}
use Rattle.call_rules.specs.Rows.{open_rows}
use Rattle.call_rules.specs.Told.{IsTold}
use Rattle.call_rules.proofs.Lookups.{entry_object, held_is}
use Rattle.call_rules.proofs.OpenSharing.{allowed_is}
use Rattle.call_rules.proofs.Refusals.{rows_before, rows_after, open_told, misuse_no_file}
use Rattle.store_model.specs.Files.{is_misuse}

-- the rows that the directory answers, and the one that the object's file answers
abbrev late_rows : (held allowed damaged : Bool) → List (Bool × Reply)
late_rows held allowed damaged = (not held, Refused ItemNotFound) ∷ (not allowed, Refused AccessConflict) ∷ (damaged, Corrupt) ∷ []

module _ (entries : List (Option DirEntry)) (table : TableState) (caller : Session) (id : List ℕ) (flags : Flags)
    (s : MachineState) (i : ℕ) (m : Matches entries table caller s i) where
  abbrev name : ObjectName
  name = name_in s i id

  found_in : (found : Option Held) → IsEntryNamed entries (named caller.application id) found → IsEntryNamed entries name found
  found_in found is = subst (λ (n : ObjectName). IsEntryNamed entries n found) (ap (λ (x : Session). named x.application id) (sym m.session)) is

  abbrev damaged : Bool
  damaged = is_damaged (object_at s.objects name)

  abbrev early : List (Bool × Reply)
  early = open_rows flags (has_all_handles caller)

  rows_are : open_refusals s i name flags ≡ early ++ late_rows (holds s.objects name) (list_all (allows_open name flags) s.sessions) damaged
  rows_are = ap (λ (x : Session). open_rows flags (has_all_handles x) ++ late_rows (holds s.objects name) (list_all (allows_open name flags) s.sessions) damaged) m.session

  pub open_early : (reply : Reply) → first_refusal early ≡ Some reply → is_misuse reply ≡ true → IsTold s i (Open id flags) reply caller
  open_early reply refused misuse = open_told s i caller m.session id flags reply
      (ap first_refusal rows_are ∙ rows_before early (late_rows (holds s.objects name) (list_all (allows_open name flags) s.sessions) damaged) reply refused)
      (misuse_no_file reply misuse)

  open_late : first_refusal early ≡ None
      → first_refusal (open_refusals s i name flags) ≡ first_refusal (late_rows (holds s.objects name) (list_all (allows_open name flags) s.sessions) damaged)
  open_late passed = ap first_refusal rows_are ∙ rows_after early (late_rows (holds s.objects name) (list_all (allows_open name flags) s.sessions) damaged) passed

  pub open_missed : first_refusal early ≡ None → IsEntryNamed entries (named caller.application id) None → IsTold s i (Open id flags) (Refused ItemNotFound) caller
  open_missed passed none = open_told s i caller m.session id flags (Refused ItemNotFound)
      (open_late passed ∙ ap (λ (b : Bool). first_refusal (late_rows b (list_all (allows_open name flags) s.sessions) damaged))
      (held_is entries s.objects m.shaped name None (found_in None none)))
      refl

  module _ (are : AreEntries entries) (passed : first_refusal early ≡ None) (held : Held) (is : IsEntryNamed entries (named caller.application id) (Some held)) (allowed : Bool)
      (tells : allowed ≡ allows_on_file table (held.entry).file flags) where
    open_found : first_refusal (open_refusals s i name flags) ≡ first_refusal (late_rows true allowed damaged)
    open_found = open_late passed
        ∙ ap (λ (b : Bool). first_refusal (late_rows b (list_all (allows_open name flags) s.sessions) damaged)) (held_is entries s.objects m.shaped name (Some held) (found_in (Some held) is))
        ∙ ap (λ (b : Bool). first_refusal (late_rows true b damaged)) (allowed_is entries table caller s i are m name held flags (found_in (Some held) is) ∙ sym tells)

    pub open_conflict : allowed ≡ false → IsTold s i (Open id flags) (Refused AccessConflict) caller
    open_conflict refuses = open_told s i caller m.session id flags (Refused AccessConflict)
        (open_found ∙ ap (λ (b : Bool). first_refusal (late_rows true b damaged)) refuses) refl

    opened : allowed ≡ true → outcome_of s i (Open id flags) ≡ open_sound s i name flags
    unfolding open_of
    opened passes = ap (λ (r : Option Reply). let o : Outcome = elim r [ Some x ↦ refuse s x | None ↦ open_handle s i name flags ] in o)
        (open_found ∙ ap (λ (b : Bool). first_refusal (late_rows true b damaged)) passes)

    pub open_opens : allowed ≡ true → IsOpened s i id flags (held.entry).size
    open_opens passes = record {
      there = entry_object entries s.objects m.shaped name held (found_in (Some held) is);
      outcome = opened passes;
      proper = ap (λ (o : Outcome). is_misuse o.reply) (opened passes) ∙ proper_unless ((damaged, Corrupt) ∷ []) s (open_handle s i name flags) (refl, tt) refl;
    }
