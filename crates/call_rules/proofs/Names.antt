-- Renaming and deleting: what they are refused with, and that they are done.
use Rattle.std.proofs.Common.{◌≡◌, ◌∙◌, ℕ, Bool, true, false, List, [], ◌∷◌, Option, Some, refl, ap, is_some}
use Rattle.tee_types.specs.Rights.{has, write_meta_bit}
use Rattle.tee_types.specs.declared.call.Call.TheVariants.{Rename, Delete}
use Rattle.tee_types.specs.declared.reply.Reply.{Reply}
use Rattle.tee_types.specs.declared.reply.Reply.TheVariants.{Done, Refused}
use Rattle.tee_types.specs.declared.reply.Code.TheVariants.{AccessConflict}
use Rattle.store_model.specs.declared.session.Handle.{Handle}
use Rattle.store_model.specs.Object.{holds, moved_object, without_object}
use Rattle.store_model.specs.Machine.{Session, MachineState, Outcome, session_at, with_session, name_in, handle_at, with_handle, without_handle, unless_refused}
use Rattle.store_model.specs.Naming.{rename_of, delete_of}
use Rattle.store_model.specs.Files.{is_misuse}
use Rattle.dir_index.specs.Index.{named}
use Rattle.dir_records.specs.declared.entry.DirEntry.{DirEntry}
use Rattle.open_table.specs.Table.{TableState}
use Rattle.dir_index.specs.declared.Held.{Held}
use Rattle.dir_index.specs.EntryNames.{IsEntryNamed}
use Rattle.call_rules.specs.Matches.{Matches}
use Rattle.call_rules.specs.Objects.{HasObject, IsDone, RefusesRight}
use Rattle.call_rules.specs.Told.{IsTold}
use Rattle.call_rules.proofs.Refusals.{refused_told}
use Rattle.call_rules.proofs.ByHandle.{misuse_not_done}
use Rattle.call_rules.proofs.DataCalls.{right_told, right_done}
use Rattle.call_rules.proofs.Lookups.{held_is}

-- a name is held where an entry of the session's application has it
pub held_by : (entries : List (Option DirEntry)) (table : TableState) (caller : Session) (s : MachineState) (i : ℕ) → Matches entries table caller s i
    → (id : List ℕ) (found : Option Held) → IsEntryNamed entries (named caller.application id) found → holds s.objects (name_in s i id) ≡ is_some found
held_by entries table caller s i m id found is = ap (λ (x : Session). holds s.objects (named x.application id)) m.session ∙ held_is entries s.objects m.shaped (named caller.application id) found is

module _ (s : MachineState) (i : ℕ) (caller : Session) (is : session_at s i ≡ caller) (number : ℕ) where
  abbrev deleting : Handle → Outcome
  deleting handle = record {
    reply = Done;
    next = with_session (record s { objects = without_object s.objects handle.name }) i (without_handle (session_at s i) number);
  }

  pub delete_told : (reply : Reply) → is_misuse reply ≡ true → RefusesRight s write_meta_bit (handle_at caller number) reply → IsTold s i (Delete number) reply caller
  unfolding delete_of
  delete_told reply misuse refuses = record {
    outcome = right_told s i caller is number write_meta_bit deleting reply refuses;
    no_commit = misuse_not_done reply misuse;
    no_file = refl;
  }

  abbrev renamed : List ℕ → Handle → Outcome
  renamed id handle = record {
    reply = Done;
    next = with_session (record s { objects = moved_object s.objects handle.name (name_in s i id) }) i
        (with_handle (session_at s i) number (record handle { name = name_in s i id }));
  }

  abbrev renaming : List ℕ → Handle → Outcome
  renaming id handle = unless_refused ((holds s.objects (name_in s i id), Refused AccessConflict) ∷ []) s (renamed id handle)

  pub rename_told : (reply : Reply) → is_misuse reply ≡ true → RefusesRight s write_meta_bit (handle_at caller number) reply → (id : List ℕ) → IsTold s i (Rename number id) reply caller
  unfolding rename_of
  rename_told reply misuse refuses id = record {
    outcome = right_told s i caller is number write_meta_bit (renaming id) reply refuses;
    no_commit = misuse_not_done reply misuse;
    no_file = refl;
  }

  module _ (h : Handle) (live : handle_at caller number ≡ Some h) (has_right : has h.flags write_meta_bit ≡ true) where
    pub delete_done : (size : ℕ) → HasObject s.objects h.name size → IsDone s i (Delete number) h.name size
    unfolding delete_of
    delete_done size there = record {
      there = there;
      done = ap (λ (o : Outcome). o.reply) (right_done s i caller is number write_meta_bit deleting h live has_right);
    }

    pub rename_taken : (id : List ℕ) → holds s.objects (name_in s i id) ≡ true → IsTold s i (Rename number id) (Refused AccessConflict) caller
    unfolding rename_of
    rename_taken id taken = record {
      outcome = right_done s i caller is number write_meta_bit (renaming id) h live has_right
          ∙ ap (λ (b : Bool). unless_refused ((b, Refused AccessConflict) ∷ []) s (renamed id h)) taken
          ∙ refused_told s i caller (Refused AccessConflict) is;
      no_commit = refl;
      no_file = refl;
    }

    pub rename_done : (id : List ℕ) → holds s.objects (name_in s i id) ≡ false → (size : ℕ) → HasObject s.objects h.name size → IsDone s i (Rename number id) h.name size
    unfolding rename_of
    rename_done id free size there = record {
      there = there;
      done = ap (λ (o : Outcome). o.reply) (right_done s i caller is number write_meta_bit (renaming id) h live has_right
          ∙ ap (λ (b : Bool). unless_refused ((b, Refused AccessConflict) ∷ []) s (renamed id h)) free);
    }
