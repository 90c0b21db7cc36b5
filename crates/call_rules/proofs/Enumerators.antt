-- Calls on enumerators: what they are refused with, and what they do.
use Rattle.std.proofs.Common.{◌≡◌, ◌∙◌, ℕ, Bool, true, false, not, List, [], ◌∷◌, Option, Some, None, refl, sym, ap}
use Rattle.std.specs.List.{list_any}
use Rattle.std.specs.Option.{option_map}
use Rattle.tee_types.specs.declared.call.Call.TheVariants.{EnumNew, EnumStart, EnumNext, EnumReset, EnumFree}
use Rattle.tee_types.specs.declared.reply.Reply.{Reply}
use Rattle.tee_types.specs.declared.reply.Reply.TheVariants.{Done, Handle as HandleReply, Found, Refused, Misuse}
use Rattle.tee_types.specs.declared.reply.Code.TheVariants.{ItemNotFound}
use Rattle.tee_types.specs.declared.reply.Reason.TheVariants.{BadEnumerator, TooMany}
use Rattle.enumerators.specs.declared.cursor.Cursor.{Cursor}
use Rattle.enumerators.specs.declared.cursor.Cursor.TheVariants.{Idle, First, After}
use Rattle.enumerators.specs.Enumeration.{EnumeratorTable, cursor_at, has_all, allocated, started, reset, advanced, freed}
use Rattle.store_model.specs.Object.{ObjectMap}
use Rattle.store_model.specs.Machine.{Session, MachineState, Outcome, session_at, with_session, unless_refused}
use Rattle.store_model.specs.Enumerating.{is_of, shown, next_object, by_cursor, enum_new_of, enum_start_of, enum_gives, enum_next_of, enum_reset_of, enum_free_of}
use Rattle.dir_records.specs.declared.entry.DirEntry.{DirEntry}
use Rattle.call_rules.specs.Shapes.{HasShape}
use Rattle.call_rules.proofs.LookedUp.{next_objects}
use Rattle.call_rules.specs.Nexts.{IsNextBy}
use Rattle.call_rules.specs.Told.{IsTold, told}
use Rattle.call_rules.proofs.Refusals.{refused_told}

-- what an enumerator tells of an entry: its identifier and its size
abbrev pub shown_entry : DirEntry → List ℕ × ℕ
shown_entry e = (e.id, e.size)

-- the next object is that of the next entry
pub next_is : (entries : List (Option DirEntry)) (objects : ObjectMap) → HasShape entries objects → (app : List ℕ) (cursor : Cursor) (next : Option DirEntry)
    → IsNextBy entries app cursor next → option_map shown (next_object objects app cursor) ≡ option_map shown_entry next
next_is entries objects shape app Idle next is = sym (ap (option_map shown_entry) is)
next_is entries objects shape app First next is = next_objects entries objects app None next shape is
next_is entries objects shape app (After id) next is = next_objects entries objects app (Some id) next shape is

module _ (s : MachineState) (i : ℕ) (caller : Session) (is : session_at s i ≡ caller) where
  -- a live enumerator's call is done, of another it is refused
  cursor_missed : (number : ℕ) (done : Session → Cursor → Outcome) → cursor_at caller.enumerators number ≡ None
      → by_cursor s (cursor_at (session_at s i).enumerators number) (done (session_at s i)) ≡ told s i (Misuse BadEnumerator) caller
  cursor_missed number done none =
      ap (λ (x : Session). by_cursor s (cursor_at x.enumerators number) (done x)) is ∙ ap (λ (c : Option Cursor). by_cursor s c (done caller)) none
      ∙ refused_told s i caller (Misuse BadEnumerator) is

  cursor_live : (number : ℕ) (done : Session → Cursor → Outcome) (cursor : Cursor) → cursor_at caller.enumerators number ≡ Some cursor
      → by_cursor s (cursor_at (session_at s i).enumerators number) (done (session_at s i)) ≡ done caller cursor
  cursor_live number done cursor live =
      ap (λ (x : Session). by_cursor s (cursor_at x.enumerators number) (done x)) is ∙ ap (λ (c : Option Cursor). by_cursor s c (done caller)) live

  abbrev with_table : Session → EnumeratorTable → Session
  with_table session table = record session { enumerators = table }

  -- that reply, and the session with that table of enumerators
  abbrev gives : Reply → EnumeratorTable → Session → Outcome
  gives reply table session = told s i reply (with_table session table)

  pub new_told : has_all caller.enumerators ≡ false → (number : ℕ) → number ≡ (caller.enumerators).next → (new : Session) → new ≡ with_table caller (allocated caller.enumerators)
      → IsTold s i EnumNew (HandleReply number) new
  unfolding enum_new_of
  new_told room number next new left = record {
    outcome = ap (λ (x : Session). unless_refused ((has_all x.enumerators, Misuse TooMany) ∷ []) s (gives (HandleReply (x.enumerators).next) (allocated x.enumerators) x)) is
        ∙ ap (λ (b : Bool). unless_refused ((b, Misuse TooMany) ∷ []) s (gives (HandleReply (caller.enumerators).next) (allocated caller.enumerators) caller)) room
        ∙ ap (λ (n : ℕ). gives (HandleReply n) (allocated caller.enumerators) caller) (sym next)
        ∙ ap (told s i (HandleReply number)) (sym left);
    no_commit = refl;
    no_file = refl;
  }

  pub new_full : has_all caller.enumerators ≡ true → (new : Session) → new ≡ caller → IsTold s i EnumNew (Misuse TooMany) new
  unfolding enum_new_of
  new_full full new left = record {
    outcome = ap (λ (x : Session). unless_refused ((has_all x.enumerators, Misuse TooMany) ∷ []) s (gives (HandleReply (x.enumerators).next) (allocated x.enumerators) x)) is
        ∙ ap (λ (b : Bool). unless_refused ((b, Misuse TooMany) ∷ []) s (gives (HandleReply (caller.enumerators).next) (allocated caller.enumerators) caller)) full
        ∙ refused_told s i caller (Misuse TooMany) is ∙ ap (told s i (Misuse TooMany)) (sym left);
    no_commit = refl;
    no_file = refl;
  }

  module _ (number : ℕ) where
    abbrev starting : Session → Cursor → Outcome
    starting session cursor = unless_refused ((not (list_any (is_of session.application) s.objects), Refused ItemNotFound) ∷ [])
        (with_session s i (with_table session (reset session.enumerators number))) (gives Done (started session.enumerators number) session)

    pub start_missed : cursor_at caller.enumerators number ≡ None → IsTold s i (EnumStart number) (Misuse BadEnumerator) caller
    unfolding enum_start_of
    start_missed none = record { outcome = cursor_missed number starting none; no_commit = refl; no_file = refl }

    abbrev started_if : Bool → Outcome
    started_if any = unless_refused ((not any, Refused ItemNotFound) ∷ []) (with_session s i (with_table caller (reset caller.enumerators number)))
        (gives Done (started caller.enumerators number) caller)

    pub start_none : (cursor : Cursor) → cursor_at caller.enumerators number ≡ Some cursor → list_any (is_of caller.application) s.objects ≡ false
        → (new : Session) → new ≡ with_table caller (reset caller.enumerators number) → IsTold s i (EnumStart number) (Refused ItemNotFound) new
    unfolding enum_start_of
    start_none cursor live none new left = record {
      outcome = cursor_live number starting cursor live ∙ ap started_if none ∙ ap (told s i (Refused ItemNotFound)) (sym left);
      no_commit = refl;
      no_file = refl;
    }

    pub start_done : (cursor : Cursor) → cursor_at caller.enumerators number ≡ Some cursor → list_any (is_of caller.application) s.objects ≡ true
        → (new : Session) → new ≡ with_table caller (started caller.enumerators number) → IsTold s i (EnumStart number) Done new
    unfolding enum_start_of
    start_done cursor live any new left = record {
      outcome = cursor_live number starting cursor live ∙ ap started_if any ∙ ap (told s i Done) (sym left);
      no_commit = refl;
      no_file = refl;
    }

    abbrev nexting : Session → Cursor → Outcome
    nexting session cursor = enum_gives s i number (option_map shown (next_object s.objects session.application cursor))

    pub next_missed : cursor_at caller.enumerators number ≡ None → IsTold s i (EnumNext number) (Misuse BadEnumerator) caller
    unfolding enum_next_of
    next_missed none = record { outcome = cursor_missed number nexting none; no_commit = refl; no_file = refl }

    pub next_none : (cursor : Cursor) → cursor_at caller.enumerators number ≡ Some cursor
        → option_map shown (next_object s.objects caller.application cursor) ≡ None → IsTold s i (EnumNext number) (Refused ItemNotFound) caller
    unfolding enum_next_of
    next_none cursor live none = record {
      outcome = cursor_live number nexting cursor live ∙ ap (enum_gives s i number) none ∙ refused_told s i caller (Refused ItemNotFound) is;
      no_commit = refl;
      no_file = refl;
    }

    pub next_done : (cursor : Cursor) → cursor_at caller.enumerators number ≡ Some cursor → (id : List ℕ) (size : ℕ)
        → option_map shown (next_object s.objects caller.application cursor) ≡ Some (id, size)
        → (new : Session) → new ≡ with_table caller (advanced caller.enumerators number id) → IsTold s i (EnumNext number) (Found id size) new
    unfolding enum_next_of
    next_done cursor live id size next new left = record {
      outcome = cursor_live number nexting cursor live ∙ ap (enum_gives s i number) next
          ∙ ap (λ (x : Session). told s i (Found id size) (with_table x (advanced x.enumerators number id))) is ∙ ap (told s i (Found id size)) (sym left);
      no_commit = refl;
      no_file = refl;
    }

    abbrev resetting : Session → Cursor → Outcome
    resetting session cursor = gives Done (reset session.enumerators number) session

    pub reset_missed : cursor_at caller.enumerators number ≡ None → IsTold s i (EnumReset number) (Misuse BadEnumerator) caller
    unfolding enum_reset_of
    reset_missed none = record { outcome = cursor_missed number resetting none; no_commit = refl; no_file = refl }

    pub reset_done : (cursor : Cursor) → cursor_at caller.enumerators number ≡ Some cursor
        → (new : Session) → new ≡ with_table caller (reset caller.enumerators number) → IsTold s i (EnumReset number) Done new
    unfolding enum_reset_of
    reset_done cursor live new left = record { outcome = cursor_live number resetting cursor live ∙ ap (told s i Done) (sym left); no_commit = refl; no_file = refl }

    abbrev freeing : Session → Cursor → Outcome
    freeing session cursor = gives Done (freed session.enumerators number) session

    pub free_missed : cursor_at caller.enumerators number ≡ None → IsTold s i (EnumFree number) (Misuse BadEnumerator) caller
    unfolding enum_free_of
    free_missed none = record { outcome = cursor_missed number freeing none; no_commit = refl; no_file = refl }

    pub free_done : (cursor : Cursor) → cursor_at caller.enumerators number ≡ Some cursor
        → (new : Session) → new ≡ with_table caller (freed caller.enumerators number) → IsTold s i (EnumFree number) Done new
    unfolding enum_free_of
    free_done cursor live new left = record { outcome = cursor_live number freeing cursor live ∙ ap (told s i Done) (sym left); no_commit = refl; no_file = refl }
