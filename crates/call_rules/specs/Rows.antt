-- The rows of refusals that need no object's file, with the tests that the directory answers.
use Rattle.std.specs.Prelude.{◌≡◌, ℕ, Bool, false, not, ◌&&◌, ◌||◌, nat_lt, List, [], ◌∷◌, Option, Some, None}
use Rattle.std.specs.Option.{option_map}
use Rattle.tee_types.specs.declared.flags.Flags.{Flags}
use Rattle.tee_types.specs.declared.reply.Reply.{Reply}
use Rattle.tee_types.specs.declared.reply.Reply.TheVariants.{Refused, Misuse}
use Rattle.tee_types.specs.declared.reply.Code.TheVariants.{AccessConflict, BadParameters}
use Rattle.tee_types.specs.declared.reply.Reason.TheVariants.{BadFlags, TooMany}
use Rattle.tee_types.specs.Limits.{most_attribute_bytes}
use Rattle.tee_types.specs.Rights.{overwrite_bit, has, is_known}
use Rattle.dir_records.specs.declared.entry.DirEntry.{DirEntry}
use Rattle.open_table.specs.Table.{TableState, is_file_open}
use Rattle.dir_index.specs.declared.Held.{Held}
use Rattle.call_rules.specs.declared.decision.NewPlace.{NewPlace}
use Rattle.call_rules.specs.declared.decision.NewPlace.TheVariants.{Replaces, Adds}
use Rattle.dir_index.specs.EntryNames.{IsFirstFree}

-- a handle is open on the file of that entry
abbrev pub is_busy : TableState → Option Held → Bool
is_busy table None = false
is_busy table (Some held) = is_file_open table (held.entry).file

-- why a create is refused, but for want of room: `held` says that the name is held, and `busy` that its object is open
abbrev pub create_rows : Flags → (full : Bool) → (attributes : ℕ) → (held busy : Bool) → List (Bool × Reply)
create_rows flags full attributes held busy =
    (not (is_known flags), Misuse BadFlags)
    ∷ (full, Misuse TooMany)
    ∷ (nat_lt most_attribute_bytes attributes, Refused BadParameters)
    ∷ (held && not (has flags overwrite_bit), Refused AccessConflict)
    ∷ (busy, Refused AccessConflict)
    ∷ []

-- The entry that a new object takes where that one has its name: a free one where none has, if there is one.
abbrev pub IsPlaceAfter : List (Option DirEntry) → Option Held → Option NewPlace → Type 0
IsPlaceAfter entries (Some held) place = place ≡ Some (Replaces held)
IsPlaceAfter entries None place = (free : Option ℕ) × (IsFirstFree entries free) × (place ≡ option_map Adds free)

-- why an open is refused, whatever the directory tells
abbrev pub open_rows : Flags → (full : Bool) → List (Bool × Reply)
open_rows flags full =
    (not (is_known flags) || has flags overwrite_bit, Misuse BadFlags)
    ∷ (full, Misuse TooMany)
    ∷ []
