-- The text of a run.
use Rattle.std.specs.Prelude.{ℕ, ◌+◌, Bool, cond, List, [], ◌∷◌, ◌++◌, codes, decimal, slice_get, unwrap_or}
use Rattle.std.specs.Option.{option_map}
use Rattle.tee_types.specs.declared.call.Call.{Call}
use Rattle.tee_types.specs.declared.reply.Code.TheVariants.{NoSpace}
use Rattle.tee_types.specs.declared.reply.Reply.TheVariants.{Refused}
use Rattle.store_model.specs.declared.event.Event.{Event}
use Rattle.store_model.specs.declared.event.Event.TheVariants.{Call as CallEvent, Landed}
use Rattle.script_text.specs.declared.script.Control.{Control}
use Rattle.script_text.specs.declared.script.Mode.{Mode}
use Rattle.script_text.specs.Script.{ScriptValue}
use Rattle.script_text.specs.Forms.{call_text, control_text, mode_text, reply_text}

-- the name by which the script calls that session
abbrev pub name_at : ScriptValue → ℕ → List ℕ
name_at script session = unwrap_or (option_map (λ d. d.name) (slice_get script.applications session)) []

-- the line of the event at that place
unfoldable pub event_text : ScriptValue → ℕ → Event → List ℕ
event_text script place (CallEvent session number call reply mark) =
    decimal place ++ codes " " ++ name_at script session ++ codes " " ++ call_text call ++ codes " -> " ++ reply_text reply ++ codes "\n"
event_text script place (Landed commit) = decimal place ++ codes " - landed " ++ decimal commit ++ codes "\n"

-- the lines of these events, the first of them at that place
unfoldable pub events_text : ScriptValue → ℕ → List Event → List ℕ
events_text script place [] = []
events_text script place (event ∷ events) = event_text script place event ++ events_text script (place + 1) events

-- the line before a phase's history
unfoldable pub phase_line : ℕ → Mode → ℕ → List ℕ
phase_line number mode objects = codes "# phase " ++ decimal number ++ codes " " ++ mode_text mode ++ codes " objects " ++ decimal objects ++ codes "\n"

-- the line of a migration: 1 where the directory was moved, else 0, and how many objects were
unfoldable pub migration_line : Bool → ℕ → List ℕ
migration_line directory objects = codes "# migrated directory " ++ decimal (cond directory 1 0) ++ codes " objects " ++ decimal objects ++ codes "\n"

-- the line of a call that was refused under quotas, where so many events stood: its number is that among the application's calls of the phase
unfoldable pub refused_call_line : ScriptValue → (place session number : ℕ) → Call → List ℕ
refused_call_line script place session number call =
    codes "# quota " ++ decimal place ++ codes " " ++ name_at script session ++ codes " " ++ decimal number ++ codes " " ++ call_text call ++ codes " -> "
    ++ reply_text (Refused NoSpace) ++ codes "\n"

-- the line of a control that is done
abbrev pub control_line : Control → List ℕ
control_line control = codes "# " ++ control_text control ++ codes "\n"
