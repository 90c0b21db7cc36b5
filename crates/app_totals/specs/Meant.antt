-- What a call would leave its application, as if each object were sound with no bad block, and the store had room for one object more.
use Rattle.std.specs.Prelude.{◌≡◌, ℕ, ◌+◌, ◌-◌, Bool, true, false, ◌||◌, if◌then◌else◌, nat_lt, [], ◌∷◌, map, replicate, Option, Some, None}
use Rattle.tee_types.specs.declared.call.Call.{Call}
use Rattle.tee_types.specs.declared.call.Call.TheVariants.{Create, Truncate, Write}
use Rattle.tee_types.specs.declared.reply.Reply.{Reply}
use Rattle.store_model.specs.declared.name.ObjectName.{ObjectName}
use Rattle.store_model.specs.Object.{Object, Sound, Damaged, ObjectMap, object_at, with_object}
use Rattle.store_model.specs.Machine.{MachineState, session_at, name_in}
use Rattle.store_model.specs.Calls.{reply_of, state_after, is_handle}
use Rattle.app_totals.specs.declared.numbers.Totals.{Totals}
use Rattle.app_totals.specs.declared.numbers.Forecast.{Forecast}
use Rattle.app_totals.specs.Totals.{totals_of}

-- the object as if it were sound, with no bad block
abbrev pub sound_object : Object → Object
sound_object (Sound contents) = Sound (record contents { bad = [] })
sound_object (Damaged size) = Sound (record { attributes = []; bytes = replicate size 0; bad = [] })

-- the state as if each object were
abbrev pub sound_state : MachineState → MachineState
sound_state s = record s { objects = map (λ entry. (entry.0, sound_object entry.1)) s.objects }

-- the map with the object of that name alone
abbrev pub only_named : ObjectMap → ObjectName → ObjectMap
only_named objects name = elim (object_at objects name) [ Some object ↦ (name, object) ∷ [] | None ↦ [] ]

-- the call may make an object, or grow one
abbrev pub may_grow : Call → Bool
may_grow (Create id flags attributes bytes) = true
may_grow (Write handle bytes) = true
may_grow (Truncate handle size) = true
may_grow _ = false

-- what a call is answered as if each object were sound with no bad block; and a create, as if there were no other object
abbrev pub meant_reply : MachineState → ℕ → Call → Reply
meant_reply s i (Create id flags attributes bytes) =
    reply_of (record s { objects = only_named s.objects (name_in s i id) }) i (Create id flags attributes bytes)
meant_reply s i call = reply_of (sound_state s) i call

-- the call is a create that gives a handle, or would if there were fewer objects
abbrev pub is_granted : MachineState → ℕ → Call → Bool
is_granted s i (Create id flags attributes bytes) = is_handle (meant_reply s i (Create id flags attributes bytes))
is_granted s i _ = false

-- the objects that a call so answered leaves
abbrev pub meant_objects : MachineState → ℕ → Call → ObjectMap
meant_objects s i (Create id flags attributes bytes) =
    if is_granted s i (Create id flags attributes bytes)
    then with_object s.objects (name_in s i id) (Sound (record { attributes = attributes; bytes = bytes; bad = [] }))
    else s.objects
meant_objects s i call = (state_after (sound_state s) i call).objects

-- what the application of a session has, and what such a call leaves it
abbrev pub held_by : MachineState → ℕ → Totals
held_by s i = totals_of (session_at s i).application s.objects

abbrev pub left_by : MachineState → ℕ → Call → Totals
left_by s i call = totals_of (session_at s i).application (meant_objects s i call)

-- one of the two numbers rises
abbrev pub raises : Totals → Totals → Bool
raises before after = nat_lt before.objects after.objects || nat_lt before.bytes after.bytes

-- what is left, where a number rises
abbrev pub raised : Totals → Totals → Option Totals
raised before after = if raises before after then Some after else None

-- what a call leaves its application, where it raises a number
abbrev pub grown : MachineState → ℕ → Call → Option Totals
grown s i call = raised (held_by s i) (left_by s i call)

-- what is left where an object that had `old` bytes of data gets `new` ones, if these are more
abbrev pub resized_totals : Totals → ℕ → ℕ → Option Totals
resized_totals held old new = if nat_lt old new then Some (record held { bytes = held.bytes + (new - old) }) else None

-- The forecast is that of the call where the machine stands so: what the application has, and what the call is meant to leave it.
pub record IsForecastOf (s : MachineState) (i : ℕ) (call : Call) (forecast : Forecast) : Type 0 where
  pub objects : forecast.objects ≡ (held_by s i).objects
  pub bytes : forecast.bytes ≡ (held_by s i).bytes
  pub grown : forecast.grown ≡ grown s i call
