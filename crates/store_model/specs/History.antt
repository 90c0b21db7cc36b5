-- Histories: what each session did, in order.
use Rattle.std.specs.Prelude.{◌≡◌, ◌==◌, ℕ, List, [], ◌∷◌, length, if◌then◌else◌}
use Rattle.std.specs.List.{range_with_len}
use Rattle.tee_types.specs.declared.call.Call.{Call}
use Rattle.store_model.specs.declared.event.Event.{Event}
use Rattle.store_model.specs.declared.event.Event.TheVariants.{Call as CallEvent, Landed}

-- the calls of that session, in order
abbrev pub calls_of : ℕ → List Event → List Call
calls_of session [] = []
calls_of session (CallEvent s number call reply mark ∷ events) =
    if s == session then call ∷ calls_of session events else calls_of session events
calls_of session (Landed commit ∷ events) = calls_of session events

-- the numbers that its entries carry, in order
abbrev pub numbers_of : ℕ → List Event → List ℕ
numbers_of session [] = []
numbers_of session (CallEvent s number call reply mark ∷ events) =
    if s == session then number ∷ numbers_of session events else numbers_of session events
numbers_of session (Landed commit ∷ events) = numbers_of session events

-- how many entries the session has
abbrev pub count_of : ℕ → List Event → ℕ
count_of session events = length (numbers_of session events)

-- the entries of each session have the numbers 0, 1, 2 and so on, in order
abbrev pub AreNumbered : List Event → Type 0
AreNumbered events = (session : ℕ) → numbers_of session events ≡ range_with_len 0 (count_of session events)
