-- The calls of a session among events, and those of its application among steps.
use Rattle.std.proofs.Common.{◌≡◌, ◌==◌, ◌+◌, ◌<◌, ◌≤◌, ℕ, suc, Bool, true, false, cond, List, [], ◌∷◌, ◌++◌, length, take, get_or, eq-eqb, refl, sym, ap, ◌∙◌, arith}
use Rattle.std.proofs.lemmas.Bool.{eqb-true}
use Rattle.std.proofs.lemmas.List.Elements.{All-head, All-tail}
use Rattle.std.proofs.lemmas.List.{append-nil, map-append, nil_from_length, take_more}
use Rattle.tee_types.specs.declared.call.Call.{Call}
use Rattle.store_model.specs.declared.event.Event.{Event}
use Rattle.store_model.specs.declared.event.Event.TheVariants.{Call as CallEvent, Landed}
use Rattle.store_model.specs.History.{calls_of, count_of, numbers_of}
use Rattle.store_model.specs.Record.{events_of}
use Rattle.history_seats.specs.Records.{HistoryRecord, IsUpToDate, is_of_session}
use Rattle.history_seats.proofs.Numbering.{count-append, count-begins}
use Rattle.script_text.specs.declared.script.Step.{Step}
use Rattle.script_text.specs.declared.script.Step.TheVariants.{Call as CallStep, Control as ControlStep}
use Rattle.script_text.specs.Script.{IsPlaced, is_call}
use Rattle.run_acts.specs.ServedSteps.{AreCalls, calls_in}
use Rattle.quota_store.specs.Kept.{AreOfSessions}

cond-append : (own : Bool) (call : Call) (first then : List Call) → cond own (call ∷ (first ++ then)) (first ++ then) ≡ cond own (call ∷ first) first ++ then
cond-append true call first then = refl
cond-append false call first then = refl

pub calls_of-append : (session : ℕ) (first then : List Event) → calls_of session (first ++ then) ≡ calls_of session first ++ calls_of session then
calls_of-append session [] then = refl
calls_of-append session (CallEvent s number call reply mark ∷ first) then =
    ap (λ calls. cond (s == session) (call ∷ calls) calls) (calls_of-append session first then)
    ∙ cond-append (s == session) call (calls_of session first) (calls_of session then)
calls_of-append session (Landed commit ∷ first) then = calls_of-append session first then

pub calls_in-append : (app : ℕ) (first then : List Step) → calls_in app (first ++ then) ≡ calls_in app first ++ calls_in app then
calls_in-append app [] then = refl
calls_in-append app (CallStep a call ∷ first) then =
    ap (λ calls. cond (a == app) (call ∷ calls) calls) (calls_in-append app first then)
    ∙ cond-append (a == app) call (calls_in app first) (calls_in app then)
calls_in-append app (ControlStep control ∷ first) then = calls_in-append app first then

-- up to the next step
pub calls_in-more : (app : ℕ) (steps : List Step) (index : ℕ) (step : Step) → index < length steps → step ≡ get_or steps index step
    → calls_in app (take (index + 1) steps) ≡ calls_in app (take index steps) ++ calls_in app (step ∷ [])
calls_in-more app steps index step below is =
    ap (calls_in app) (take_more steps index step below ∙ ap (λ (s : Step). take index steps ++ s ∷ []) (sym is)) ∙ calls_in-append app (take index steps) (step ∷ [])

-- a call of that application
pub calls_in-one : (app own : ℕ) (call : Call) → own ≡ app → calls_in app (CallStep own call ∷ []) ≡ call ∷ []
calls_in-one app own call same = rw (eq-eqb own app same) refl

-- there are no more calls than steps
length-cond_within : (own : Bool) (call : Call) (calls : List Call) (n : ℕ) → length calls ≤ n → length (cond own (call ∷ calls) calls) ≤ suc n
length-cond_within true call calls n within = omega (arith, within)
length-cond_within false call calls n within = omega (arith, within)

pub calls_in-within : (app : ℕ) (steps : List Step) → length (calls_in app steps) ≤ length steps
calls_in-within app [] = omega arith
calls_in-within app (CallStep a call ∷ steps) = length-cond_within (a == app) call (calls_in app steps) (length steps) (calls_in-within app steps)
calls_in-within app (ControlStep control ∷ steps) = omega (arith, calls_in-within app steps)

-- there are as many calls of a session as it has events
length-cond : (own : Bool) (call : Call) (number : ℕ) (calls : List Call) (numbers : List ℕ) → length calls ≡ length numbers
    → length (cond own (call ∷ calls) calls) ≡ length (cond own (number ∷ numbers) numbers)
length-cond true call number calls numbers same = ap suc same
length-cond false call number calls numbers same = same

pub length-calls_of : (session : ℕ) (events : List Event) → length (calls_of session events) ≡ count_of session events
length-calls_of session [] = refl
length-calls_of session (CallEvent s number call reply mark ∷ events) =
    length-cond (s == session) call number (calls_of session events) (numbers_of session events) (length-calls_of session events)
length-calls_of session (Landed commit ∷ events) = length-calls_of session events

pub calls_of-none : (session : ℕ) (events : List Event) → count_of session events ≡ 0 → calls_of session events ≡ []
calls_of-none session events none = nil_from_length (calls_of session events) (length-calls_of session events ∙ none)

-- behind a view that lacks no event of a session there is none
pub count-rest : (session : ℕ) (seen whole : List HistoryRecord) (b : IsUpToDate (is_of_session session) seen whole) → count_of session (events_of b.rest) ≡ 0
count-rest session seen whole b =
    let counted : count_of session (events_of whole) ≡ count_of session (events_of seen) + count_of session (events_of b.rest) =
    ap (λ (l : List HistoryRecord). count_of session (events_of l)) (sym b.is) ∙ count-append session seen b.rest in
    omega (arith, counted, count-begins session seen whole b)

-- a view that lacks no event of a session has all its calls
pub calls_of-begins : (session : ℕ) (seen whole : List HistoryRecord) → IsUpToDate (is_of_session session) seen whole
    → calls_of session (events_of whole) ≡ calls_of session (events_of seen)
calls_of-begins session seen whole b =
    ap (λ (l : List HistoryRecord). calls_of session (events_of l)) (sym b.is)
    ∙ ap (calls_of session) (map-append (λ (r : HistoryRecord). r.event) seen b.rest)
    ∙ calls_of-append session (events_of seen) (events_of b.rest)
    ∙ ap (λ (calls : List Call). calls_of session (events_of seen) ++ calls) (calls_of-none session (events_of b.rest) (count-rest session seen whole b))
    ∙ append-nil (calls_of session (events_of seen))

-- no event is of a session past the last, and no step of an application past it
cond-past : (own : Bool) (session app count : ℕ) → (session == app) ≡ own → session < count → count ≤ app → (call : Call) (calls : List Call) → calls ≡ [] → cond own (call ∷ calls) calls ≡ []
cond-past true session app count same below past call calls none = absurd (omega (arith, eqb-true session app same, below, past))
cond-past false session app count same below past call calls none = none

pub calls_of-past : (count app : ℕ) (events : List Event) → count ≤ app → AreOfSessions count events → calls_of app events ≡ []
calls_of-past count app [] past known = refl
calls_of-past count app (CallEvent session number call reply mark ∷ events) past known =
    cond-past (session == app) session app count refl known.0 past call (calls_of app events) (calls_of-past count app events past known.1)
calls_of-past count app (Landed commit ∷ events) past known = calls_of-past count app events past known

pub calls_in-past : (count app : ℕ) (steps : List Step) → count ≤ app → AreCalls count steps → calls_in app steps ≡ []
calls_in-past count app [] past calls = refl
calls_in-past count app (CallStep a call ∷ steps) past calls =
    cond-past (a == app) a app count refl (All-head (λ step. IsPlaced count step × (is_call step ≡ true)) (CallStep a call) steps calls).0 past call (calls_in app steps)
    (calls_in-past count app steps past (All-tail (λ step. IsPlaced count step × (is_call step ≡ true)) (CallStep a call) steps calls))
calls_in-past count app (ControlStep control ∷ steps) past calls =
    calls_in-past count app steps past (All-tail (λ step. IsPlaced count step × (is_call step ≡ true)) (ControlStep control) steps calls)
