-- Text that was sent piece after piece.
use Rattle.std.proofs.Common.{◌≡◌, ◌+◌, ◌<◌, ◌≤◌, ℕ, List, [], ◌∷◌, ◌++◌, length, take, drop, get_or, Option, sym, ap, ◌∙◌, append_assoc, arith, suc, subst, slice_get, Some, Result, Ok, Err, OnErr}
use Rattle.std.proofs.lemmas.List.{append-nil, take_more, take-append-drop, length-take-le, take_all}
use Rattle.std.proofs.lemmas.Option.{get_or_from_slice_get}
use Rattle.tee_ports.proofs.Streams.{Appends-append, Appends-none}
use Rattle.store_model.specs.declared.event.Event.{Event}
use Rattle.script_text.specs.Script.{ScriptValue}
use Rattle.script_text.specs.declared.script.Mode.{Mode}
use Rattle.script_text.specs.Text.{event_text, events_text, phase_line}
use Rattle.script_runner.specs.Sending.{Sends, Stops}

-- a front and the rest of one text, and then a second text
append_behind : (kept first second front rest : List ℕ) → kept ++ first ≡ front ++ rest → kept ++ (first ++ second) ≡ front ++ (rest ++ second)
append_behind kept first second front rest e = sym (append_assoc kept first second) ∙ ap (λ t. t ++ second) e ∙ append_assoc front rest second

-- first one text, then another
pub Sends-append : (held between new : Option (List ℕ)) (kept kept_between kept_new first second : List ℕ) → Sends held between kept kept_between first → Sends between new kept_between kept_new second → Sends held new kept kept_new (first ++ second)
Sends-append held between new kept kept_between kept_new first second a b = (
  a.0 ++ b.0,
  Appends-append held between new a.0 b.0 a.1 b.1,
  append_behind kept first second a.0 kept_between a.2 ∙ ap (λ t. a.0 ++ t) b.2 ∙ sym (append_assoc a.0 b.0 kept_new),
)

-- stopped behind a text that went through
pub Stops-append : (held between new : Option (List ℕ)) (kept kept_between first second : List ℕ) → Sends held between kept kept_between first → Stops between new kept_between second → Stops held new kept (first ++ second)
Stops-append held between new kept kept_between first second a b = (
  a.0 ++ b.0,
  Appends-append held between new a.0 b.0 a.1 b.1,
  (b.2.0, append_behind kept first second a.0 kept_between a.2 ∙ ap (λ t. a.0 ++ t) b.2.1 ∙ sym (append_assoc a.0 b.0 b.2.0)),
)

-- no text
pub Sends-none : (held : Option (List ℕ)) (kept : List ℕ) → Sends held held kept kept []
Sends-none held kept = ([], Appends-none held, append-nil kept)

-- a text that was put behind what was kept before it was sent
pub Sends-kept : (held new : Option (List ℕ)) (kept kept_new text with_text : List ℕ) → with_text ≡ kept ++ text → Sends held new with_text kept_new [] → Sends held new kept kept_new text
Sends-kept held new kept kept_new text with_text is s = (s.0, s.1, sym is ∙ sym (append-nil with_text) ∙ s.2)

pub Stops-kept : (held new : Option (List ℕ)) (kept text with_text : List ℕ) → with_text ≡ kept ++ text → Stops held new with_text [] → Stops held new kept text
Stops-kept held new kept text with_text is s = (s.0, s.1, (s.2.0, sym is ∙ sym (append-nil with_text) ∙ s.2.1))

-- what stops a text stops a longer one
pub Stops-longer : (held new : Option (List ℕ)) (kept text more : List ℕ) → Stops held new kept text → Stops held new kept (text ++ more)
Stops-longer held new kept text more h = (h.0, h.1, (h.2.0 ++ more, append_behind kept text more h.0 h.2.0 h.2.1))

pub Stops-sent : (held new : Option (List ℕ)) (kept kept_new text : List ℕ) → Sends held new kept kept_new text → Stops held new kept text
Stops-sent held new kept kept_new text h = (h.0, h.1, (kept_new, h.2))

events_text-push : (script : ScriptValue) (place : ℕ) (events : List Event) (e : Event) → events_text script place (events ++ e ∷ []) ≡ events_text script place events ++ event_text script (place + length events) e
unfolding events_text
events_text-push script place [] e = let none : place ≡ place + 0 = omega arith in append-nil _ ∙ ap (λ p. event_text script p e) none
events_text-push script place (f ∷ events) e =
    let more : (place + 1) + length events ≡ place + suc (length events) = omega arith in
    ap (λ t. event_text script place f ++ t) (events_text-push script (place + 1) events e)
    ∙ sym (append_assoc (event_text script place f) (events_text script (place + 1) events) _)
    ∙ ap (λ p. (event_text script place f ++ events_text script (place + 1) events) ++ event_text script p e) more

pub events_text-more : (script : ScriptValue) (events : List Event) (i : ℕ) (e : Event) → i < length events → e ≡ get_or events i e → events_text script 0 (take (i + 1) events) ≡ events_text script 0 (take i events) ++ event_text script i e
events_text-more script events i e lt at =
    let short : 0 + length (take i events) ≡ i = omega (arith, length-take-le i events (omega arith)) in
    ap (events_text script 0) (take_more events i e lt ∙ ap (λ f. take i events ++ f ∷ []) (sym at))
    ∙ events_text-push script 0 (take i events) e
    ∙ ap (λ p. events_text script 0 (take i events) ++ event_text script p e) short

events_text-append : (script : ScriptValue) (place : ℕ) (front back : List Event) → events_text script place (front ++ back) ≡ events_text script place front ++ events_text script (place + length front) back
unfolding events_text
events_text-append script place [] back = let none : place ≡ place + 0 = omega arith in ap (λ p. events_text script p back) none
events_text-append script place (f ∷ front) back =
    let more : (place + 1) + length front ≡ place + suc (length front) = omega arith in
    ap (λ t. event_text script place f ++ t) (events_text-append script (place + 1) front back)
    ∙ sym (append_assoc (event_text script place f) (events_text script (place + 1) front) _)
    ∙ ap (λ p. (event_text script place f ++ events_text script (place + 1) front) ++ events_text script p back) more

-- the text of the first events, and the rest of the text
pub events_text-take : (script : ScriptValue) (events : List Event) (i : ℕ) → events_text script 0 events ≡ events_text script 0 (take i events) ++ events_text script (0 + length (take i events)) (drop i events)
events_text-take script events i = ap (events_text script 0) (sym (take-append-drop i events)) ∙ events_text-append script 0 (take i events) (drop i events)

-- the text of a phase up to its event at place i
abbrev pub text_upto : ScriptValue → ℕ → Mode → ℕ → List Event → ℕ → List ℕ
text_upto script number mode objects events i = phase_line number mode objects ++ events_text script 0 (take i events)

pub text_upto-none : (script : ScriptValue) (number : ℕ) (mode : Mode) (objects : ℕ) (events : List Event) → text_upto script number mode objects events 0 ≡ phase_line number mode objects
unfolding events_text
text_upto-none script number mode objects events = append-nil (phase_line number mode objects)

pub text_upto-more : (script : ScriptValue) (number : ℕ) (mode : Mode) (objects : ℕ) (events : List Event) (i : ℕ) (e : Event) → i < length events → slice_get events i ≡ Some e → text_upto script number mode objects events (i + 1) ≡ text_upto script number mode objects events i ++ event_text script i e
text_upto-more script number mode objects events i e lt at =
    ap (λ t. phase_line number mode objects ++ t) (events_text-more script events i e lt (sym (get_or_from_slice_get events i e e at)))
    ∙ sym (append_assoc (phase_line number mode objects) (events_text script 0 (take i events)) (event_text script i e))

pub text_upto-rest : (script : ScriptValue) (number : ℕ) (mode : Mode) (objects : ℕ) (events : List Event) (i : ℕ) → phase_line number mode objects ++ events_text script 0 events ≡ text_upto script number mode objects events i ++ events_text script (0 + length (take i events)) (drop i events)
text_upto-rest script number mode objects events i =
    ap (λ t. phase_line number mode objects ++ t) (events_text-take script events i)
    ∙ sym (append_assoc (phase_line number mode objects) (events_text script 0 (take i events)) _)

pub text_upto-all : (script : ScriptValue) (number : ℕ) (mode : Mode) (objects : ℕ) (events : List Event) (i : ℕ) → length events ≤ i → text_upto script number mode objects events i ≡ phase_line number mode objects ++ events_text script 0 events
text_upto-all script number mode objects events i le = ap (λ es. phase_line number mode objects ++ events_text script 0 es) (take_all i events le)

-- stopped at an event of the phase, which is so the text of the phase stopped
pub Stops-at_event : (held between new : Option (List ℕ)) (kept_old kept : List ℕ) (script : ScriptValue) (number : ℕ) (mode : Mode) (objects : ℕ) (events : List Event) (i : ℕ) (e : Event) → i < length events → slice_get events i ≡ Some e → Sends held between kept_old kept (text_upto script number mode objects events i) → Stops between new kept (event_text script i e) → Stops held new kept_old (phase_line number mode objects ++ events_text script 0 events)
Stops-at_event held between new kept_old kept script number mode objects events i e lt at sent stops =
    let here : Stops held new kept_old (text_upto script number mode objects events (i + 1)) =
    subst (Stops held new kept_old) (sym (text_upto-more script number mode objects events i e lt at)) (Stops-append held between new kept_old kept _ _ sent stops) in
    subst (Stops held new kept_old) (sym (text_upto-rest script number mode objects events (i + 1))) (Stops-longer held new kept_old _ _ here)

pub OnErr-always : {T E P : Type 0} (r : Result T E) → P → OnErr r P
OnErr-always (Ok x) p = tt
OnErr-always (Err e) p = p
