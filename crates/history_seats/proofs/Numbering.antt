-- The numbers of each session's events.
use Rattle.std.proofs.Common.{◌≡◌, ℕ, suc, ◌+◌, ◌==◌, List, [], ◌∷◌, ◌++◌, length, Bool, true, false, cond, refl, sym, ap, ◌∙◌, subst, arith, length-append, ⊎_elim, eq-eqb, Option}
use Rattle.std.proofs.lemmas.List.{append-nil, map-append}
use Rattle.std.proofs.lemmas.Bool.Decides.{eqb_tells}
use Rattle.std.specs.List.{list_any, range_with_len}
use Rattle.tee_types.specs.declared.call.Call.{Call}
use Rattle.tee_types.specs.declared.reply.Reply.{Reply}
use Rattle.store_model.specs.declared.event.Event.{Event}
use Rattle.store_model.specs.declared.event.Mark.{Mark}
use Rattle.store_model.specs.Record.{Tag, events_of}
use Rattle.store_model.specs.declared.event.Event.TheVariants.{Call as CallEvent, Landed}
use Rattle.store_model.specs.History.{numbers_of, count_of, AreNumbered}
use Rattle.store_model.proofs.EventNumbers.{numbers-append, range-snoc}
use Rattle.history_seats.specs.Records.{Version, HistoryRecord, IsUpToDate, is_event_of, is_of_session}
use Rattle.history_seats.proofs.Lists.{neither}

-- the numbers that one event adds
abbrev number_in : ℕ → Event → List ℕ
number_in session event = numbers_of session (event ∷ [])

-- one more number behind those that are in order
more : (ns : List ℕ) (n : ℕ) → ns ≡ range_with_len 0 (length ns) → n ≡ length ns → ns ++ n ∷ [] ≡ range_with_len 0 (length (ns ++ n ∷ []))
more ns n is e =
    let last : n ≡ 0 + length ns = omega arith in
    let longer : suc (length ns) ≡ length (ns ++ n ∷ []) = omega (arith, length-append ns (n ∷ [])) in
    ap (λ (l : List ℕ). l ++ n ∷ []) is ∙ ap (λ (k : ℕ). range_with_len 0 (length ns) ++ k ∷ []) last ∙ sym (range-snoc 0 (length ns)) ∙ ap (range_with_len 0) longer

abbrev IsNumbered : List ℕ → Type 0
IsNumbered ns = ns ≡ range_with_len 0 (length ns)

-- a call with its session's next number, or another event, keeps the numbers of a session in order
step : (session : ℕ) (ns : List ℕ) (event : Event) → IsNumbered ns → ((number : ℕ) → number_in session event ≡ number ∷ [] → number ≡ length ns) → IsNumbered (ns ++ number_in session event)
step session ns (CallEvent s number call reply mark) is next = one (s == session) next
  where
    one : (b : Bool) → ((n : ℕ) → cond b (number ∷ []) [] ≡ n ∷ [] → n ≡ length ns) → IsNumbered (ns ++ cond b (number ∷ []) [])
    one true f = more ns number is (f number refl)
    one false f = subst IsNumbered (sym (append-nil ns)) is
step session ns (Landed commit) is next = subst IsNumbered (sym (append-nil ns)) is

-- the event has its session's next number
abbrev pub HasNextNumber : List HistoryRecord → Event → Type 0
HasNextNumber records (CallEvent session number call reply mark) = number ≡ count_of session (events_of records)
HasNextNumber records (Landed commit) = Unit {0}

next_in : (records : List HistoryRecord) (event : Event) → HasNextNumber records event → (session number : ℕ) → number_in session event ≡ number ∷ [] → number ≡ count_of session (events_of records)
next_in records (CallEvent s n call reply mark) is session number e =
    ⊎_elim
    (λ (y : ((s == session) ≡ true) × (s ≡ session)).
    let found : n ∷ [] ≡ number ∷ [] = sym (ap (λ (b : Bool). cond b (n ∷ []) []) y.0) ∙ e in
    let same : n ≡ number = cc in
    sym same ∙ is ∙ ap (λ (i : ℕ). count_of i (events_of records)) y.1)
    (λ (y : ((s == session) ≡ false) × (s ≡ session → ⊥)).
    let found : [] ≡ number ∷ [] = sym (ap (λ (b : Bool). cond b (n ∷ []) []) y.0) ∙ e in
    absurd (nothing number found))
    (eqb_tells s session)
  where
    nothing : (m : ℕ) → [] ≡ m ∷ [] → ⊥
    nothing m q = cc
next_in records (Landed commit) is session number e = absurd (nothing number e)
  where
    nothing : (m : ℕ) → [] ≡ m ∷ [] → ⊥
    nothing m q = cc

pub numbered-snoc : (records : List HistoryRecord) (r : HistoryRecord) → AreNumbered (events_of records) → HasNextNumber records r.event → AreNumbered (events_of (records ++ r ∷ []))
numbered-snoc records r all next = λ session.
    let parts : numbers_of session (events_of (records ++ r ∷ [])) ≡ numbers_of session (events_of records) ++ number_in session r.event =
    ap (numbers_of session) (map-append (λ (x : HistoryRecord). x.event) records (r ∷ [])) ∙ numbers-append session (events_of records) (r.event ∷ []) in
    subst IsNumbered (sym parts) (step session (numbers_of session (events_of records)) r.event (all session) (next_in records r.event next session))

-- the events of both parts are the events of the whole
pub count-append : (session : ℕ) (xs ys : List HistoryRecord) → count_of session (events_of (xs ++ ys)) ≡ count_of session (events_of xs) + count_of session (events_of ys)
count-append session xs ys =
    ap length (ap (numbers_of session) (map-append (λ (x : HistoryRecord). x.event) xs ys) ∙ numbers-append session (events_of xs) (events_of ys))
    ∙ length-append (numbers_of session (events_of xs)) (numbers_of session (events_of ys))

-- a call of the session is one more of its events
pub count-own : (session number : ℕ) (call : Call) (reply : Reply) (mark : Mark) (tag : Option (Tag Version)) → count_of session (events_of (record { event = CallEvent session number call reply mark; tag = tag } ∷ [])) ≡ 1
count-own session number call reply mark tag = rw (eq-eqb session session refl) refl

-- where no event is of the session it has no numbers
none_of : (session : ℕ) (records : List HistoryRecord) → list_any (is_of_session session) records ≡ false → numbers_of session (events_of records) ≡ []
none_of session [] e = refl
none_of session (r ∷ records) e =
    let off = neither (is_of_session session r) (list_any (is_of_session session) records) e in
    one r.event off.0 (none_of session records off.1)
  where
    one : (event : Event) → is_event_of session event ≡ false → numbers_of session (events_of records) ≡ [] → numbers_of session (event ∷ events_of records) ≡ []
    one (CallEvent s number call reply mark) off rest = rw off rest
    one (Landed commit) off rest = rest

-- a pass knows how many events its session has
pub count-begins : (session : ℕ) (seen whole : List HistoryRecord) → IsUpToDate (is_of_session session) seen whole → count_of session (events_of whole) ≡ count_of session (events_of seen)
count-begins session seen whole b =
    let counted : count_of session (events_of whole) ≡ count_of session (events_of seen) + count_of session (events_of b.rest) = ap (λ (l : List HistoryRecord). count_of session (events_of l)) (sym b.is) ∙ count-append session seen b.rest in
    let none : count_of session (events_of b.rest) ≡ 0 = ap length (none_of session b.rest b.lacks) in
    omega arith
