-- The counts that a session's events carry for its entropy.
use Rattle.std.proofs.Common.{◌≡◌, ◌==◌, ◌+◌, ℕ, Bool, true, false, cond, List, [], ◌∷◌, ◌++◌, length, append-nil, refl, sym, ap, ◌∙◌, subst, inl, arith}
use Rattle.std.proofs.lemmas.List.{map-append}
use Rattle.disk_model.specs.Faults.{Rose}
use Rattle.tee_types.specs.declared.reply.Cause.TheVariants.{CardResult, Fault, Frame}
use Rattle.tee_types.specs.declared.reply.Device.TheVariants.{Card, Dir, Entropy, File}
use Rattle.tee_types.specs.declared.reply.Reply.{Reply}
use Rattle.tee_types.specs.declared.reply.Reply.TheVariants.{NotAvailable}
use Rattle.store_model.specs.declared.event.Event.{Event}
use Rattle.store_model.specs.declared.event.Event.TheVariants.{Call as CallEvent, Landed}
use Rattle.store_model.specs.History.{count_of, numbers_of}
use Rattle.store_model.specs.Record.{events_of}
use Rattle.history_seats.specs.Records.{HistoryRecord, IsUpToDate, is_of_session}
use Rattle.history_seats.proofs.Numbering.{count-append, count-begins}
use Rattle.quota_store.specs.DeviceCounts.{Rise, draws_of, told_of}
use Rattle.quota_store.specs.Devices.{Grows}
use Rattle.quota_store.proofs.CarriedCounts.{draws_of-append}
use Rattle.quota_store.specs.SharedCounts.{CarriesDraws}

-- a session without events has no counts
cond-none : (own : Bool) (number : ℕ) (numbers told rest : List ℕ) → length (cond own (number ∷ numbers) numbers) ≡ 0 → (length numbers ≡ 0 → rest ≡ []) → cond own (told ++ rest) rest ≡ []
cond-none true number numbers told rest none later = absurd (omega (arith, none))
cond-none false number numbers told rest none later = later none

pub draws_of-none : (session : ℕ) (events : List Event) → count_of session events ≡ 0 → draws_of session events ≡ []
draws_of-none session [] none = refl
draws_of-none session (CallEvent s number call reply mark ∷ events) none =
    cond-none (s == session) number (numbers_of session events) (told_of Entropy reply) (draws_of session events) none (draws_of-none session events)
draws_of-none session (Landed commit ∷ events) none = draws_of-none session events none

-- a view that goes on by events of others
pub draws_of-quiet : (session : ℕ) (seen between : List HistoryRecord) → count_of session (events_of between) ≡ 0 → draws_of session (events_of (seen ++ between)) ≡ draws_of session (events_of seen)
draws_of-quiet session seen between none =
    ap (draws_of session) (map-append (λ (r : HistoryRecord). r.event) seen between)
    ∙ draws_of-append session (events_of seen) (events_of between)
    ∙ ap (λ (l : List ℕ). draws_of session (events_of seen) ++ l) (draws_of-none session (events_of between) none)
    ∙ append-nil (draws_of session (events_of seen))

-- and one more
pub draws_of-more : (session : ℕ) (seen between : List HistoryRecord) (last : HistoryRecord) → count_of session (events_of between) ≡ 0
    → draws_of session (events_of ((seen ++ between) ++ last ∷ [])) ≡ draws_of session (events_of seen) ++ draws_of session (last.event ∷ [])
draws_of-more session seen between last none =
    let event_of = λ (r : HistoryRecord). r.event in
    let own = draws_of session (last.event ∷ []) in
    ap (draws_of session) (map-append event_of (seen ++ between) (last ∷ []) ∙ ap (λ (l : List Event). l ++ last.event ∷ []) (map-append event_of seen between))
    ∙ draws_of-append session (events_of seen ++ events_of between) (last.event ∷ [])
    ∙ ap (λ (l : List ℕ). l ++ own)
    (draws_of-append session (events_of seen) (events_of between) ∙ ap (λ (l : List ℕ). draws_of session (events_of seen) ++ l) (draws_of-none session (events_of between) none)
    ∙ append-nil (draws_of session (events_of seen)))

-- a view that lacks no event of a session has all its counts
pub draws_of-begins : (session : ℕ) (seen whole : List HistoryRecord) → IsUpToDate (is_of_session session) seen whole
    → draws_of session (events_of whole) ≡ draws_of session (events_of seen)
draws_of-begins session seen whole b =
    let counted : count_of session (events_of whole) ≡ count_of session (events_of seen) + count_of session (events_of b.rest) =
    ap (λ (l : List HistoryRecord). count_of session (events_of l)) (sym b.is) ∙ count-append session seen b.rest in
    let none : count_of session (events_of b.rest) ≡ 0 = omega (arith, counted, count-begins session seen whole b) in
    ap (λ (l : List HistoryRecord). draws_of session (events_of l)) (sym b.is)
    ∙ ap (draws_of session) (map-append (λ (r : HistoryRecord). r.event) seen b.rest)
    ∙ draws_of-append session (events_of seen) (events_of b.rest)
    ∙ ap (λ (counts : List ℕ). draws_of session (events_of seen) ++ counts) (draws_of-none session (events_of b.rest) none)
    ∙ append-nil (draws_of session (events_of seen))

-- the entropy counted what the reply carries for it
pub carried-rise : (first last : ℕ) (reply : Reply) → Grows first last → CarriesDraws first last reply → Rise first last (told_of Entropy reply)
carried-rise first last (NotAvailable (Fault Entropy count)) grows carries = (subst (λ (n : ℕ). Rose first n) (sym carries.1) carries.0, inl (sym carries.1))
carried-rise first last (NotAvailable (Fault Dir count)) grows carries = grows
carried-rise first last (NotAvailable (Fault Card count)) grows carries = grows
carried-rise first last (NotAvailable (Fault (File n) count)) grows carries = grows
carried-rise first last (NotAvailable (Frame fault)) grows carries = grows
carried-rise first last (NotAvailable (CardResult result)) grows carries = grows
carried-rise first last reply grows carries = grows
