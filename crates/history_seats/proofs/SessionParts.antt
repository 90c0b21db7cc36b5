-- What a pass's view tells of its session after the whole history.
use Rattle.std.proofs.Common.{◌≡◌, ◌≢◌, ◌⊎◌, ◌<◌, ◌==◌, ℕ, List, [], ◌∷◌, ◌++◌, length, Bool, true, false, true≢false, cond, Option, Some, None, refl, sym, ap, ◌∙◌, subst, inl, inr, ⊎_elim, eq-eqb, arith}
use Rattle.std.proofs.lemmas.Bool.{cond-true, cond-false}
use Rattle.std.proofs.lemmas.Bool.Decides.{eqb_tells}
use Rattle.std.proofs.lemmas.List.{get_or-set_same, get_or-set_other}
use Rattle.std.specs.Prelude.{is_some, unwrap_or, slice_index_or, slice_set}
use Rattle.std.specs.List.{list_any, fold}
use Rattle.tee_types.specs.declared.call.Call.{Call}
use Rattle.tee_types.specs.declared.call.Call.TheVariants.{Rename, Delete}
use Rattle.tee_types.specs.declared.reply.Reply.{Reply}
use Rattle.store_model.specs.declared.event.Event.{Event}
use Rattle.store_model.specs.declared.event.Event.TheVariants.{Call as CallEvent, Landed}
use Rattle.store_model.specs.declared.event.Mark.{Mark}
use Rattle.store_model.specs.declared.event.Mark.TheVariants.{Unchanged, Made, Doubtful}
use Rattle.store_model.specs.declared.session.Handle.{Handle}
use Rattle.store_model.specs.Machine.{MachineState, Session, new_session, session_at, handle_at, with_handle, without_handle}
use Rattle.store_model.specs.Doubt.{Doubt, follows, session_landed, state_landed}
use Rattle.store_model.specs.Calls.{state_after}
use Rattle.store_model.specs.Record.{file_of}
use Rattle.store_model.specs.ReplayState.{ReplayState, is_undone, keeps_doubt, doubt_after, state_unless_undone, replay_after_call, replay_landed, replay_after, replay}
use Rattle.store_model.specs.Legal.{IsLegalEvent, IsLegalFrom}
use Rattle.store_model.proofs.Sessions.{length-after, length-replay}
use Rattle.history_seats.specs.Records.{HistoryRecord, IsUpToDate, is_event_of, is_of_session}
use Rattle.history_seats.specs.Settling.{Pending, as_landed, calm, dropped, is_doubtful, is_landing, open_from, settled_by, settles, settling, settled}
use Rattle.store_model.proofs.OtherSessions.{session-state_after}
use Rattle.history_seats.specs.Sessions.{session_if_landed, session_of}
use Rattle.history_seats.specs.Known.{session_from}
use Rattle.history_seats.specs.SessionLaws.{AreLandingsDue, MayBeDropped}
use Rattle.history_seats.specs.Views.{GateView, PassView}
use Rattle.history_seats.specs.Rule.{PassFits}
use Rattle.history_seats.proofs.Lists.{neither, no_some}
use Rattle.history_seats.proofs.Parts.{calm-settled, settled-twice}
use Rattle.history_seats.proofs.Places.{IsDoubtOf, doubt-within, open-calm, open-dropped, view-place}

-- what a landing makes of a session, by the session alone
abbrev readable : Session → ℕ → List ℕ → Option Handle → Session
readable x number id None = x
readable x number id (Some handle) = with_handle x number (record handle { name = record { app = x.application; id = id } })

abbrev landed_from : Session → Call → Session
landed_from x (Delete handle) = without_handle x handle
landed_from x (Rename handle id) = readable x handle id (handle_at x handle)
landed_from x _ = x

session_landed-is : (s : MachineState) (i : ℕ) (call : Call) → session_landed s i call ≡ landed_from (session_at s i) call
session_landed-is s i (Rename handle id) = one (handle_at (session_at s i) handle)
  where
    one : (o : Option Handle) → follows s i handle id o ≡ readable (session_at s i) handle id o
    one None = refl
    one (Some h) = refl
session_landed-is s i _ = refl

if_landed-same : (i : ℕ) (s t : MachineState) (doubt : Option Doubt) → session_at t i ≡ session_at s i → session_if_landed i t doubt ≡ session_if_landed i s doubt
if_landed-same i s t None e = refl
if_landed-same i s t (Some doubt) e =
    ap (λ (x : Session). cond (doubt.session == i) (Some x) None)
    (session_landed-is t i doubt.call ∙ ap (λ (x : Session). landed_from x doubt.call) e ∙ sym (session_landed-is s i doubt.call))

-- a call of another session, done or not, leaves the session
undone-same : (i j : ℕ) (s : MachineState) (call : Call) (b : Bool) → i ≢ j → session_at (elim b [ true ↦ s | false ↦ state_after s j call ]) i ≡ session_at s i
undone-same i j s call true apart = refl
undone-same i j s call false apart = session-state_after i s j call apart

-- What an event of another session does to the session: what it settles; or, where it settles nothing, the replay drops the doubt.
data Step (i : ℕ) (event : Event) (s t : ReplayState) : Type 0 where
  Settled : session_of i t ≡ settled_by event (session_of i s) → Step i event s t
  Dropped : settles event ≡ false → t.doubt ≡ None → session_of i t ≡ dropped (session_of i s) → Step i event s t

unchanged-step : (i j number : ℕ) (s : ReplayState) (call : Call) (reply : Reply) (file : Option ℕ) (keeps : Bool) → keeps_doubt reply ≡ keeps → i ≢ j
    → Step i (CallEvent j number call reply Unchanged) s (replay_after_call s j call reply Unchanged file)
unchanged-step i j number s call reply file keeps is apart = one keeps (ap (λ (b : Bool). elim b as (λ _. Option Doubt) [ true ↦ s.doubt | false ↦ None ]) is)
  where
    t : MachineState
    t = state_unless_undone s.state j call reply

    one : (b : Bool) → doubt_after reply s.doubt ≡ elim b as (λ _. Option Doubt) [ true ↦ s.doubt | false ↦ None ]
        → Step i (CallEvent j number call reply Unchanged) s (replay_after_call s j call reply Unchanged file)
    one true kept =
        let same = undone-same i j s.state call (is_undone reply) apart in
        Settled (λ k. record { now = same k; if_landed = (ap (session_if_landed i (state_unless_undone s.state j call reply)) kept ∙ if_landed-same i s.state (state_unless_undone s.state j call reply) s.doubt same) k })
    one false gone =
        let same = undone-same i j s.state call (is_undone reply) apart in
        Dropped refl gone (λ k. record { now = same k; if_landed = (ap (session_if_landed i (state_unless_undone s.state j call reply)) gone) k })

call-step : (i j number : ℕ) (s : ReplayState) (call : Call) (reply : Reply) (mark : Mark) (file : Option ℕ) → (j == i) ≡ false → i ≢ j
    → Step i (CallEvent j number call reply mark) s (replay_after_call s j call reply mark file)
call-step i j number s call reply Unchanged file off apart = unchanged-step i j number s call reply file (keeps_doubt reply) refl apart
call-step i j number s call reply (Made commit) file off apart =
    let same = session-state_after i s.state j call apart in
    Settled (λ k. record { now = same k; if_landed = None })
call-step i j number s call reply (Doubtful commit) file off apart =
    Settled (λ k. record { now = session_at s.state i; if_landed = (ap (λ (b : Bool). cond b (Some (session_landed s.state i call)) None) off) k })

landing-part : (i : ℕ) (s : ReplayState) (doubt : Option Doubt) → s.doubt ≡ doubt → i < length s.state.sessions → session_of i (replay_landed s doubt) ≡ as_landed (session_of i s)
landing-part i s None is range =
    let none : session_if_landed i s.state s.doubt ≡ None = ap (session_if_landed i s.state) is in
    λ k. record { now = (ap (λ (o : Option Session). unwrap_or o (session_at s.state i)) (sym none)) k; if_landed = none k }
landing-part i s (Some doubt) is range =
    let p = session_of i s in
    let if_landed : p.if_landed ≡ cond (doubt.session == i) (Some (session_landed s.state i doubt.call)) None = ap (session_if_landed i s.state) is in
    let now : session_at (state_landed s.state doubt) i ≡ (as_landed p).now =
    ⊎_elim
    (λ (y : ((doubt.session == i) ≡ true) × (doubt.session ≡ i)).
    set_here doubt.session y.1 ∙ ap (λ (o : Option Session). unwrap_or o (session_at s.state i)) (sym (if_landed ∙ ap (λ (b : Bool). cond b (Some (session_landed s.state i doubt.call)) None) y.0)))
    (λ (y : ((doubt.session == i) ≡ false) × (doubt.session ≢ i)).
    get_or-set_other s.state.sessions doubt.session i (session_landed s.state doubt.session doubt.call) (new_session []) (λ q. y.1 (sym q))
    ∙ ap (λ (o : Option Session). unwrap_or o (session_at s.state i)) (sym (if_landed ∙ ap (λ (b : Bool). cond b (Some (session_landed s.state i doubt.call)) None) y.0)))
    (eqb_tells doubt.session i) in
    λ k. record { now = now k; if_landed = None }
  where
    set_here : (j : ℕ) → j ≡ i → slice_index_or (slice_set s.state.sessions j (session_landed s.state j doubt.call)) i (new_session []) ≡ session_landed s.state i doubt.call
    set_here j e =
        subst (λ (m : ℕ). slice_index_or (slice_set s.state.sessions m (session_landed s.state m doubt.call)) i (new_session []) ≡ session_landed s.state i doubt.call) (sym e)
        (get_or-set_same s.state.sessions i (session_landed s.state i doubt.call) (new_session []) range)

other-step : (i : ℕ) (s : ReplayState) (event : Event) (file : Option ℕ) → i < length s.state.sessions → is_event_of i event ≡ false → Step i event s (replay_after s event file)
other-step i s (CallEvent j number call reply mark) file range off = call-step i j number s call reply mark file off (λ q. true≢false (sym (eq-eqb j i (sym q)) ∙ off))
other-step i s (Landed commit) file range off = Settled (landing-part i s s.doubt refl range)

abbrev next : ReplayState → HistoryRecord → ReplayState
next s r = replay_after s r.event (file_of r)

replay-fold : (s : ReplayState) (records : List HistoryRecord) → replay s records ≡ fold next s records
replay-fold s [] = refl
replay-fold s (r ∷ records) = replay-fold (next s r) records

replay-append : (s : ReplayState) (xs ys : List HistoryRecord) → replay s (xs ++ ys) ≡ replay (replay s xs) ys
replay-append s [] ys = refl
replay-append s (x ∷ xs) ys = replay-append (next s x) xs ys

due-rest : (s : ReplayState) (xs ys : List HistoryRecord) → AreLandingsDue s (xs ++ ys) → AreLandingsDue (replay s xs) ys
due-rest s [] ys due = due
due-rest s (x ∷ xs) ys due = due-rest (next s x) xs ys due.1

still-none : (s : ReplayState) (event : Event) (file : Option ℕ) → settles event ≡ false → s.doubt ≡ None → (replay_after s event file).doubt ≡ None
still-none s (CallEvent j number call reply Unchanged) file off none = ap (doubt_after reply) none ∙ nothing (keeps_doubt reply)
  where
    nothing : (b : Bool) → elim b as (λ _. Option Doubt) [ true ↦ None | false ↦ None ] ≡ None
    nothing true = refl
    nothing false = refl
still-none s (CallEvent j number call reply (Made commit)) file off none = refl
still-none s (CallEvent j number call reply (Doubtful commit)) file off none = absurd (true≢false off)
still-none s (Landed commit) file off none = absurd (true≢false off)

lands-one : (event first : Event) (later : Option Event) → (is_landing first ≡ true → ⊥) → (settles first ≡ false → later ≡ Some event → is_landing event ≡ false)
    → cond (settles first) (Some first) later ≡ Some event → is_landing event ≡ false
lands-one event (Landed commit) later never rest is = absurd (never refl)
lands-one event (CallEvent j number call reply Unchanged) later never rest is = rest refl is
lands-one event (CallEvent j number call reply (Made commit)) later never rest is = let same : CallEvent j number call reply (Made commit) ≡ event = cc (is) in ap is_landing (sym same)
lands-one event (CallEvent j number call reply (Doubtful commit)) later never rest is = let same : CallEvent j number call reply (Doubtful commit) ≡ event = cc (is) in ap is_landing (sym same)

-- while no doubt is open nothing lands before a doubtful event
lands-none : (s : ReplayState) (records : List HistoryRecord) → s.doubt ≡ None → AreLandingsDue s records → (event : Event) → settling records ≡ Some event → is_landing event ≡ false
lands-none s [] none due event is = cc
lands-none s (r ∷ records) none due event is =
    lands-one event r.event (settling records) (λ lands. true≢false (sym (due.0 lands) ∙ ap is_some none))
    (λ off q. lands-none (next s r) records (still-none s r.event (file_of r) off none) due.1 event q) is

dropped-same : {X : Type 0} (later : Option Event) (p : Pending X) → ((event : Event) → later ≡ Some event → is_landing event ≡ false) → dropped p ≡ dropped (settled later p)
dropped-same None p never = refl
dropped-same (Some (CallEvent j number call reply Unchanged)) p never = refl
dropped-same (Some (CallEvent j number call reply (Made commit))) p never = refl
dropped-same (Some (CallEvent j number call reply (Doubtful commit))) p never = refl
dropped-same (Some (Landed commit)) p never = absurd (true≢false (never (Landed commit) refl))

after-step : (i : ℕ) (s t : ReplayState) (event : Event) (later : Option Event) (x : Pending Session) → Step i event s t → (t.doubt ≡ None → (e : Event) → later ≡ Some e → is_landing e ≡ false)
    → MayBeDropped x (settled later (session_of i t)) → MayBeDropped x (settled (cond (settles event) (Some event) later) (session_of i s))
after-step i s t event later x (Settled is) never may =
    subst (MayBeDropped x) (ap (settled later) is ∙ settled-twice event (session_of i s) later) may
after-step i s t event later x (Dropped off none is) never may =
    let p = session_of i s in
    let there : settled later (session_of i t) ≡ dropped p = ap (settled later) is ∙ calm-settled p.now later in
    let gone : x ≡ dropped p = elim may [ inl e ↦ e ∙ there | inr e ↦ e ∙ ap dropped there ] in
    inr (gone ∙ dropped-same later p (never none) ∙ ap (λ (o : Option Event). dropped (settled o p)) (sym (cond-false (settles event) (Some event) later off)))

session-rest : (i : ℕ) (s : ReplayState) (records : List HistoryRecord) → i < length s.state.sessions → AreLandingsDue s records → list_any (is_of_session i) records ≡ false
    → MayBeDropped (session_of i (replay s records)) (settled (settling records) (session_of i s))
session-rest i s [] range due lacks = inl refl
session-rest i s (r ∷ records) range due lacks =
    let off = neither (is_of_session i r) (list_any (is_of_session i) records) lacks in
    after-step i s (next s r) r.event (settling records) (session_of i (replay (next s r) records)) (other-step i s r.event (file_of r) range off.0)
    (λ none e is. lands-none (next s r) records none due.1 e is)
    (session-rest i (next s r) records (omega (arith, length-after s r.event (file_of r), range)) due.1 off.1)

-- The session after the whole is that after the beginning, as the rest settles its doubt or drops it.
pub session-whole : (i : ℕ) (start : ReplayState) (seen whole : List HistoryRecord) (b : IsUpToDate (is_of_session i) seen whole) → i < length start.state.sessions → AreLandingsDue start whole
    → MayBeDropped (session_of i (replay start whole)) (settled (settling b.rest) (session_of i (replay start seen)))
session-whole i start seen whole b range due =
    let here = replay start seen in
    let parts : replay start whole ≡ replay here b.rest = ap (replay start) (sym b.is) ∙ replay-append start seen b.rest in
    subst (λ (t : ReplayState). MayBeDropped (session_of i t) (settled (settling b.rest) (session_of i here))) (sym parts)
    (session-rest i here b.rest (omega (arith, length-replay start seen, range)) (due-rest start seen b.rest (subst (AreLandingsDue start) (sym b.is) due)) b.lacks)

own-doubt : (b : Bool) (a : Session) (x : Session) → cond b (Some a) None ≡ Some x → b ≡ true
own-doubt true a x is = refl
own-doubt false a x is = absurd (no_some x is)

kept-doubt : (i : ℕ) (keeps : Bool) (doubt : Option Doubt) (t s : MachineState) (x : Session) → session_if_landed i t (elim keeps as (λ _. Option Doubt) [ true ↦ doubt | false ↦ None ]) ≡ Some x
    → (y : Session) × (session_if_landed i s doubt ≡ Some y)
kept-doubt i true None t s x is = absurd (no_some x is)
kept-doubt i true (Some doubt) t s x is =
    let own = own-doubt (doubt.session == i) (session_landed t i doubt.call) x is in
    (session_landed s i doubt.call, cond-true (doubt.session == i) (Some (session_landed s i doubt.call)) None own)
kept-doubt i false doubt t s x is = absurd (no_some x is)

landed-none : (i : ℕ) (s : ReplayState) (doubt : Option Doubt) (x : Session) → s.doubt ≡ doubt → session_if_landed i (replay_landed s doubt).state (replay_landed s doubt).doubt ≡ Some x → ⊥
landed-none i s None x none is = no_some x (sym (ap (session_if_landed i s.state) none) ∙ is)
landed-none i s (Some doubt) x some_ is = no_some x is

session-one : (i : ℕ) (s : ReplayState) (r : HistoryRecord) (x : Session) → (session_of i (next s r)).if_landed ≡ Some x
    → (is_doubtful r.event ≡ true) ⊎ ((settles r.event ≡ false) × (y : Session) × ((session_of i s).if_landed ≡ Some y))
session-one i s r x is = one r.event is
  where
    one : (event : Event) → (session_of i (replay_after s event (file_of r))).if_landed ≡ Some x → (is_doubtful event ≡ true) ⊎ ((settles event ≡ false) × (y : Session) × ((session_of i s).if_landed ≡ Some y))
    one (CallEvent j number call reply Unchanged) e =
        let was = kept-doubt i (keeps_doubt reply) s.doubt (state_unless_undone s.state j call reply) s.state x e in
        inr (refl, was.0, was.1)
    one (CallEvent j number call reply (Made commit)) e = absurd (no_some x e)
    one (CallEvent j number call reply (Doubtful commit)) e = inl refl
    one (Landed commit) e = absurd (landed-none i s s.doubt x refl e)

-- a session is in doubt only while the records have a doubt open
session-doubt : (i : ℕ) (start : ReplayState) (seen : List HistoryRecord) → start.doubt ≡ None → IsDoubtOf seen (session_of i (replay start seen))
session-doubt i start seen none = λ x is.
    elim (doubt-within next (session_of i) (session-one i) start seen x (ap (λ (s : ReplayState). (session_of i s).if_landed) (sym (replay-fold start seen)) ∙ is)) [
      | inl d ↦ d
      | inr left ↦ absurd (no_some left.1 (sym (ap (session_if_landed i start.state) none) ∙ left.2))
    ]

module _ (start : ReplayState) (gate : GateView) (pass : PassView) (fits : PassFits gate pass) (none : start.doubt ≡ None) (range : pass.session < length start.state.sessions) (due : AreLandingsDue start gate.all) where
  abbrev At : Pending Session → Pending Session
  At p = open_from gate.decided gate.all p

  place : At (settled (settling fits.sees.begins.rest) (session_of pass.session (replay start pass.seen)))
      ≡ At (settled (settling fits.sees.begins.rest) (session_from pass.decided pass.session start pass.seen))
  place =
      view-place (is_of_session pass.session) pass.decided pass.seen gate fits.sees (session_of pass.session (replay start pass.seen))
      (session-doubt pass.session start pass.seen none)

  pub session-told : MayBeDropped (session_from gate.decided pass.session start gate.all)
      (open_from gate.decided gate.all (settled (settling fits.sees.begins.rest) (session_from pass.decided pass.session start pass.seen)))
  session-told = elim (session-whole pass.session start pass.seen gate.all fits.sees.begins range due) [
    | inl e ↦ inl (ap At e ∙ place)
    | inr e ↦ inr (ap At e ∙ open-dropped gate.decided gate.all (settled (settling fits.sees.begins.rest) (session_of pass.session (replay start pass.seen))) ∙ ap dropped place)
  ]

  pub session-stays : (session : Session) → session_from pass.decided pass.session start pass.seen ≡ calm session → session_from gate.decided pass.session start gate.all ≡ calm session
  session-stays session is =
      let there : At (settled (settling fits.sees.begins.rest) (session_from pass.decided pass.session start pass.seen)) ≡ calm session =
      ap (λ (p : Pending Session). At (settled (settling fits.sees.begins.rest) p)) is
      ∙ ap At (calm-settled session (settling fits.sees.begins.rest)) ∙ open-calm gate.decided gate.all session in
      elim session-told [ inl e ↦ e ∙ there | inr e ↦ e ∙ ap dropped there ]

due-event : (tampered : List ℕ) (s : ReplayState) (event : Event) (file : Option ℕ) → IsLegalEvent tampered s event file → is_landing event ≡ true → is_some s.doubt ≡ true
due-event tampered s (CallEvent j number call reply mark) file legal lands = absurd (true≢false (sym lands))
due-event tampered s (Landed commit) file legal lands = ap is_some legal.is_open

pub legal-due : (tampered : List ℕ) (s : ReplayState) (records : List HistoryRecord) → IsLegalFrom tampered s records → AreLandingsDue s records
legal-due tampered s [] legal = tt
legal-due tampered s (r ∷ records) legal = (due-event tampered s r.event (file_of r) legal.0, legal-due tampered (next s r) records legal.1)
