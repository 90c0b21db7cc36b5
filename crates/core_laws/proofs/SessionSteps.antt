-- What a view tells of its session after the whole history, where that is answered, and what an event of its own leaves.
use Rattle.std.proofs.Common.{◌≡◌, ◌<◌, ◌≤◌, ◌==◌, ℕ, Bool, true, false, true≢false, cond, List, [], ◌∷◌, ◌++◌, length, drop, Option, Some, None, is_some, refl, sym, ap, ◌∙◌, subst, inl, inr, arith, append_assoc, eq-eqb}
use Rattle.std.proofs.lemmas.List.{length-map}
use Rattle.store_model.specs.declared.event.Event.{Event}
use Rattle.store_model.specs.declared.event.Event.TheVariants.{Call as CallEvent, Landed}
use Rattle.store_model.specs.declared.event.Mark.{Mark}
use Rattle.store_model.specs.declared.event.Mark.TheVariants.{Unchanged, Made, Doubtful}
use Rattle.tee_types.specs.declared.call.Call.{Call}
use Rattle.tee_types.specs.declared.reply.Reply.{Reply}
use Rattle.store_model.specs.Machine.{MachineState, Session, new_session, session_at}
use Rattle.store_model.specs.Doubt.{Doubt, session_landed}
use Rattle.store_model.specs.Record.{Tag, file_of}
use Rattle.store_model.specs.ReplayState.{ReplayState, keeps_doubt, replay_after}
use Rattle.store_model.proofs.Sessions.{length-replay}
use Rattle.history_seats.specs.Records.{HistoryRecord, Version}
use Rattle.history_seats.specs.Settling.{HasMark, Pending, calm, dropped, is_landing, open_from, settled, settling}
use Rattle.history_seats.specs.Sessions.{session_if_landed, session_of}
use Rattle.history_seats.specs.SessionLaws.{AreLandingsDue, MayBeDropped}
use Rattle.history_seats.specs.Known.{session_from}
use Rattle.history_seats.specs.Views.{GateView, PassView}
use Rattle.history_seats.specs.Rule.{PassFits}
use Rattle.history_seats.proofs.OpenDoubts.{unchanged-settles}
use Rattle.history_seats.proofs.Places.{any-at, any_settles, open-calm, open-snoc}
use Rattle.history_seats.proofs.SessionParts.{legal-due, session-stays, session-told}
use Rattle.core_laws.specs.TamperScenarios.{TamperScenario}
use Rattle.core_laws.specs.Stores.{Store, replay_at, start_under}
use Rattle.core_laws.specs.Answered.{AreAnswered, IsAnsweredAt}
use Rattle.core_laws.specs.SessionLaws.{DoubtfulSessionsStand, MadeSessionsStand, UnchangedSessionsStand}
use Rattle.core_laws.proofs.Answers.{replay_state-snoc}

module _ (store : Store) (scenario : TamperScenario) where
  -- a phase has a session for each application
  pub sessions_at : (records : List HistoryRecord) → length (replay_at store scenario records).state.sessions ≡ length store.mounted.applications
  sessions_at records = length-replay (start_under store scenario) records ∙ length-map store.mounted.applications new_session

  due-one : (before : List HistoryRecord) (r : HistoryRecord) → IsAnsweredAt store scenario before r → is_landing r.event ≡ true → is_some (replay_at store scenario before).doubt ≡ true
  due-one before r (inl legal) lands = (legal-due scenario.tampered (replay_at store scenario before) (r ∷ []) (legal.legal, tt)).0 lands
  due-one before r (inr clash) lands = absurd (true≢false (sym lands ∙ ap is_landing clash.told.given.is))

  due-from : (front rest : List HistoryRecord) → AreAnswered store scenario (front ++ rest) → AreLandingsDue (replay_at store scenario front) rest
  due-from front [] answered = tt
  due-from front (r ∷ rest) answered = (
    due-one front r (answered front r rest refl),
    subst (λ (s : ReplayState). AreLandingsDue s rest) (replay_state-snoc store scenario front r)
        (due-from (front ++ r ∷ []) rest (subst (AreAnswered store scenario) (sym (append_assoc front (r ∷ []) rest)) answered)),
  )

  -- each landing of an answered history stands where a doubt is open
  pub answered_due : (records : List HistoryRecord) → AreAnswered store scenario records → AreLandingsDue (start_under store scenario) records
  answered_due records answered = due-from [] records answered

  module _ (gate : GateView) (pass : PassView) (fits : PassFits gate pass) (known : pass.session < length store.mounted.applications) (answered : AreAnswered store scenario gate.all) where
    range : pass.session < length (start_under store scenario).state.sessions
    range = omega (arith, known, length-map store.mounted.applications new_session)

    -- the session after the whole history is what the view tells, settled or dropped
    pub told_session : MayBeDropped (session_from gate.decided pass.session (start_under store scenario) gate.all)
        (open_from gate.decided gate.all (settled (settling fits.sees.begins.rest) (session_from pass.decided pass.session (start_under store scenario) pass.seen)))
    told_session = session-told (start_under store scenario) gate pass fits refl range (answered_due gate.all answered)

    -- one that no doubt touches stands
    pub calm_session : (session : Session) → session_from pass.decided pass.session (start_under store scenario) pass.seen ≡ calm session
        → session_from gate.decided pass.session (start_under store scenario) gate.all ≡ calm session
    calm_session session is = session-stays (start_under store scenario) gate pass fits refl range (answered_due gate.all answered) session is

  module _ (all : List HistoryRecord) (i z : ℕ) (within : z ≤ length all) where
    abbrev here : ReplayState
    here = replay_at store scenario all

    abbrev start : ReplayState
    start = start_under store scenario

    -- one session reads a doubt by whether it is its own
    own-doubt : (doubt : Option Doubt) (s t : MachineState) → session_if_landed i s doubt ≡ None → session_if_landed i t doubt ≡ None
    own-doubt None s t none = refl
    own-doubt (Some d) s t none = by_own (d.session == i) none
      where
        by_own : (b : Bool) → cond b (Some (session_landed s i d.call)) None ≡ None → cond b (Some (session_landed t i d.call)) None ≡ None
        by_own true e = absurd (cc (e))
        by_own false e = refl

    calm-left : (p : Pending Session) (x : Session) (b : Bool) → cond b p (dropped p) ≡ calm x → (b ≡ true → p.if_landed ≡ None)
    calm-left p x true is e = ap (λ (q : Pending Session). q.if_landed) is
    calm-left p x false is e = absurd (true≢false (sym e))

    calm-by : (q : Pending Session) (b : Bool) → (b ≡ true → q.if_landed ≡ None) → cond b q (dropped q) ≡ calm q.now
    calm-by q true none = λ k. record { now = q.now; if_landed = none refl k }
    calm-by q false none = refl

    unchanged-doubt : (event : Event) (file : Option ℕ) → HasMark Unchanged event → (s : ReplayState) → session_if_landed i s.state s.doubt ≡ None
        → session_if_landed i (replay_after s event file).state (replay_after s event file).doubt ≡ None
    unchanged-doubt (Landed commit) file is s none = absurd is
    unchanged-doubt (CallEvent session number call reply mark) file is s none =
        subst (λ (m : Mark). session_if_landed i (replay_after s (CallEvent session number call reply m) file).state (replay_after s (CallEvent session number call reply m) file).doubt ≡ None) (sym is)
        (by_test (keeps_doubt reply))
      where
        by_test : (b : Bool) → session_if_landed i (replay_after s (CallEvent session number call reply Unchanged) file).state (elim b as (λ _. Option Doubt) [ true ↦ s.doubt | false ↦ None ]) ≡ None
        by_test true = own-doubt s.doubt s.state (replay_after s (CallEvent session number call reply Unchanged) file).state none
        by_test false = refl

    -- an event with mark Unchanged leaves a session untouched by a doubt so
    pub unchanged_session : (r : HistoryRecord) → HasMark Unchanged r.event → (x : Session) → session_from z i start all ≡ calm x
        → session_from z i start (all ++ r ∷ []) ≡ calm (session_at (replay_at store scenario (all ++ r ∷ [])).state i)
    unchanged_session r unchanged x is =
        let stands = replay_state-snoc store scenario all r in
        open-snoc z all r (session_of i (replay_at store scenario (all ++ r ∷ []))) (unchanged-settles r.event unchanged) within
        ∙ calm-by (session_of i (replay_at store scenario (all ++ r ∷ []))) (any_settles (drop z all))
        (λ open_.
        ap (λ (s : ReplayState). session_if_landed i s.state s.doubt) stands
        ∙ unchanged-doubt r.event (file_of r) unchanged here (calm-left (session_of i here) x (any_settles (drop z all)) is open_))

    -- a commit that is made leaves it where the machine does
    pub made_session : (session number : ℕ) (call : Call) (reply : Reply) (commit : ℕ) (tag : Option (Tag Version))
        → let after = all ++ record { event = CallEvent session number call reply (Made commit); tag = tag } ∷ [] in
        session_from z i start after ≡ calm (session_at (replay_at store scenario after).state i)
    made_session session number call reply commit tag =
        let r : HistoryRecord = record { event = CallEvent session number call reply (Made commit); tag = tag } in
        let stands = replay_state-snoc store scenario all r in
        let none : session_of i (replay_at store scenario (all ++ r ∷ [])) ≡ calm (session_at (replay_at store scenario (all ++ r ∷ [])).state i) =
        λ k. record { now = session_at (replay_at store scenario (all ++ r ∷ [])).state i; if_landed = session_if_landed i (replay_at store scenario (all ++ r ∷ [])).state (ap (λ (s : ReplayState). s.doubt) stands k) } in
        ap (open_from z (all ++ r ∷ [])) none ∙ open-calm z (all ++ r ∷ []) (session_at (replay_at store scenario (all ++ r ∷ [])).state i)

    -- one in doubt leaves its session where it stands, and its doubt with what the machine does
    pub doubtful_session : (number : ℕ) (call : Call) (reply : Reply) (commit : ℕ) (tag : Option (Tag Version))
        → session_from z i start (all ++ record { event = CallEvent i number call reply (Doubtful commit); tag = tag } ∷ [])
        ≡ record { now = session_at here.state i; if_landed = Some (session_landed here.state i call) }
    doubtful_session number call reply commit tag =
        let r : HistoryRecord = record { event = CallEvent i number call reply (Doubtful commit); tag = tag } in
        let p = session_of i (replay_at store scenario (all ++ r ∷ [])) in
        ap (λ (b : Bool). cond b p (dropped p)) (any-at z all r [] within refl)
        ∙ ap (session_of i) (replay_state-snoc store scenario all r)
        ∙ (λ k. record { now = session_at here.state i; if_landed = cond (eq-eqb i i refl k) (Some (session_landed here.state i call)) None })

pub unchanged_stands : UnchangedSessionsStand
unchanged_stands store scenario records i z r session within unchanged is = unchanged_session store scenario records i z within r unchanged session is

pub made_stands : MadeSessionsStand
made_stands store scenario records i z session number call reply commit tag within = made_session store scenario records i z within session number call reply commit tag

pub doubtful_stands : DoubtfulSessionsStand
doubtful_stands store scenario records i z number call reply commit tag within = doubtful_session store scenario records i z within number call reply commit tag
