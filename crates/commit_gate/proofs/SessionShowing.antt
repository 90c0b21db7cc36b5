-- A session that is shown the whole history is the store's again.
use Rattle.std.proofs.Common.{◌≡◌, ◌==◌, ◌+◌, ◌≤◌, ◌<◌, ℕ, Bool, true, false, true≢false, List, [], ◌∷◌, ◌++◌, length, drop, nat_lt, Option, Some, None, unwrap_or, slice_index_or, refl, sym, ap, ◌∙◌, subst, inl, inr, cond, arith, append_assoc}
use Rattle.std.proofs.lemmas.Bool.{cases_Bool, cond-true, cond-false}
use borrow.Author.Tests.{ltb-true, ltb-false}
use Rattle.store_model.specs.declared.event.Event.{Event}
use Rattle.store_model.specs.Doubt.{Doubt, session_landed}
use Rattle.store_model.specs.History.{count_of}
use Rattle.store_model.specs.Machine.{Session, handle_at}
use Rattle.store_model.specs.Record.{events_of}
use Rattle.store_model.specs.declared.session.Handle.{Handle}
use Rattle.history_seats.specs.Records.{HistoryRecord}
use Rattle.store_model.specs.declared.event.Mark.TheVariants.{Doubtful}
use Rattle.history_seats.specs.Settling.{HasMark, IsOpenDoubt, Pending, calm, dropped, is_landing, open_from, settled, settling}
use Rattle.history_seats.specs.Sessions.{session_if_landed, session_of}
use Rattle.history_seats.specs.SessionLaws.{MayBeDropped}
use Rattle.history_seats.specs.Known.{session_from}
use Rattle.history_seats.specs.Views.{GateView, PassView, Sight}
use Rattle.history_seats.specs.Changes.{pass_renewed}
use Rattle.history_seats.specs.Rule.{PassFits}
use Rattle.history_seats.proofs.Doubts.{marked-settles}
use Rattle.history_seats.proofs.Numbering.{count-begins}
use Rattle.history_seats.proofs.Places.{any-at, any-past, any_settles, open-calm, settling-none, settling-settles}
use Rattle.core_laws.specs.TamperScenarios.{TamperScenario}
use Rattle.core_laws.specs.Stores.{Store, replay_at, start_under}
use Rattle.core_laws.specs.Answered.{AreAnswered}
use Rattle.core_laws.specs.Sessions.{IsSessionOf, SessionValue}
use Rattle.core_laws.proofs.Answers.{answered-front}
use Rattle.core_laws.proofs.SessionSteps.{told_session}
use Rattle.commit_gate.specs.declared.own_doubt.Landing.{Landing}
use Rattle.commit_gate.specs.declared.own_doubt.Landing.TheVariants.{Nothing, Closes, Renames}
use Rattle.commit_gate.specs.declared.own_doubt.OwnDoubt.{OwnDoubt}
use Rattle.commit_gate.specs.declared.doubt_outcome.Settled.{Settled}
use Rattle.commit_gate.specs.declared.doubt_outcome.Settled.TheVariants.{Dropped, Landed, Open}
use Rattle.commit_gate.specs.Journals.{AreDoubtsHeld}
use Rattle.commit_gate.specs.Outcomes.{settled_as}
use Rattle.commit_gate.specs.CallerSessions.{CallerSession, IsCallerOf, IsOwnDoubt, landed_by, pending_of, renamed, session_value}
use Rattle.commit_gate.specs.SessionViews.{doubt_by, doubt_learnt, pass_shown, shown, state_by, state_learnt}
use Rattle.commit_gate.proofs.SessionDoubts.{commit-drops, doubt-number, drop-behind, landing-lands, longer-own, none-both, own-replay, settled-calm, settling-past}

pub some_same : {A : Type 0} (a b : A) → Some a ≡ Some b → a ≡ b
some_same a b e = ap (λ o. unwrap_or o a) e

some_none : {A : Type 0} (a : A) → Some a ≡ None → ⊥
some_none a e = cc

renamed-application : (s : Session) (number : ℕ) (id : List ℕ) (handle : Option Handle) → (renamed s number id handle).application ≡ s.application
renamed-application s number id None = refl
renamed-application s number id (Some handle) = refl

-- a landing leaves the application
landed-application : (s : Session) (landing : Landing) → (landed_by s landing).application ≡ s.application
landed-application s Nothing = refl
landed-application s (Closes handle) = refl
landed-application s (Renames handle id) = renamed-application s handle id (handle_at s handle)

module _ (store : Store) (gate : GateView) (s : SessionValue) (x : IsSessionOf store s) (fits : PassFits gate x.pass.knows) where
  -- what the view tells of the session after the whole history
  abbrev pub told_state : Pending Session
  told_state = open_from gate.decided gate.all (settled (settling fits.sees.begins.rest) s.state)

  pub view-tells : (scenario : TamperScenario) → AreAnswered store scenario gate.all → MayBeDropped (session_from gate.decided s.number (start_under store scenario) gate.all) told_state
  view-tells scenario answered =
      let start = start_under store scenario in
      let pass = x.pass.knows in
      let own : session_from pass.decided pass.session start pass.seen ≡ s.state =
      ap (λ (n : ℕ). session_from pass.decided n start pass.seen) (sym x.number)
      ∙ x.state scenario (answered-front store scenario pass.seen fits.sees.begins.rest (subst (AreAnswered store scenario) (sym fits.sees.begins.is) answered)) in
      subst (λ (n : ℕ). MayBeDropped (session_from gate.decided n start gate.all) told_state) (sym x.number)
      (subst (λ (p : Pending Session). MayBeDropped (session_from gate.decided pass.session start gate.all) (open_from gate.decided gate.all (settled (settling fits.sees.begins.rest) p))) own
      (told_session store scenario gate pass fits (subst (λ (n : ℕ). n < length store.mounted.applications) x.number x.known) answered))

  -- the session with a view of the whole history, in the state that it then has
  pub renewed : (pass : Option (Sight PassView)) → pass ≡ Some (record { table = x.pass.table; knows = pass_renewed gate x.pass.knows }) → (state : Pending Session)
      → (state.now).application ≡ slice_index_or store.mounted.applications s.number []
      → ((scenario : TamperScenario) → AreAnswered store scenario gate.all → session_from gate.decided s.number (start_under store scenario) gate.all ≡ state)
      → IsSessionOf store (record { pass = pass; number = s.number; made = s.made; state = state })
  renewed pass is state application stands = record {
    pass = record { table = x.pass.table; knows = pass_renewed gate x.pass.knows };
    is = is;
    table = x.table;
    mounted = x.mounted;
    number = x.number;
    known = x.known;
    application = application;
    made = x.made
        ∙ ap (λ (n : ℕ). count_of n (events_of x.pass.knows.seen)) x.number
        ∙ sym (count-begins x.pass.knows.session x.pass.knows.seen gate.all fits.sees.begins)
        ∙ ap (λ (n : ℕ). count_of n (events_of gate.all)) (sym x.number);
    state = stands;
  }

module _ {E : Type 0} (store : Store) (gate : GateView) (s : CallerSession E) (x : IsCallerOf store s) (fits : PassFits gate x.session.pass.knows) (held : AreDoubtsHeld store gate) where
  abbrev with_learnt : Session → Option OwnDoubt → CallerSession E
  with_learnt state doubt = record { pass = pass_shown gate s.pass; number = s.number; made = s.made; state = state; doubt = doubt; entropy = s.entropy }

  abbrev past : List HistoryRecord
  past = fits.sees.begins.rest

  abbrev tells : Pending Session
  tells = told_state store gate (session_value s) x.session fits

  calm-shown : (state : Session) → state.application ≡ s.state.application → tells ≡ calm state → IsCallerOf store (with_learnt state None)
  calm-shown state same is = record {
    session = renewed store gate (session_value s) x.session fits (pass_shown gate s.pass) (ap (pass_shown gate) x.session.is) (calm state) (same ∙ x.session.application)
        (λ scenario answered. by_told (view-tells store gate (session_value s) x.session fits scenario answered));
    doubt = λ pass of_pass doubt some_. absurd (some_none doubt (sym some_));
  }
    where
      by_told : {p : Pending Session} → MayBeDropped p tells → p ≡ calm state
      by_told (inl e) = e ∙ is
      by_told (inr e) = e ∙ ap dropped is

  module _ (d : OwnDoubt) (has : s.doubt ≡ Some d) where
    own : IsOwnDoubt s.number x.session.pass.knows.seen x.session.pass.knows.decided d.place
    own = x.doubt x.session.pass x.session.is d has

    abbrev pending : Pending Session
    pending = pending_of s.state (Some d)

    pending-is : (session_value s).state ≡ pending
    pending-is = ap (pending_of s.state) has

    whole : own.front ++ own.doubted ∷ (own.back ++ past) ≡ gate.all
    whole = sym (append_assoc own.front (own.doubted ∷ own.back) past) ∙ ap (λ (l : List HistoryRecord). l ++ past) own.is ∙ fits.sees.begins.is

    behind : settling (drop (d.place + 1) gate.all) ≡ settling past
    behind =
        ap (λ (n : ℕ). settling (drop (n + 1) gate.all)) (sym own.at)
        ∙ ap (λ (l : List HistoryRecord). settling (drop (length own.front + 1) l)) (sym whole)
        ∙ ap settling (drop-behind own.front own.doubted (own.back ++ past))
        ∙ settling-past own.back past own.last

    -- once it is settled
    calm-tells : (state : Session) → settled (settling past) pending ≡ calm state → tells ≡ calm state
    calm-tells state e =
        ap (λ (p : Pending Session). open_from gate.decided gate.all (settled (settling past) p)) pending-is
        ∙ ap (λ (p : Pending Session). open_from gate.decided gate.all p) e
        ∙ open-calm gate.decided gate.all state

    abbrev Learns : Settled → Type 0
    Learns w = IsCallerOf store (with_learnt (state_by w s.state d) (doubt_by w d))

    by_landing : (event : Event) → settling past ≡ Some event → (b : Bool) → is_landing event ≡ b → Learns (cond b Landed Dropped)
    by_landing event is true lands =
        calm-shown (landed_by s.state d.landing) (landed-application s.state d.landing)
        (calm-tells (landed_by s.state d.landing) (ap (λ (o : Option Event). settled o pending) is ∙ landing-lands event pending lands))
    by_landing event is false lands =
        calm-shown s.state refl
        (calm-tells s.state (ap (λ (o : Option Event). settled o pending) is ∙ commit-drops event pending (settling-settles past event is) lands))

    module _ (none : settling past ≡ None) where
      none-behind : any_settles (own.back ++ past) ≡ false
      none-behind = none-both own.back past own.last (settling-none past none)

      unsettled : tells ≡ open_from gate.decided gate.all pending
      unsettled =
          ap (λ (o : Option Event). open_from gate.decided gate.all (settled o (session_value s).state)) none
          ∙ ap (λ (p : Pending Session). open_from gate.decided gate.all p) pending-is

      -- below the place it is dropped
      below : length own.front < gate.decided → Learns Dropped
      below lt = calm-shown s.state refl (unsettled ∙ cond-false (any_settles (drop gate.decided gate.all)) pending (dropped pending) nothing)
        where
          nothing : any_settles (drop gate.decided gate.all) ≡ false
          nothing = elim (cases_Bool (any_settles (drop gate.decided gate.all))) [
            | inl some_ ↦
                absurd (true≢false (
                sym (any-past gate.decided own.front own.doubted (own.back ++ past) lt (ap (λ (l : List HistoryRecord). any_settles (drop gate.decided l)) whole ∙ some_))
                ∙ none-behind
                ))
            | inr e ↦ e
          ]

      -- else it is open
      above : gate.decided ≤ length own.front → Learns Open
      above le = record {
        session = renewed store gate (session_value s) x.session fits (pass_shown gate s.pass) (ap (pass_shown gate) x.session.is) pending x.session.application
            (λ scenario answered. by_told scenario answered (view-tells store gate (session_value s) x.session fits scenario answered));
        doubt = λ pass of_pass doubt some_.
            let seat : record { table = x.session.pass.table; knows = pass_renewed gate x.session.pass.knows } ≡ pass =
            some_same (record { table = x.session.pass.table; knows = pass_renewed gate x.session.pass.knows }) pass (sym (ap (pass_shown gate) x.session.is) ∙ of_pass) in
            let one : d ≡ doubt = some_same d doubt some_ in
            subst (λ (y : Sight PassView × OwnDoubt). IsOwnDoubt s.number ((y.0).knows).seen ((y.0).knows).decided (y.1).place) (λ i. (seat i, one i)) still;
      }
        where
          commit : (number : ℕ) × HasMark (Doubtful number) own.doubted.event
          commit = doubt-number own.doubted.event own.doubtful

          open_ : any_settles (drop gate.decided gate.all) ≡ true
          open_ =
              ap (λ (l : List HistoryRecord). any_settles (drop gate.decided l)) (sym whole)
              ∙ any-at gate.decided own.front own.doubted (own.back ++ past) le (marked-settles commit.0 own.doubted.event commit.1)

          still : IsOwnDoubt s.number gate.all gate.decided d.place
          still = longer-own s.number x.session.pass.knows.seen past gate.all x.session.pass.knows.decided gate.decided d.place own fits.sees.begins.is (settling-none past none) (omega (arith, own.at, le))

          stands : tells ≡ pending
          stands = unsettled ∙ cond-true (any_settles (drop gate.decided gate.all)) pending (dropped pending) open_

          is_open : IsOpenDoubt commit.0 gate.decided gate.all
          is_open = record { front = own.front; doubted = own.doubted; back = own.back ++ past; is = whole; marked = commit.1; last = none-behind; late = le }

          -- under each tamper scenario the replay has it open, so that it does not leave the session's state
          not_gone : (scenario : TamperScenario) → AreAnswered store scenario gate.all → session_from gate.decided s.number (start_under store scenario) gate.all ≡ dropped tells → ⊥
          not_gone scenario answered gone =
              let here = replay_at store scenario gate.all in
              let doubt = held commit.0 is_open scenario answered in
              let mine : (doubt.0.session == s.number) ≡ true =
              subst (λ (l : List HistoryRecord). (e : Doubt) → (replay_at store scenario l).doubt ≡ Some e → (e.session == s.number) ≡ true) whole
              (own-replay s.number (start_under store scenario) own.front own.doubted (own.back ++ past) own.own own.doubtful none-behind) doubt.0 doubt.1 in
              let left : session_if_landed s.number here.state here.doubt ≡ None =
              ap (λ (p : Pending Session). p.if_landed) (sym (cond-true (any_settles (drop gate.decided gate.all)) (session_of s.number here) (dropped (session_of s.number here)) open_) ∙ gone) in
              some_none (session_landed here.state s.number doubt.0.call) (
              sym (cond-true (doubt.0.session == s.number) (Some (session_landed here.state s.number doubt.0.call)) None mine)
              ∙ ap (session_if_landed s.number here.state) (sym doubt.1)
              ∙ left
              )

          by_told : (scenario : TamperScenario) → AreAnswered store scenario gate.all → MayBeDropped (session_from gate.decided s.number (start_under store scenario) gate.all) tells
              → session_from gate.decided s.number (start_under store scenario) gate.all ≡ pending
          by_told scenario answered (inl e) = e ∙ stands
          by_told scenario answered (inr e) = absurd (not_gone scenario answered e)

    by_event : (o : Option Event) → settling past ≡ o → (b : Bool) → nat_lt d.place gate.decided ≡ b → Learns (settled_as o b)
    by_event (Some event) is b test = by_landing event is (is_landing event) refl
    by_event None is true test = below is (omega (arith, own.at, ltb-true d.place gate.decided test))
    by_event None is false test = above is (omega (arith, own.at, ltb-false d.place gate.decided test))

  by_doubt : (o : Option OwnDoubt) → s.doubt ≡ o → IsCallerOf store (with_learnt (state_learnt gate s.state o) (doubt_learnt gate o))
  by_doubt None has =
      calm-shown s.state refl
      (ap (λ (o : Option OwnDoubt). open_from gate.decided gate.all (settled (settling past) (pending_of s.state o))) has
      ∙ ap (λ (p : Pending Session). open_from gate.decided gate.all p) (settled-calm (settling past) s.state)
      ∙ open-calm gate.decided gate.all s.state)
  by_doubt (Some d) has =
      subst (Learns d has) (sym (ap (λ (o : Option Event). settled_as o (nat_lt d.place gate.decided)) (behind d has)))
      (by_event d has (settling past) refl (nat_lt d.place gate.decided) refl)

  -- the session as it sees the whole history is the store's
  pub shown-caller : IsCallerOf store (shown gate s)
  shown-caller = by_doubt s.doubt refl
