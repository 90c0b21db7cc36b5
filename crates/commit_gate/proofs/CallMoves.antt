-- A session behind its own call.
use Rattle.std.proofs.Common.{◌≡◌, ◌+◌, ◌≤◌, ◌<◌, ◌^◌, ◌&&◌, ℕ, Bool, true, false, not, true≢false, List, [], ◌∷◌, ◌++◌, length, Option, Some, None, refl, sym, ap, ◌∙◌, subst, inl, inr, eq-eqb}
use Rattle.tee_types.specs.declared.call.Call.{Call}
use Rattle.tee_types.specs.declared.call.Call.TheVariants.{Delete, Rename}
use Rattle.tee_types.specs.declared.reply.Reply.{Reply}
use Rattle.tee_types.specs.declared.reply.Reply.TheVariants.{Misuse, NotAvailable}
use Rattle.store_model.specs.declared.event.Event.{Event}
use Rattle.store_model.specs.declared.event.Event.TheVariants.{Call as CallEvent}
use Rattle.store_model.specs.declared.event.Mark.{Mark}
use Rattle.store_model.specs.declared.event.Mark.TheVariants.{Unchanged, Made, Doubtful}
use Rattle.store_model.specs.declared.session.Handle.{Handle}
use Rattle.store_model.specs.Calls.{state_after}
use Rattle.store_model.specs.Doubt.{Doubt, follows, session_landed}
use Rattle.store_model.specs.Files.{reads_file}
use Rattle.store_model.specs.Legal.{Answered, IsLegalAnswer, Unavailable, Unresolved, counter_after, mark_of, meant_by, needs_file, stands_for_doubt}
use Rattle.store_model.specs.Machine.{MachineState, Session, handle_at, session_at}
use Rattle.store_model.specs.Record.{fault_in_reply, file_of}
use Rattle.store_model.specs.ReplayState.{ReplayState, is_undone, keeps_doubt, replay_after}
use Rattle.history_seats.specs.Records.{HistoryRecord, is_event_of}
use Rattle.history_seats.specs.Settling.{HasMark, Pending, calm, is_doubtful, open_from, settles}
use Rattle.history_seats.proofs.Lists.{or_false}
use Rattle.history_seats.specs.Sessions.{session_of}
use Rattle.history_seats.specs.Known.{session_from}
use Rattle.history_seats.specs.Views.{GateView, PassView, Sight}
use Rattle.history_seats.specs.Changes.{pass_renewed, with_record, call_record}
use Rattle.history_seats.specs.Rule.{PassFits}
use Rattle.history_seats.proofs.OpenDoubts.{unchanged-settles}
use Rattle.history_seats.proofs.Places.{open-now, open-snoc}
use Rattle.core_laws.specs.TamperScenarios.{TamperScenario}
use Rattle.core_laws.specs.Stores.{Store, replay_at, start_under}
use Rattle.core_laws.specs.Answered.{AreAnswered, IsFairAt, IsFairHistory}
use Rattle.core_laws.specs.CallLaws.{SessionGoesOn, session_renewed}
use Rattle.core_laws.specs.Sessions.{Extends, IsSessionOf, SessionValue}
use Rattle.core_laws.proofs.Answers.{answered-front, answered-last, replay_state-snoc}
use Rattle.core_laws.proofs.CallSessions.{calls_extend}
use Rattle.core_laws.proofs.SessionSteps.{doubtful_stands, made_stands, sessions_at, unchanged_stands}
use Rattle.commit_gate.specs.declared.own_doubt.OwnDoubt.{OwnDoubt}
use Rattle.commit_gate.specs.CallerSessions.{CallerSession, HasOwnDoubt, IsCallerOf, IsOwnDoubt, landed_by, landing_of_call, pending_of, renamed, session_value}
use Rattle.commit_gate.specs.SessionViews.{SeesAll, pass_shown}
use Rattle.commit_gate.specs.JournalCalls.{DoubtfulCallsMove, HasDone, HasMoved, IsHeldUp, IsMovedBy, IsToldAlone, MadeCallsMove, UnchangedCallsMove, session_unless_undone}
use Rattle.commit_gate.proofs.SessionDoubts.{longer-own}
use Rattle.commit_gate.proofs.MadeCommits.{made_due}
use Rattle.commit_gate.proofs.SessionShowing.{some_same}

none_some : {A : Type 0} (a : A) → None ≡ Some a → ⊥
none_some a e = cc

module _ {E : Type 0} (store : Store) (gate : GateView) (r : HistoryRecord) (s : CallerSession E) (moved : IsMovedBy store gate r s) where
  -- the session with its seat and its count renewed
  abbrev pub appended : CallerSession E
  appended = record s { pass = pass_shown (with_record r gate) s.pass; made = s.made + 1 }

  module _ (fits : PassFits gate moved.was.pass.knows) (call : Call) (reply : Reply) (mark : Mark) (event : r.event ≡ CallEvent s.number s.made call reply mark)
      (fair : IsFairHistory store (gate.all ++ r ∷ [])) where
    abbrev before : SessionValue
    before = record (session_value s) { state = moved.before }

    goes : SessionGoesOn store before (session_renewed (with_record r gate) moved.was.pass (s.made + 1) (pending_of s.state s.doubt)) r (length gate.all)
    goes = calls_extend store before moved.was gate fits r call reply mark event fair (pending_of s.state s.doubt) moved.application moved.moves

    seat : Some (record { table = moved.was.pass.table; knows = pass_renewed (with_record r gate) moved.was.pass.knows }) ≡ pass_shown (with_record r gate) s.pass
    seat = sym (ap (pass_shown (with_record r gate)) moved.was.is)

    same : session_renewed (with_record r gate) moved.was.pass (s.made + 1) (pending_of s.state s.doubt) ≡ session_value appended
    same = λ i. record { pass = seat i; number = sym moved.was.number i; made = s.made + 1; state = pending_of s.state s.doubt }

    extended : Extends store before (session_value appended) r.event (length gate.all)
    extended = subst (λ (v : SessionValue). Extends store before v r.event (length gate.all)) same goes.extends

    -- it is the store's
    pub appended-caller : IsCallerOf store appended
    appended-caller = record {
      session = subst (IsSessionOf store) same goes.is;
      doubt = λ pass of_pass.
          subst (λ (p : Sight PassView). HasOwnDoubt s (p.knows).seen (p.knows).decided)
          (some_same (record { table = moved.was.pass.table; knows = pass_renewed (with_record r gate) moved.was.pass.knows }) pass (seat ∙ of_pass)) moved.doubt;
    }

    -- and its view extends the one before
    pub appended-extends : Extends store (session_value s) (session_value appended) (CallEvent s.number s.made call reply mark) (length gate.all)
    appended-extends = record {
      old = extended.old;
      new = extended.new;
      was = extended.was;
      is = extended.is;
      between = extended.between;
      last = extended.last;
      extends = extended.extends;
      event_is = extended.event_is ∙ event;
      none_between = extended.none_between;
      at = extended.at;
      decided = extended.decided;
      fair = extended.fair;
      number = extended.number;
    }

-- A call that is answered with no object's file is fair.
module _ (store : Store) (scenario : TamperScenario) (all : List HistoryRecord) (number made : ℕ) (call : Call) (reply : Reply) where
  abbrev here : ReplayState
  here = replay_at store scenario all

  held-alone : IsHeldUp here number call reply → needs_file here number call reply Unchanged ≡ false
  held-alone held =
      ap (λ (x : Reply). needs_file here number call x Unchanged) held.replied
      ∙ ap (λ (d : Option Doubt). not (stands_for_doubt d (NotAvailable held.cause) Unchanged) && reads_file call (meant_by here number call)) held.due.is_open
      ∙ ap (λ (b : Bool). not b && reads_file call (meant_by here number call)) held.due.of_card

  alone-file : IsToldAlone here number call reply → needs_file here number call reply Unchanged ≡ false
  alone-file (inl meant) = meant.alone
  alone-file (inr held) = held-alone held

  alone-answer : IsToldAlone here number call reply → IsLegalAnswer scenario.tampered here number call reply Unchanged None
  alone-answer (inl meant) = Answered (record {
    replied = meant.replied;
    marked = sym (ap (mark_of here.counter) meant.unchanged);
    counted = subst (λ (b : Bool). counter_after here.counter b < 2 ^ 32) (sym meant.unchanged) meant.counted;
  })
  alone-answer (inr held) = Unavailable (record { cause = held.cause; replied = held.replied; marked = refl; due = Unresolved held.due })

  pub alone-fair : number < length store.mounted.applications → fault_in_reply reply ≡ None → (AreAnswered store scenario all → IsToldAlone here number call reply)
      → IsFairAt store scenario all (call_record number made call reply Unchanged None)
  alone-fair known no_fault told answered owed =
      inl (inl (record {
        legal = record {
          declared = subst (λ (n : ℕ). number < n) (sym (sessions_at store scenario all)) known;
          tagged = record {
            own = λ file is. absurd (none_some file is);
            needed = λ needs none. absurd (true≢false (sym needs ∙ alone-file (told answered)));
            fault = λ file is. absurd (none_some file (sym no_fault ∙ is));
          };
          answer = alone-answer (told answered);
        };
        kept = λ commits_. absurd (true≢false (sym commits_));
      }))

undone-kept : (reply : Reply) → keeps_doubt reply ≡ true → is_undone reply ≡ true
undone-kept (Misuse reason) e = refl
undone-kept (NotAvailable cause) e = refl
undone-kept _ e = absurd (true≢false (sym e))

follows-is : (state : MachineState) (i number : ℕ) (id : List ℕ) (handle : Option Handle) → follows state i number id handle ≡ renamed (session_at state i) number id handle
follows-is state i number id None = refl
follows-is state i number id (Some handle) = refl

-- what a landing does to the session
landed-is : (state : MachineState) (i : ℕ) (call : Call) → session_landed state i call ≡ landed_by (session_at state i) (landing_of_call call)
landed-is state i (Delete handle) = refl
landed-is state i (Rename handle id) = follows-is state i handle id (handle_at (session_at state i) handle)
landed-is state i _ = refl

-- A session that sees the whole history stands there as it says.
module _ {E : Type 0} (store : Store) (gate : GateView) (s : CallerSession E) (x : IsCallerOf store s) (sees : SeesAll gate s.pass) (scenario : TamperScenario) (answered : AreAnswered store scenario gate.all) where
  seat-is : x.session.pass ≡ sees.seat
  seat-is = some_same x.session.pass sees.seat (sym x.session.is ∙ sees.is)

  pub stands-whole : session_from gate.decided s.number (start_under store scenario) gate.all ≡ pending_of s.state s.doubt
  stands-whole =
      let seen : gate.all ≡ x.session.pass.knows.seen = sym (ap (λ (p : Sight PassView). (p.knows).seen) seat-is ∙ sees.whole) in
      let decided : gate.decided ≡ x.session.pass.knows.decided = sym (ap (λ (p : Sight PassView). (p.knows).decided) seat-is ∙ sees.place) in
      (λ i. session_from (decided i) s.number (start_under store scenario) (seen i))
      ∙ x.session.state scenario (subst (AreAnswered store scenario) seen answered)

  pub stands-now : session_at (replay_at store scenario gate.all).state s.number ≡ s.state
  stands-now =
      sym (open-now gate.decided gate.all (session_of s.number (replay_at store scenario gate.all)))
      ∙ ap (λ (p : Pending Session). p.now) stands-whole

-- its commit in doubt stays its own behind a call that commits nothing
own-stays : {E : Type 0} (store : Store) (gate : GateView) (r : HistoryRecord) (s : CallerSession E) (x : IsCallerOf store s) → SeesAll gate s.pass → HasMark Unchanged r.event
    → HasOwnDoubt s (gate.all ++ r ∷ []) gate.decided
own-stays store gate r s x sees unchanged doubt has =
    let own : IsOwnDoubt s.number (sees.seat.knows).seen (sees.seat.knows).decided doubt.place = x.doubt sees.seat sees.is doubt has in
    longer-own s.number (sees.seat.knows).seen (r ∷ []) (gate.all ++ r ∷ []) (sees.seat.knows).decided gate.decided doubt.place own
    (ap (λ (l : List HistoryRecord). l ++ r ∷ []) sees.whole) (or_false (settles r.event) false (unchanged-settles r.event unchanged) refl) (subst (λ (n : ℕ). n ≤ doubt.place) sees.place own.late)

module _ {E : Type 0} (store : Store) (gate : GateView) (r : HistoryRecord) (call : Call) (reply : Reply) (s : CallerSession E) (within : gate.decided ≤ length gate.all) where
  marked : (mark : Mark) → r.event ≡ CallEvent s.number s.made call reply mark → HasMark mark r.event
  marked mark event = subst (HasMark mark) (sym event) refl

  -- where the replay stands behind the call
  behind : (mark : Mark) (scenario : TamperScenario) → r.event ≡ CallEvent s.number s.made call reply mark
      → replay_at store scenario (gate.all ++ r ∷ []) ≡ replay_after (replay_at store scenario gate.all) (CallEvent s.number s.made call reply mark) (file_of r)
  behind mark scenario event =
      replay_state-snoc store scenario gate.all r ∙ ap (λ (e : Event). replay_after (replay_at store scenario gate.all) e (file_of r)) event

  module _ (event : r.event ≡ CallEvent s.number s.made call reply Unchanged) (keeps : (doubt : OwnDoubt) → s.doubt ≡ Some doubt → keeps_doubt reply ≡ true)
      (moved : HasMoved store gate (session_unless_undone s.number call reply) s) where
    module _ (scenario : TamperScenario) (answered : AreAnswered store scenario (gate.all ++ r ∷ [])) where
      front : AreAnswered store scenario gate.all
      front = answered-front store scenario gate.all (r ∷ []) answered

      stands : session_from gate.decided s.number (start_under store scenario) gate.all ≡ pending_of moved.before s.doubt
      stands = stands-whole store gate (record s { state = moved.before }) moved.was moved.sees scenario front

      now : session_at (replay_at store scenario gate.all).state s.number ≡ moved.before
      now = stands-now store gate (record s { state = moved.before }) moved.was moved.sees scenario front

      -- the reply leaves where the replay stands
      kept : keeps_doubt reply ≡ true → replay_at store scenario (gate.all ++ r ∷ []) ≡ replay_at store scenario gate.all
      kept keeps_ =
          let here = replay_at store scenario gate.all in
          let undone = undone-kept reply keeps_ in
          behind Unchanged scenario event
          ∙ (λ i. record here {
            state = elim (undone i) as (λ _. MachineState) [ true ↦ here.state | false ↦ state_after here.state s.number call ];
            doubt = elim (keeps_ i) as (λ _. Option Doubt) [ true ↦ here.doubt | false ↦ None ];
          })

      by_doubt : (o : Option OwnDoubt) → s.doubt ≡ o → session_from gate.decided s.number (start_under store scenario) (gate.all ++ r ∷ []) ≡ pending_of s.state o
      by_doubt None has =
          unchanged_stands store scenario gate.all s.number gate.decided r moved.before within (marked Unchanged event) (stands ∙ ap (pending_of moved.before) has)
          ∙ ap (λ (x : Session). calm x) (ap (λ (t : ReplayState). session_at t.state s.number) (behind Unchanged scenario event) ∙ moved.moves scenario front)
      by_doubt (Some d) has =
          let keeps_ = keeps d has in
          let here = replay_at store scenario gate.all in
          let same : moved.before ≡ s.state =
          sym now ∙ ap (λ (b : Bool). session_at (elim b as (λ _. MachineState) [ true ↦ here.state | false ↦ state_after here.state s.number call ]) s.number) (sym (undone-kept reply keeps_))
          ∙ moved.moves scenario front in
          ap (λ (t : ReplayState). open_from gate.decided (gate.all ++ r ∷ []) (session_of s.number t)) (kept keeps_)
          ∙ open-snoc gate.decided gate.all r (session_of s.number here) (unchanged-settles r.event (marked Unchanged event)) within
          ∙ stands
          ∙ (λ i. pending_of (same i) (has i))

    pub unchanged-moves : IsMovedBy store gate r s
    unchanged-moves = record {
      before = pending_of moved.before s.doubt;
      was = moved.was.session;
      application = moved.application ∙ moved.was.session.application;
      moves = λ scenario answered. by_doubt scenario answered s.doubt refl;
      doubt = own-stays store gate r (record s { state = moved.before }) moved.was moved.sees (marked Unchanged event);
    }

  made-record : (mark : Mark) → r.event ≡ CallEvent s.number s.made call reply mark → record { event = CallEvent s.number s.made call reply mark; tag = r.tag } ≡ r
  made-record mark event = λ i. record { event = sym event i; tag = r.tag }

  pub made-moves : (commit : ℕ) → r.event ≡ CallEvent s.number s.made call reply (Made commit) → s.doubt ≡ None → HasDone store gate call s → IsMovedBy store gate r s
  made-moves commit event none moved = record {
    before = pending_of moved.before s.doubt;
    was = moved.was.session;
    application = moved.application ∙ moved.was.session.application;
    moves = λ scenario answered.
        let due = made_due store scenario gate.all r s.number s.made call reply commit event (answered-last store scenario gate.all r answered) in
        subst (λ (x : HistoryRecord). session_from gate.decided s.number (start_under store scenario) (gate.all ++ x ∷ []) ≡ calm (session_at (replay_at store scenario (gate.all ++ x ∷ [])).state s.number))
        (made-record (Made commit) event) (made_stands store scenario gate.all s.number gate.decided s.number s.made call reply commit r.tag within)
        ∙ ap (λ (x : Session). calm x)
        (ap (λ (t : ReplayState). session_at t.state s.number) (behind (Made commit) scenario event)
        ∙ moved.moves scenario (answered-front store scenario gate.all (r ∷ []) answered) due)
        ∙ ap (pending_of s.state) (sym none);
    doubt = λ doubt has. absurd (none_some doubt (sym none ∙ has));
  }

  pub doubtful-moves : (commit : ℕ) → r.event ≡ CallEvent s.number s.made call reply (Doubtful commit) → (x : IsCallerOf store s) → s.doubt ≡ None → SeesAll gate s.pass
      → IsMovedBy store gate r (record s { doubt = Some (record { place = length gate.all; landing = landing_of_call call }) })
  doubtful-moves commit event x none sees = record {
    before = pending_of s.state s.doubt;
    was = x.session;
    application = x.session.application;
    moves = λ scenario answered.
        let now : session_at (replay_at store scenario gate.all).state s.number ≡ s.state = stands-now store gate s x sees scenario (answered-front store scenario gate.all (r ∷ []) answered) in
        subst (λ (y : HistoryRecord). session_from gate.decided s.number (start_under store scenario) (gate.all ++ y ∷ [])
        ≡ record { now = session_at (replay_at store scenario gate.all).state s.number; if_landed = Some (session_landed (replay_at store scenario gate.all).state s.number call) })
        (made-record (Doubtful commit) event) (doubtful_stands store scenario gate.all s.number gate.decided s.made call reply commit r.tag within)
        ∙ (λ i. record { now = session_at (replay_at store scenario gate.all).state s.number; if_landed = Some (landed-is (replay_at store scenario gate.all).state s.number call i) })
        ∙ (λ i. record { now = now i; if_landed = Some (landed_by (now i) (landing_of_call call)) });
    doubt = λ doubt has.
        subst (λ (d : OwnDoubt). IsOwnDoubt s.number (gate.all ++ r ∷ []) gate.decided d.place) (some_same (record { place = length gate.all; landing = landing_of_call call }) doubt has)
        (record {
          front = gate.all;
          doubted = r;
          back = [];
          is = refl;
          at = refl;
          own = ap (is_event_of s.number) event ∙ eq-eqb s.number s.number refl;
          doubtful = ap is_doubtful event;
          last = refl;
          late = within;
        });
  }

pub unchanged_move : (E : Type 0) → UnchangedCallsMove E
unchanged_move E store gate r call reply s within event keeps moved = unchanged-moves store gate r call reply s within event keeps moved

pub made_move : (E : Type 0) → MadeCallsMove E
made_move E store gate r call reply commit s within event none moved = made-moves store gate r call reply s within commit event none moved

pub doubtful_move : (E : Type 0) → DoubtfulCallsMove E
doubtful_move E store gate r call reply commit s within event x none sees = doubtful-moves store gate r call reply s within commit event x none sees
