-- What a session makes of a phase's calls, one after another.
use Rattle.std.proofs.Common.{◌≡◌, ◌+◌, ◌<◌, ℕ, List, [], ◌∷◌, ◌++◌, length, take, drop, get_or, Option, refl, sym, ap, ◌∙◌, subst, append_assoc, eq-eqb, length-append, arith}
use Rattle.std.proofs.lemmas.List.{append-nil, map-append, take-append-drop}
use Rattle.tee_types.specs.declared.call.Call.{Call}
use Rattle.store_model.specs.declared.event.Event.{Event}
use Rattle.store_model.specs.History.{calls_of}
use Rattle.store_model.specs.Record.{events_of}
use Rattle.history_seats.specs.Records.{HistoryRecord}
use Rattle.history_seats.specs.Views.{PassView, Sight}
use Rattle.core_laws.specs.Stores.{Store}
use Rattle.quota_store.specs.CallerSessions.{CallerSession, IsCallerOf}
use Rattle.quota_store.specs.declared.PlacedReply.{PlacedReply}
use Rattle.quota_store.specs.Attempts.{IsAnswered}
use Rattle.quota_store.specs.SessionEvents.{IsWaiting}
use Rattle.script_text.specs.declared.script.Step.{Step}
use Rattle.run_acts.specs.ServedSteps.{calls_in}
use Rattle.tee_types.specs.declared.reply.Device.TheVariants.{Entropy}
use Rattle.quota_store.specs.DeviceCounts.{Rise, draws_of, told_of}
use Rattle.quota_store.specs.Devices.{Grows}
use Rattle.quota_store.proofs.Rises.{Rise-append}
use Rattle.quota_store.specs.SharedCounts.{CarriesDraws}
use Rattle.run_acts.specs.OwnCalls.{HasMade, HasStopped, own_calls}
use Rattle.run_acts.specs.OwnDraws.{own_draws}
use Rattle.run_acts.specs.Seen.{seen_by}
use Rattle.run_acts.proofs.ThreadDraws.{carried-rise, draws_of-more, draws_of-quiet}
use Rattle.run_acts.proofs.Calls.{calls_in-append, calls_in-more, calls_of-append, calls_of-none}

-- a view that goes on by events of others
calls_of-quiet : (session : ℕ) (seen between : List HistoryRecord) → calls_of session (events_of between) ≡ [] → calls_of session (events_of (seen ++ between)) ≡ calls_of session (events_of seen)
calls_of-quiet session seen between none =
    ap (calls_of session) (map-append (λ (r : HistoryRecord). r.event) seen between)
    ∙ calls_of-append session (events_of seen) (events_of between)
    ∙ ap (λ (l : List Call). calls_of session (events_of seen) ++ l) none
    ∙ append-nil (calls_of session (events_of seen))

-- and by one more
calls_of-more : (session : ℕ) (seen between : List HistoryRecord) (last : HistoryRecord) → calls_of session (events_of between) ≡ []
    → calls_of session (events_of ((seen ++ between) ++ last ∷ [])) ≡ calls_of session (events_of seen) ++ calls_of session (last.event ∷ [])
calls_of-more session seen between last none =
    let event_of = λ (r : HistoryRecord). r.event in
    let own = calls_of session (last.event ∷ []) in
    ap (calls_of session) (map-append event_of (seen ++ between) (last ∷ []) ∙ ap (λ (l : List Event). l ++ last.event ∷ []) (map-append event_of seen between))
    ∙ calls_of-append session (events_of seen ++ events_of between) (last.event ∷ [])
    ∙ ap (λ (l : List Call). l ++ own)
    (calls_of-append session (events_of seen) (events_of between) ∙ ap (λ (l : List Call). calls_of session (events_of seen) ++ l) none ∙ append-nil (calls_of session (events_of seen)))

-- a session without events has no calls
pub unmade-own : {E : Type 0} (store : Store) (s : CallerSession E) → IsCallerOf store s → s.made ≡ 0 → own_calls s ≡ []
unmade-own store s caller none =
    ap (λ (p : Option (Sight PassView)). calls_of s.number (events_of (seen_by p))) caller.session.is
    ∙ calls_of-none s.number (events_of caller.session.pass.knows.seen) (sym caller.session.made ∙ none)

-- in the session's view the call that was answered stands behind those that it had, and one that waits is not there
module _ {E : Type 0} (store : Store) (was now : CallerSession E) where
  pub calls-answered : (call : Call) (answer : PlacedReply) → IsAnswered store was now call answer → own_calls now ≡ own_calls was ++ call ∷ []
  calls-answered call answer a =
      let e = a.appends.extends in
      ap (λ (n : ℕ). calls_of n (events_of (seen_by now.pass))) e.number
      ∙ ap (λ (pass : Option (Sight PassView)). calls_of was.number (events_of (seen_by pass))) e.is
      ∙ ap (λ (l : List HistoryRecord). calls_of was.number (events_of l)) e.extends
      ∙ calls_of-more was.number e.old.knows.seen e.between e.last (calls_of-none was.number (events_of e.between) e.none_between)
      ∙ ap (λ (l : List Call). calls_of was.number (events_of e.old.knows.seen) ++ l) own
      ∙ ap (λ (pass : Option (Sight PassView)). calls_of was.number (events_of (seen_by pass)) ++ call ∷ []) (sym e.was)
    where
      own : calls_of was.number (a.appends.extends.last.event ∷ []) ≡ call ∷ []
      own = ap (λ (event : Event). calls_of was.number (event ∷ [])) a.appends.extends.event_is ∙ rw (eq-eqb was.number was.number refl) refl

  pub calls-waiting : IsWaiting store was now → own_calls now ≡ own_calls was
  calls-waiting w =
      let c = w.goes_on.continues in
      ap (λ (n : ℕ). calls_of n (events_of (seen_by now.pass))) w.number
      ∙ ap (λ (pass : Option (Sight PassView)). calls_of was.number (events_of (seen_by pass))) c.has
      ∙ ap (λ (l : List HistoryRecord). calls_of was.number (events_of l)) (sym c.is)
      ∙ calls_of-quiet was.number c.was.knows.seen c.between (calls_of-none was.number (events_of c.between) c.none)
      ∙ ap (λ (pass : Option (Sight PassView)). calls_of was.number (events_of (seen_by pass))) (sym c.had)

module _ {E : Type 0} (is_reliable : E → Type 0) (draws : E → ℕ) (store : Store) where
  abbrev Made : (was now : CallerSession E) → List Call → Type 0
  Made was now calls = HasMade is_reliable draws store was now calls

  pub made_none : (s : CallerSession E) → IsCallerOf store s → Made s s []
  made_none s caller = record { caller = caller; number = refl; made = omega arith; calls_are = sym (append-nil (own_calls s)); drawn = record { rises = λ first rise. rise; steady = λ reliable. (reliable, refl) } }

  -- ONE CALL
  pub made_one : (was now : CallerSession E) (call : Call) (answer : PlacedReply) → IsAnswered store was now call answer → Grows (draws was.entropy) (draws now.entropy)
      → CarriesDraws (draws was.entropy) (draws now.entropy) answer.reply → (is_reliable was.entropy → is_reliable now.entropy × (draws now.entropy ≡ draws was.entropy)) → Made was now (call ∷ [])
  made_one was now call answer a grows carries steady = record {
    caller = a.appends.caller;
    number = a.appends.extends.number;
    made = omega (arith, a.appends.made);
    calls_are = calls-answered store was now call answer a;
    drawn = record {
      rises = λ first rise.
          subst (Rise first (draws now.entropy)) (sym draws_are)
          (Rise-append first (draws was.entropy) (draws now.entropy) (own_draws was) (told_of Entropy answer.reply) rise
          (carried-rise (draws was.entropy) (draws now.entropy) answer.reply grows carries));
      steady = steady;
    };
  }
    where
      own_told : draws_of was.number (a.appends.extends.last.event ∷ []) ≡ told_of Entropy answer.reply
      own_told = ap (λ (event : Event). draws_of was.number (event ∷ [])) a.appends.extends.event_is ∙ rw (eq-eqb was.number was.number refl) (append-nil (told_of Entropy answer.reply))

      draws_are : own_draws now ≡ own_draws was ++ told_of Entropy answer.reply
      draws_are =
          let e = a.appends.extends in
          ap (λ (n : ℕ). draws_of n (events_of (seen_by now.pass))) e.number
          ∙ ap (λ (pass : Option (Sight PassView)). draws_of was.number (events_of (seen_by pass))) e.is
          ∙ ap (λ (l : List HistoryRecord). draws_of was.number (events_of l)) e.extends
          ∙ draws_of-more was.number e.old.knows.seen e.between e.last e.none_between
          ∙ ap (λ (l : List ℕ). draws_of was.number (events_of e.old.knows.seen) ++ l) own_told
          ∙ ap (λ (pass : Option (Sight PassView)). draws_of was.number (events_of (seen_by pass)) ++ told_of Entropy answer.reply) (sym e.was)

  pub stopped_one : (was now : CallerSession E) (call : Call) → IsWaiting store was now → HasStopped store was now (call ∷ [])
  stopped_one was now call w = record {
    caller = w.caller;
    number = w.number;
    front = [];
    rest = call ∷ [];
    cut = refl;
    left = omega arith;
    made = omega (arith, w.made);
    calls_are = calls-waiting store was now w ∙ sym (append-nil (own_calls was));
  }

  -- one that was refused
  pub refused_one : (was now : CallerSession E) → IsWaiting store was now → Grows (draws was.entropy) (draws now.entropy)
      → (is_reliable was.entropy → is_reliable now.entropy × (draws now.entropy ≡ draws was.entropy)) → Made was now []
  refused_one was now w grows steady = record {
    caller = w.caller;
    number = w.number;
    made = omega (arith, w.made);
    calls_are = calls-waiting store was now w ∙ sym (append-nil (own_calls was));
    drawn = record {
      rises = λ first rise.
          subst (Rise first (draws now.entropy)) (append-nil (own_draws was) ∙ sym draws_same) (Rise-append first (draws was.entropy) (draws now.entropy) (own_draws was) [] rise grows);
      steady = steady;
    };
  }
    where
      draws_same : own_draws now ≡ own_draws was
      draws_same =
          let c = w.goes_on.continues in
          ap (λ (n : ℕ). draws_of n (events_of (seen_by now.pass))) w.number
          ∙ ap (λ (pass : Option (Sight PassView)). draws_of was.number (events_of (seen_by pass))) c.has
          ∙ ap (λ (l : List HistoryRecord). draws_of was.number (events_of l)) (sym c.is)
          ∙ draws_of-quiet was.number c.was.knows.seen c.between c.none
          ∙ ap (λ (pass : Option (Sight PassView)). draws_of was.number (events_of (seen_by pass))) (sym c.had)

  -- ONE AFTER ANOTHER
  module _ (a b c : CallerSession E) (first then : List Call) (made : Made a b first) where
    pub made_then : Made b c then → Made a c (first ++ then)
    made_then m = record {
      caller = m.caller;
      number = m.number ∙ made.number;
      made = omega (arith, made.made, m.made, length-append first then);
      calls_are = m.calls_are ∙ ap (λ (l : List Call). l ++ then) made.calls_are ∙ append_assoc (own_calls a) first then;
      drawn = record {
        rises = λ n rise. m.drawn.rises n (made.drawn.rises n rise);
        steady = λ reliable.
            let between = made.drawn.steady reliable in
            let last = m.drawn.steady between.0 in
            (last.0, last.1 ∙ between.1);
      };
    }

    pub stopped_then : (rest : List Call) → HasStopped store b c then → HasStopped store a c ((first ++ then) ++ rest)
    stopped_then rest s = record {
      caller = s.caller;
      number = s.number ∙ made.number;
      front = first ++ s.front;
      rest = s.rest ++ rest;
      cut = ap (λ (l : List Call). (first ++ l) ++ rest) s.cut ∙ ap (λ (l : List Call). l ++ rest) (sym (append_assoc first s.front s.rest)) ∙ append_assoc (first ++ s.front) s.rest rest;
      left = omega (arith, s.left, length-append s.rest rest);
      made = omega (arith, made.made, s.made, length-append first s.front);
      calls_are = s.calls_are ∙ ap (λ (l : List Call). l ++ s.front) made.calls_are ∙ append_assoc (own_calls a) first s.front;
    }

  -- the steps up to one of them, and that step
  module _ (steps : List Step) (index : ℕ) (step : Step) (below : index < length steps) (is : step ≡ get_or steps index step) (a b c : CallerSession E) where
    whole : (app : ℕ) → (calls_in app (take index steps) ++ calls_in app (step ∷ [])) ++ calls_in app (drop (index + 1) steps) ≡ calls_in app steps
    whole app =
        ap (λ (l : List Call). l ++ calls_in app (drop (index + 1) steps)) (sym (calls_in-more app steps index step below is))
        ∙ sym (calls_in-append app (take (index + 1) steps) (drop (index + 1) steps))
        ∙ ap (calls_in app) (take-append-drop (index + 1) steps)

    module _ (made : Made a b (calls_in a.number (take index steps))) where
      pub made_more : Made b c (calls_in b.number (step ∷ [])) → Made a c (calls_in a.number (take (index + 1) steps))
      made_more m =
          subst (Made a c) (sym (calls_in-more a.number steps index step below is))
          (made_then a b c (calls_in a.number (take index steps)) (calls_in a.number (step ∷ [])) made (subst (λ (n : ℕ). Made b c (calls_in n (step ∷ []))) made.number m))

      pub stopped_at : HasStopped store b c (calls_in b.number (step ∷ [])) → HasStopped store a c (calls_in a.number steps)
      stopped_at s =
          subst (HasStopped store a c) (whole a.number)
          (stopped_then a b c (calls_in a.number (take index steps)) (calls_in a.number (step ∷ [])) made (calls_in a.number (drop (index + 1) steps))
          (subst (λ (n : ℕ). HasStopped store b c (calls_in n (step ∷ []))) made.number s))
