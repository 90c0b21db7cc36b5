-- What a session makes of a phase's calls under quotas, one step after another.
use Rattle.std.proofs.Common.{◌≡◌, ◌≢◌, ◌==◌, ◌+◌, ◌<◌, ℕ, List, [], ◌∷◌, ◌++◌, length, take, drop, get_or, Some, None, Result, Ok, Err, OnErr, OnOk, is_ok, sym, ap, ◌∙◌, subst}
use Rattle.std.proofs.lemmas.Bool.{cond-false, ne_eqb}
use Rattle.std.proofs.lemmas.List.{append-nil, take_more}
use Rattle.std.proofs.lemmas.List.Elements.{All-weaker}
use Rattle.tee_types.specs.declared.call.Call.{Call}
use Rattle.app_totals.specs.declared.numbers.Totals.{Totals}
use Rattle.app_quota.specs.Limits.{Limits}
use Rattle.core_laws.specs.Stores.{Store}
use Rattle.quota_store.specs.Callers.{QuotaCaller}
use Rattle.quota_store.specs.Draws.{CarriesOutcome}
use Rattle.quota_store.specs.LockedCalls.{EndsLocked, IsRefusedBy}
use Rattle.script_text.specs.declared.script.Step.{Step}
use Rattle.script_text.specs.declared.script.Step.TheVariants.{Call as CallStep}
use Rattle.quota_store.specs.Attempts.{IsAnswered}
use Rattle.quota_store.specs.SessionEvents.{IsWaiting}
use Rattle.quota_store.specs.CallerSessions.{CallerSession, IsCallerOf}
use Rattle.quota_store.specs.Devices.{Grows}
use Rattle.quota_store.specs.QuotaCallers.{KeepsLimits}
use Rattle.quota_store.specs.SharedCounts.{CarriesDraws}
use Rattle.quota_store.specs.declared.PlacedReply.{PlacedReply}
use Rattle.quota_store.specs.declared.QuotaOutcome.{QuotaOutcome}
use Rattle.quota_store.specs.declared.QuotaOutcome.TheVariants.{Answered, Refused}
use Rattle.run_acts.specs.OwnCalls.{HasMade, HasStopped}
use Rattle.run_acts.specs.OwnQuotas.{CallsWithin, IsCallOf, WasRefused}
use Rattle.run_acts.specs.QuotaRefusals.{admitted, admitted_from}
use Rattle.run_acts.specs.QuotaWork.{HasMadeWithin, HasStoppedWithin, HasWorkedTo, IsLimited}
use Rattle.run_acts.specs.ServedSteps.{calls_in}
use Rattle.run_acts.specs.declared.refused_call.RefusedCall.{RefusedCall}
use Rattle.run_acts.proofs.Admissions.{admitted-cut, admitted-more, other-steps}
use Rattle.run_acts.proofs.Calls.{calls_in-append, calls_in-one}
use Rattle.run_acts.proofs.Makings.{made_none, made_one, made_then, refused_one, stopped_one, stopped_then}
use Rattle.run_acts.proofs.OwnQuotas.{calls-next, calls-still, keeps-answered, keeps-none, keeps-other, keeps-refused, none-behind, refused-within}
use Rattle.run_acts.proofs.QuotaLists.{slice_get-taken}

-- a step that is no call of an application
pub other-call : (app own : ℕ) (call : Call) → own ≢ app → calls_in app (CallStep own call ∷ []) ≡ []
other-call app own call other = cond-false (own == app) (call ∷ []) [] (ne_eqb own app other)

-- one application of both callers of a session
pub same-app : {E : Type 0} (store : Store) (was now : CallerSession E) → IsCallerOf store was → IsCallerOf store now → now.number ≡ was.number → now.state.application ≡ was.state.application
same-app store was now before behind number =
    behind.session.application ∙ ap (λ (n : ℕ). get_or store.mounted.applications n []) number ∙ sym before.session.application

module _ {E : Type 0} (is_reliable : E → Type 0) (draws : E → ℕ) (store : Store) (limits : Limits) where
  abbrev MadeWithin : List Step → (was now : CallerSession E) → List RefusedCall → Type 0
  MadeWithin steps was now refused = HasMadeWithin is_reliable draws store limits steps was now refused

  pub within-none : (s : CallerSession E) → IsCallerOf store s → MadeWithin [] s s []
  within-none s caller = record { made = made_none is_reliable draws store s caller; keeps = keeps-none store limits s caller }

  module _ (steps : List Step) (step : Step) (was mid : CallerSession E) (refused : List RefusedCall) (m : MadeWithin steps was mid refused) where
    abbrev next : List Step
    next = steps ++ step ∷ []

    -- no call of the session
    pub within-other : calls_in was.number (step ∷ []) ≡ [] → MadeWithin next was mid refused
    within-other other = record {
      made = subst (HasMade is_reliable draws store was mid) (sym (other-steps was.number refused steps step other)) m.made;
      keeps = keeps-other store limits steps step was mid refused m.keeps other;
    }

    module _ (now : CallerSession E) (call : Call) (own : step ≡ CallStep was.number call) where
      -- its call was made
      pub within-answered : HasMade is_reliable draws store mid now (call ∷ []) → CallsWithin store limits mid now call None → MadeWithin next was now refused
      within-answered one c = record {
        made = subst (HasMade is_reliable draws store was now) (sym (calls-next store limits steps step was mid refused m.keeps now call own))
            (made_then is_reliable draws store was mid now (calls_in was.number (admitted refused steps)) (call ∷ []) m.made one);
        keeps = keeps-answered store limits steps step was mid refused m.keeps now call own c;
      }

      -- its call was refused, and noted
      pub within-refused : (place : ℕ) → HasMade is_reliable draws store mid now [] → CallsWithin store limits mid now call (Some place) → MadeWithin next was now (refused ++ record { step = length steps; place = place } ∷ [])
      within-refused place one c = record {
        made = subst (HasMade is_reliable draws store was now) (append-nil (calls_in was.number (admitted refused steps)) ∙ sym (calls-still store limits steps step was mid refused m.keeps now call own place c))
            (made_then is_reliable draws store was mid now (calls_in was.number (admitted refused steps)) [] m.made one);
        keeps = keeps-refused store limits steps step was mid refused m.keeps now call own place c;
      }

  -- MEMORY RAN OUT AT A STEP
  module _ (steps : List Step) (index : ℕ) (step : Step) (below : index < length steps) (is : step ≡ get_or steps index step) (was mid now : CallerSession E) (refused : List RefusedCall)
      (m : MadeWithin (take index steps) was mid refused) where
    taken : take (index + 1) steps ≡ take index steps ++ step ∷ []
    taken = take_more steps index step below ∙ ap (λ (s : Step). take index steps ++ s ∷ []) (sym is)

    abbrev later : List Step
    later = admitted_from (0 + length (take (index + 1) steps)) refused (drop (index + 1) steps)

    whole : (calls_in was.number (admitted refused (take index steps)) ++ calls_in was.number (step ∷ [])) ++ calls_in was.number later ≡ calls_in was.number (admitted refused steps)
    whole =
        ap (λ (l : List Call). l ++ calls_in was.number later)
        (sym (ap (λ (l : List Step). calls_in was.number (admitted refused l)) taken
        ∙ ap (calls_in was.number) (admitted-more refused (take index steps) step (none-behind (take index steps) refused (refused-within store limits (take index steps) was mid refused refused m.keeps.rightly)))
        ∙ calls_in-append was.number (admitted refused (take index steps)) (step ∷ [])))
        ∙ sym (calls_in-append was.number (admitted refused (take (index + 1) steps)) later)
        ∙ ap (calls_in was.number) (sym (admitted-cut refused (index + 1) steps))

    pub stopped-within : HasStopped store mid now (calls_in mid.number (step ∷ [])) → HasStoppedWithin is_reliable draws store limits steps was now refused
    stopped-within s = record {
      stopped = subst (HasStopped store was now) whole
          (stopped_then is_reliable draws store was mid now (calls_in was.number (admitted refused (take index steps))) (calls_in was.number (step ∷ [])) m.made (calls_in was.number later)
          (subst (λ (n : ℕ). HasStopped store mid now (calls_in n (step ∷ []))) m.keeps.number s));
      own = All-weaker (WasRefused store limits (take index steps) was mid refused) (IsCallOf steps was.number)
          (λ r w. (w.call, slice_get-taken index steps r.step (CallStep was.number w.call) w.is)) refused m.keeps.rightly;
    }

-- A CALL OF THE STORE UNDER A LIMIT
-- what it ended with
module _ {E X : Type 0} (store : Store) (limit : Totals) (was now : CallerSession E) (call : Call) where
  pub ends-caller : (r : Result QuotaOutcome X) → EndsLocked store limit was now call r → IsCallerOf store now × (now.number ≡ was.number)
  ends-caller (Ok (Answered answer)) e = (e.appends.caller, e.appends.extends.number)
  ends-caller (Ok (Refused place)) e = (e.waits.caller, e.waits.number)
  ends-caller (Err none) e = (e.caller, e.number)

  module _ (r : Result QuotaOutcome X) (ends : EndsLocked store limit was now call r) where
    pub ends-answered : (answer : PlacedReply) → r ≡ Ok (Answered answer) → IsAnswered store was now call answer
    ends-answered answer is = subst (λ (x : Result QuotaOutcome X). EndsLocked store limit was now call x) is ends

    pub ends-refused : (place : ℕ) → r ≡ Ok (Refused place) → IsRefusedBy store limit was now call place
    ends-refused place is = subst (λ (x : Result QuotaOutcome X). EndsLocked store limit was now call x) is ends

    pub ends-waiting : (none : X) → r ≡ Err none → IsWaiting store was now
    ends-waiting none is = subst (λ (x : Result QuotaOutcome X). EndsLocked store limit was now call x) is ends

-- the limit is that of the session's application still
pub limited-still : {E : Type 0} (store : Store) (limits : Limits) (was now : QuotaCaller E) → IsCallerOf store was.caller → IsCallerOf store now.caller × (now.caller.number ≡ was.caller.number) → now.limit ≡ was.limit
    → IsLimited limits was → IsLimited limits now
limited-still store limits was now before behind same limited = ap limits (same-app store was.caller now.caller before behind.0 behind.1) ∙ limited ∙ sym same

module _ {E X : Type 0} (is_reliable : E → Type 0) (draws : E → ℕ) (store : Store) (limit : Totals) (was now : CallerSession E) (call : Call) (r : Result QuotaOutcome X)
    (ends : EndsLocked store limit was now call r) where
  -- memory ran out in it, or as it was noted: the session has no event more
  pub stopped-here : (step : Step) (app : ℕ) → step ≡ CallStep app call → app ≡ was.number → IsWaiting store was now → HasStopped store was now (calls_in was.number (step ∷ []))
  stopped-here step app is own waits =
      subst (HasStopped store was now) (sym (ap (λ (s : Step). calls_in was.number (s ∷ [])) is ∙ calls_in-one was.number app call own))
      (stopped_one is_reliable draws store was now call waits)

  module _ (limits : Limits) (steps : List Step) (step : Step) (first : CallerSession E) (refused : List RefusedCall) (m : HasMadeWithin is_reliable draws store limits steps first was refused)
      (app : ℕ) (is : step ≡ CallStep app call) (own : app ≡ was.number) (limited : limits was.state.application ≡ limit) (keeps : KeepsLimits store limit was now)
      (grows : Grows (draws was.entropy) (draws now.entropy)) (steady : is_reliable was.entropy → is_reliable now.entropy × (draws now.entropy ≡ draws was.entropy)) where
    own-step : step ≡ CallStep first.number call
    own-step = is ∙ ap (λ (n : ℕ). CallStep n call) (own ∙ m.keeps.number)

    pub one-answered : (answer : PlacedReply) → r ≡ Ok (Answered answer) → CarriesOutcome (draws was.entropy) (draws now.entropy) r
        → HasMadeWithin is_reliable draws store limits (steps ++ step ∷ []) first now refused
    one-answered answer at drawn =
        let a = ends-answered store limit was now call r ends answer at in
        let carries : CarriesDraws (draws was.entropy) (draws now.entropy) answer.reply = subst (λ (x : Result QuotaOutcome X). CarriesOutcome (draws was.entropy) (draws now.entropy) x) at drawn in
        within-answered is_reliable draws store limits steps step first was refused m now call own-step (made_one is_reliable draws store was now call answer a grows carries steady)
        (record { ends = (answer, a); kept = keeps limits limited })

    pub one-refused : (place : ℕ) → r ≡ Ok (Refused place)
        → HasMadeWithin is_reliable draws store limits (steps ++ step ∷ []) first now (refused ++ record { step = length steps; place = place } ∷ [])
    one-refused place at =
        let b = ends-refused store limit was now call r ends place at in
        within-refused is_reliable draws store limits steps step first was refused m now call own-step place (refused_one is_reliable draws store was now b.waits grows steady)
        (record { ends = (b.waits, b.beyond limits limited); kept = keeps limits limited })

-- WHETHER IT IS DONE
pub worked-to : {E A X : Type 0} (is_reliable : E → Type 0) (draws : E → ℕ) (store : Store) (limits : Limits) (steps : List Step) (was now : CallerSession E) (refused : List RefusedCall) (r : Result A X)
    → OnOk r (HasMadeWithin is_reliable draws store limits steps was now refused) → OnErr r (HasStoppedWithin is_reliable draws store limits steps was now refused)
    → HasWorkedTo is_reliable draws store limits steps (is_ok r) was now refused
worked-to is_reliable draws store limits steps was now refused (Ok x) made stopped = made
worked-to is_reliable draws store limits steps was now refused (Err e) made stopped = stopped
