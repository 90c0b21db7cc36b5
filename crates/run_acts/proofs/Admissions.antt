-- Steps that were admitted.
use Rattle.std.proofs.Common.{◌≡◌, ◌≢◌, ◌⊎◌, ◌==◌, ◌||◌, ◌+◌, ◌<◌, ◌≤◌, ℕ, suc, Bool, true, false, true≢false, cond, All, List, [], ◌∷◌, ◌++◌, drop, length, take, slice_get, take-append-drop, eq-eqb, Some, refl, sym, ap, ◌∙◌, subst, inl, inr, arith}
use Rattle.std.proofs.lemmas.Bool.{cases_eq, cond-false, cond-true, eqb-true, ne_eqb, or_from, or_right}
use Rattle.std.proofs.lemmas.List.{append-nil, nil_from_length}
use Rattle.std.proofs.lemmas.List.Elements.{All-cons, All-head, All-nil, All-tail}
use Rattle.tee_types.specs.declared.call.Call.{Call}
use Rattle.script_text.specs.Script.{IsPlaced, is_call}
use Rattle.script_text.specs.declared.script.Step.{Step}
use Rattle.script_text.specs.declared.script.Step.TheVariants.{Call as CallStep, Control as ControlStep}
use Rattle.app_quota.specs.declared.quotas.Quota.{Quota}
use Rattle.core_laws.specs.Stores.{Store}
use Rattle.history_seats.specs.Records.{HistoryRecord}
use Rattle.run_acts.specs.ServedSteps.{AreCalls, calls_in}
use Rattle.run_acts.specs.QuotaRefusals.{HoldsOfAdmitted, KeepsPhaseQuotas, KeepsQuotas, admitted, admitted_from, is_refused}
use Rattle.run_acts.specs.declared.refused_call.RefusedCall.{RefusedCall}
use Rattle.run_acts.proofs.Calls.{calls_in-append}
use Rattle.run_acts.proofs.Tests.{or-assoc, or-none}

-- WHICH ARE REFUSED
pub is_refused-append : (a b : List RefusedCall) (number : ℕ) → is_refused (a ++ b) number ≡ (is_refused a number || is_refused b number)
is_refused-append [] b number = refl
is_refused-append (r ∷ a) b number = ap (λ t. (r.step == number) || t) (is_refused-append a b number) ∙ sym (or-assoc (r.step == number) (is_refused a number) (is_refused b number))

-- none of these is of that step
pub is_refused-none : (refused : List RefusedCall) (number : ℕ) → All (λ r. r.step ≢ number) refused → is_refused refused number ≡ false
is_refused-none [] number none = refl
is_refused-none (r ∷ refused) number none =
    or_from (r.step == number) (is_refused refused number) (ne_eqb r.step number (All-head (λ (x : RefusedCall). x.step ≢ number) r refused none))
    (is_refused-none refused number (All-tail (λ (x : RefusedCall). x.step ≢ number) r refused none))

-- one more that was refused
pub is_refused-more : (refused : List RefusedCall) (r : RefusedCall) (number : ℕ) → is_refused (refused ++ r ∷ []) number ≡ (is_refused refused number || (r.step == number))
is_refused-more refused r number = is_refused-append refused (r ∷ []) number ∙ ap (λ t. is_refused refused number || t) (or-none (r.step == number) false refl)

pub is_refused-other : (refused : List RefusedCall) (r : RefusedCall) (number : ℕ) → r.step ≢ number → is_refused (refused ++ r ∷ []) number ≡ is_refused refused number
is_refused-other refused r number other = is_refused-more refused r number ∙ ap (λ t. is_refused refused number || t) (ne_eqb r.step number other) ∙ or-none (is_refused refused number) false refl

pub is_refused-last : (refused : List RefusedCall) (r : RefusedCall) (number : ℕ) → r.step ≡ number → is_refused (refused ++ r ∷ []) number ≡ true
is_refused-last refused r number same = is_refused-more refused r number ∙ or_right (is_refused refused number) (r.step == number) (eq-eqb r.step number same)

-- WHICH ARE ADMITTED
pub admitted_from-none : (number : ℕ) (steps : List Step) → admitted_from number [] steps ≡ steps
admitted_from-none number [] = refl
admitted_from-none number (step ∷ steps) = ap (λ (l : List Step). step ∷ l) (admitted_from-none (suc number) steps)

pub admitted-none : (steps : List Step) → admitted [] steps ≡ steps
admitted-none steps = admitted_from-none 0 steps

cond-behind : (b : Bool) (step : Step) (first then : List Step) → cond b (first ++ then) (step ∷ (first ++ then)) ≡ cond b first (step ∷ first) ++ then
cond-behind true step first then = refl
cond-behind false step first then = refl

pub admitted_from-append : (number : ℕ) (refused : List RefusedCall) (first then : List Step)
    → admitted_from number refused (first ++ then) ≡ admitted_from number refused first ++ admitted_from (number + length first) refused then
admitted_from-append number refused [] then = let same : number ≡ number + 0 = omega arith in ap (λ n. admitted_from n refused then) same
admitted_from-append number refused (step ∷ first) then =
    let next : suc number + length first ≡ number + suc (length first) = omega arith in
    ap (λ (l : List Step). cond (is_refused refused number) l (step ∷ l)) (admitted_from-append (suc number) refused first then)
    ∙ cond-behind (is_refused refused number) step (admitted_from (suc number) refused first) (admitted_from (suc number + length first) refused then)
    ∙ ap (λ n. admitted_from number refused (step ∷ first) ++ admitted_from n refused then) next

-- the first steps, and the others
pub admitted-cut : (refused : List RefusedCall) (made : ℕ) (steps : List Step) → admitted refused steps ≡ admitted refused (take made steps) ++ admitted_from (0 + length (take made steps)) refused (drop made steps)
admitted-cut refused made steps = ap (admitted refused) (sym (take-append-drop made steps)) ∙ admitted_from-append 0 refused (take made steps) (drop made steps)

-- where the same steps are refused the same are admitted
pub admitted_from-same : (number : ℕ) (a b : List RefusedCall) (steps : List Step) → ((n : ℕ) → number ≤ n → n < number + length steps → is_refused a n ≡ is_refused b n)
    → admitted_from number a steps ≡ admitted_from number b steps
admitted_from-same number a b [] same = refl
admitted_from-same number a b (step ∷ steps) same =
    let rest = admitted_from-same (suc number) a b steps (λ n from below. same n (omega (arith, from)) (omega (arith, below))) in
    ap (λ (t : Bool). cond t (admitted_from (suc number) a steps) (step ∷ admitted_from (suc number) a steps)) (same number (omega arith) (omega arith))
    ∙ ap (λ (l : List Step). cond (is_refused b number) l (step ∷ l)) rest

pub admitted-same : (a b : List RefusedCall) (steps : List Step) → ((n : ℕ) → n < length steps → is_refused a n ≡ is_refused b n) → admitted a steps ≡ admitted b steps
admitted-same a b steps same = admitted_from-same 0 a b steps (λ n from below. same n (omega (arith, below)))

-- one step more, which was admitted, or was refused
pub admitted-more : (refused : List RefusedCall) (first : List Step) (step : Step) → is_refused refused (length first) ≡ false → admitted refused (first ++ step ∷ []) ≡ admitted refused first ++ step ∷ []
admitted-more refused first step none =
    let here : 0 + length first ≡ length first = omega arith in
    admitted_from-append 0 refused first (step ∷ [])
    ∙ ap (λ (l : List Step). admitted refused first ++ l) (cond-false (is_refused refused (0 + length first)) [] (step ∷ []) (ap (is_refused refused) here ∙ none))

pub admitted-refused : (refused : List RefusedCall) (first : List Step) (step : Step) → is_refused refused (length first) ≡ true → admitted refused (first ++ step ∷ []) ≡ admitted refused first
admitted-refused refused first step is =
    let here : 0 + length first ≡ length first = omega arith in
    admitted_from-append 0 refused first (step ∷ [])
    ∙ ap (λ (l : List Step). admitted refused first ++ l) (cond-true (is_refused refused (0 + length first)) [] (step ∷ []) (ap (is_refused refused) here ∙ is))
    ∙ append-nil (admitted refused first)

-- the calls that are admitted are calls
calls-cond : (count : ℕ) (b : Bool) (step : Step) (rest : List Step) → IsPlaced count step × (is_call step ≡ true) → AreCalls count rest → AreCalls count (cond b rest (step ∷ rest))
calls-cond count true step rest one calls = calls
calls-cond count false step rest one calls = All-cons (λ s. IsPlaced count s × (is_call s ≡ true)) step rest one calls

calls-admitted_from : (count number : ℕ) (refused : List RefusedCall) (steps : List Step) → AreCalls count steps → AreCalls count (admitted_from number refused steps)
calls-admitted_from count number refused [] calls = All-nil (λ step. IsPlaced count step × (is_call step ≡ true))
calls-admitted_from count number refused (step ∷ steps) calls =
    calls-cond count (is_refused refused number) step (admitted_from (suc number) refused steps) (All-head (λ s. IsPlaced count s × (is_call s ≡ true)) step steps calls)
    (calls-admitted_from count (suc number) refused steps (All-tail (λ s. IsPlaced count s × (is_call s ≡ true)) step steps calls))

pub calls-admitted : (count : ℕ) (refused : List RefusedCall) (steps : List Step) → AreCalls count steps → AreCalls count (admitted refused steps)
calls-admitted count refused steps calls = calls-admitted_from count 0 refused steps calls

-- THE CALLS OF ONE APPLICATION
-- a step that is no call of it
other-cond : (app : ℕ) (b : Bool) (step : Step) (l : List Step) → calls_in app (step ∷ l) ≡ calls_in app l → calls_in app (cond b l (step ∷ l)) ≡ calls_in app l
other-cond app true step l same = refl
other-cond app false step l same = same

own-cond : (app : ℕ) (b : Bool) (step : Step) (l m : List Step) → calls_in app l ≡ calls_in app m → calls_in app (step ∷ l) ≡ calls_in app (step ∷ m) → calls_in app (cond b l (step ∷ l)) ≡ calls_in app (cond b m (step ∷ m))
own-cond app true step l m off on = off
own-cond app false step l m off on = on

pub calls_in-same : (app number : ℕ) (a b : List RefusedCall) (steps : List Step)
    → ((n : ℕ) (call : Call) → slice_get steps n ≡ Some (CallStep app call) → is_refused a (number + n) ≡ is_refused b (number + n))
    → calls_in app (admitted_from number a steps) ≡ calls_in app (admitted_from number b steps)
calls_in-same app number a b [] same = refl
calls_in-same app number a b (ControlStep control ∷ steps) same =
    let rest = calls_in-same app (suc number) a b steps (λ n call is. later n call is) in
    other-cond app (is_refused a number) (ControlStep control) (admitted_from (suc number) a steps) refl ∙ rest
    ∙ sym (other-cond app (is_refused b number) (ControlStep control) (admitted_from (suc number) b steps) refl)
  where
    later : (n : ℕ) (call : Call) → slice_get steps n ≡ Some (CallStep app call) → is_refused a (suc number + n) ≡ is_refused b (suc number + n)
    later n call is = let next : number + suc n ≡ suc number + n = omega arith in subst (λ k. is_refused a k ≡ is_refused b k) next (same (suc n) call is)
calls_in-same app number a b (CallStep own call ∷ steps) same = by_app (calls_in-same app (suc number) a b steps later) (cases_eq own app)
  where
    later : (n : ℕ) (c : Call) → slice_get steps n ≡ Some (CallStep app c) → is_refused a (suc number + n) ≡ is_refused b (suc number + n)
    later n c is = let next : number + suc n ≡ suc number + n = omega arith in subst (λ k. is_refused a k ≡ is_refused b k) next (same (suc n) c is)

    skipped : (own ≡ app → ⊥) → (l : List Step) → calls_in app (CallStep own call ∷ l) ≡ calls_in app l
    skipped other l = cond-false (own == app) (call ∷ calls_in app l) (calls_in app l) (ne_eqb own app other)

    by_app : calls_in app (admitted_from (suc number) a steps) ≡ calls_in app (admitted_from (suc number) b steps) → (own ≡ app) ⊎ (own ≡ app → ⊥)
        → calls_in app (admitted_from number a (CallStep own call ∷ steps)) ≡ calls_in app (admitted_from number b (CallStep own call ∷ steps))
    by_app rest (inl its) =
        let here : number ≡ number + 0 = omega arith in
        let first : slice_get (CallStep own call ∷ steps) 0 ≡ Some (CallStep app call) = ap (λ n. Some (CallStep n call)) its in
        let tests : is_refused a number ≡ is_refused b number = subst (λ k. is_refused a k ≡ is_refused b k) (sym here) (same 0 call first) in
        ap (λ (t : Bool). calls_in app (cond t (admitted_from (suc number) a steps) (CallStep own call ∷ admitted_from (suc number) a steps))) tests
        ∙ own-cond app (is_refused b number) (CallStep own call) (admitted_from (suc number) a steps) (admitted_from (suc number) b steps) rest
        (ap (λ (calls : List Call). cond (own == app) (call ∷ calls) calls) rest)
    by_app rest (inr other) =
        other-cond app (is_refused a number) (CallStep own call) (admitted_from (suc number) a steps) (skipped other (admitted_from (suc number) a steps))
        ∙ rest
        ∙ sym (other-cond app (is_refused b number) (CallStep own call) (admitted_from (suc number) b steps) (skipped other (admitted_from (suc number) b steps)))

-- WHERE MEMORY RAN OUT
pub holds-weaker : (quotas : List Quota) (steps : List Step) (A B : List Step → Type 0) → ((l : List Step) → A l → B l) → HoldsOfAdmitted quotas steps A → HoldsOfAdmitted quotas steps B
holds-weaker quotas steps A B weaker h = record { refused = h.refused; unrefused = h.unrefused; holds = weaker (admitted h.refused steps) h.holds }

-- without a refused call it is all of them
pub holds-all : (quotas : List Quota) (steps : List Step) (A : List Step → Type 0) → A steps → HoldsOfAdmitted quotas steps A
holds-all quotas steps A all = record { refused = []; unrefused = λ none. refl; holds = subst A (sym (admitted-none steps)) all }

-- ONE STEP MORE THAT IS NO CALL OF THE APPLICATION
pub other-steps : (app : ℕ) (refused : List RefusedCall) (steps : List Step) (step : Step) → calls_in app (step ∷ []) ≡ [] → calls_in app (admitted refused (steps ++ step ∷ [])) ≡ calls_in app (admitted refused steps)
other-steps app refused steps step other =
    ap (calls_in app) (admitted_from-append 0 refused steps (step ∷ []))
    ∙ calls_in-append app (admitted refused steps) (admitted_from (0 + length steps) refused (step ∷ []))
    ∙ ap (λ (l : List Call). calls_in app (admitted refused steps) ++ l) (by_test (is_refused refused (0 + length steps)))
    ∙ append-nil (calls_in app (admitted refused steps))
  where
    by_test : (b : Bool) → calls_in app (cond b [] (step ∷ [])) ≡ []
    by_test true = refl
    by_test false = other

-- WHERE THERE IS A QUOTA
pub quotas-of : (quotas : List Quota) (store : Store) (records : List HistoryRecord) (steps : List Step) (refused : List RefusedCall) → quotas ≢ [] → KeepsPhaseQuotas quotas store records steps refused
    → KeepsQuotas quotas store records steps refused
quotas-of [] store records steps refused some kept = absurd (some refl)
quotas-of (quota ∷ quotas) store records steps refused some kept = kept

pub quotas-for : (quotas : List Quota) (store : Store) (records : List HistoryRecord) (steps : List Step) (refused : List RefusedCall) → quotas ≢ [] → KeepsQuotas quotas store records steps refused
    → KeepsPhaseQuotas quotas store records steps refused
quotas-for [] store records steps refused some kept = absurd (some refl)
quotas-for (quota ∷ quotas) store records steps refused some kept = kept

-- what the length tells of it
pub no-quota : (quotas : List Quota) → (length quotas == 0) ≡ true → quotas ≡ []
no-quota quotas none = nil_from_length quotas (eqb-true (length quotas) 0 none)

pub some-quota : (quotas : List Quota) → (length quotas == 0) ≡ false → quotas ≢ []
some-quota quotas some none = true≢false (sym (ap (λ (l : List Quota). length l == 0) none) ∙ some)
