-- What a session keeps of its limit, one step after another.
use Rattle.std.proofs.Common.{◌≡◌, ◌≢◌, ◌<◌, ℕ, zero, suc, false, All, AllPairs, List, [], ◌∷◌, ◌++◌, length, slice_get, take, get_or, Option, Some, None, refl, sym, ap, ◌∙◌, subst, append_assoc, arith}
use Rattle.std.proofs.lemmas.List.{append-nil, take-append-le, take_at}
use Rattle.std.proofs.lemmas.List.Elements.{All-append, All-nil, All-push, All-weaker}
use Rattle.std.proofs.lemmas.List.Kept.{AllPairs-cons}
use Rattle.std.proofs.lemmas.Option.{slice_get_within}
use Rattle.tee_types.specs.declared.call.Call.{Call}
use Rattle.app_quota.specs.Limits.{Limits}
use Rattle.history_seats.specs.Records.{HistoryRecord}
use Rattle.history_seats.specs.Views.{PassView, Sight}
use Rattle.core_laws.specs.Stores.{Store}
use Rattle.script_text.specs.declared.script.Step.{Step}
use Rattle.script_text.specs.declared.script.Step.TheVariants.{Call as CallStep}
use Rattle.quota_store.specs.Attempts.{IsAnswered}
use Rattle.quota_store.specs.SessionEvents.{IsWaiting}
use Rattle.quota_store.specs.CallerSessions.{CallerSession, IsCallerOf}
use Rattle.quota_store.specs.declared.PlacedReply.{PlacedReply}
use Rattle.store_model.specs.History.{calls_of}
use Rattle.store_model.specs.Record.{events_of}
use Rattle.run_acts.specs.OwnCalls.{own_calls}
use Rattle.run_acts.specs.OwnQuotas.{CallsWithin, KeepsLimitsOver, WasRefused}
use Rattle.run_acts.specs.QuotaRefusals.{IsBeyondBehind, admitted, is_refused}
use Rattle.run_acts.specs.Seen.{seen_by}
use Rattle.run_acts.specs.ServedSteps.{calls_in}
use Rattle.run_acts.specs.declared.refused_call.RefusedCall.{RefusedCall}
use Rattle.run_acts.proofs.Admissions.{admitted-more, admitted-refused, admitted-same, is_refused-last, is_refused-none, is_refused-other, other-steps}
use Rattle.run_acts.proofs.Calls.{calls_in-append, calls_in-one}
use Rattle.run_acts.proofs.Makings.{calls-answered, calls-waiting}

-- LISTS
pub slice_get-append : {X : Type 0} (xs ys : List X) (k : ℕ) → k < length xs → slice_get (xs ++ ys) k ≡ slice_get xs k
slice_get-append [] ys k below = absurd (omega (arith, below))
slice_get-append (x ∷ xs) ys zero below = refl
slice_get-append (x ∷ xs) ys (suc k) below = slice_get-append xs ys k (omega (arith, below))

pub slice_get-last : {X : Type 0} (xs : List X) (x : X) → slice_get (xs ++ x ∷ []) (length xs) ≡ Some x
slice_get-last [] x = refl
slice_get-last (y ∷ xs) x = slice_get-last xs x

module _ {X : Type 0} (R : X → X → Type 0) where
  pub AllPairs-append : (xs ys : List X) → AllPairs R xs → AllPairs R ys → ((i j : ℕ) (d : X) → i < length xs → j < length ys → R (get_or xs i d) (get_or ys j d)) → AllPairs R (xs ++ ys)
  AllPairs-append [] ys first then between = then
  AllPairs-append (x ∷ xs) ys first then between =
      AllPairs-cons R x (xs ++ ys)
      (All-append (R x) xs ys (λ k d below. first 0 (suc k) d (omega arith) (omega (arith, below))) (λ k d below. between 0 k d (omega arith) below))
      (AllPairs-append xs ys (λ i j d less below. first (suc i) (suc j) d (omega (arith, less)) (omega (arith, below))) then
      (λ i j d below within. between (suc i) j d (omega (arith, below)) within))

  pub AllPairs-push : (xs : List X) (x : X) → AllPairs R xs → All (λ y. R y x) xs → AllPairs R (xs ++ x ∷ [])
  AllPairs-push xs x pairs above =
      AllPairs-append xs (x ∷ []) pairs (λ i j d less below. absurd (omega (arith, less, below))) (λ i j d below within. one i j d below (first j within))
    where
      first : (j : ℕ) → j < length (x ∷ []) → j ≡ 0
      first j within = omega (arith, within)

      one : (i j : ℕ) (d : X) → i < length xs → j ≡ 0 → R (get_or xs i d) (get_or (x ∷ []) j d)
      one i j d below is = subst (λ (k : ℕ). R (get_or xs i d) (get_or (x ∷ []) k d)) (sym is) (above i d below)

-- the later view goes on from the one before
abbrev pub GoesOnFrom : {E : Type 0} → (was now : CallerSession E) → Type 0
GoesOnFrom was now = (rest : List HistoryRecord) × (seen_by was.pass ++ rest ≡ seen_by now.pass)

module _ {E : Type 0} (store : Store) (was now : CallerSession E) where
  pub saw-answered : (call : Call) (answer : PlacedReply) → IsAnswered store was now call answer → GoesOnFrom was now
  saw-answered call answer a =
      let e = a.appends.extends in (
        e.between ++ e.last ∷ [],
        ap (λ (pass : Option (Sight PassView)). seen_by pass ++ (e.between ++ e.last ∷ [])) e.was
            ∙ sym (append_assoc e.old.knows.seen e.between (e.last ∷ []))
            ∙ sym e.extends
            ∙ ap seen_by (sym e.is),
      )

  pub saw-waiting : IsWaiting store was now → GoesOnFrom was now
  saw-waiting w =
      let c = w.goes_on.continues in
      (c.between, ap (λ (pass : Option (Sight PassView)). seen_by pass ++ c.between) c.had ∙ c.is ∙ ap seen_by (sym c.has))

-- where each refused call is of one of the steps, none is of the next one
pub none-behind : (steps : List Step) (refused : List RefusedCall) → All (λ r. r.step < length steps) refused → is_refused refused (length steps) ≡ false
none-behind steps refused within =
    is_refused-none refused (length steps) (All-weaker (λ r. r.step < length steps) (λ r. r.step ≢ length steps) (λ r below same. omega (arith, below, same)) refused within)

module _ {E : Type 0} (store : Store) (limits : Limits) where
  -- A REFUSED CALL STAYS SO
  -- the steps go on, and so does the view; of the earlier steps none more was refused
  pub still-refused : (steps more : List Step) (was mid now : CallerSession E) (a b : List RefusedCall) (r : RefusedCall) → ((n : ℕ) → n < r.step → is_refused b n ≡ is_refused a n) → GoesOnFrom mid now
      → WasRefused store limits steps was mid a r → WasRefused store limits (steps ++ more) was now b r
  still-refused steps more was mid now a b r same goes w =
      let within : r.step < length steps = slice_get_within steps r.step (CallStep was.number w.call) w.is in
      let front : take r.step (steps ++ more) ≡ take r.step steps = take-append-le r.step steps more (omega (arith, within)) in
      let alike : admitted b (take r.step steps) ≡ admitted a (take r.step steps) = admitted-same b a (take r.step steps) (λ n below. same n (taken-below r.step steps n below)) in
      record {
        call = w.call;
        is = slice_get-append steps more r.step within ∙ w.is;
        front = w.front;
        rest = w.rest ++ goes.0;
        begins = sym (append_assoc w.front w.rest goes.0) ∙ ap (λ (l : List HistoryRecord). l ++ goes.0) w.begins ∙ goes.1;
        place = w.place;
        beyond = w.beyond;
        between = w.between ∙ ap (λ (l : List Step). own_calls was ++ calls_in was.number l) (sym (ap (admitted b) front ∙ alike));
      }
    where
      taken-below : (k : ℕ) (l : List Step) (n : ℕ) → n < length (take k l) → n < k
      taken-below zero l n below = below
      taken-below (suc k) [] n below = absurd (omega (arith, below))
      taken-below (suc k) (s ∷ l) zero below = omega arith
      taken-below (suc k) (s ∷ l) (suc n) below = let rest = taken-below k l n (omega (arith, below)) in omega (arith, rest)

  -- each is of one of the steps
  pub refused-within : (steps : List Step) (was now : CallerSession E) (a refused : List RefusedCall) → All (WasRefused store limits steps was now a) refused → All (λ r. r.step < length steps) refused
  refused-within steps was now a refused all =
      All-weaker (WasRefused store limits steps was now a) (λ r. r.step < length steps)
      (λ r w. slice_get_within steps r.step (CallStep was.number w.call) w.is) refused all

  -- ONE STEP MORE
  pub keeps-none : (s : CallerSession E) → IsCallerOf store s → KeepsLimitsOver store limits [] s s []
  keeps-none s caller = record {
    caller = caller;
    number = refl;
    calls_are = sym (append-nil (own_calls s));
    kept = λ kept. kept;
    rightly = All-nil (WasRefused store limits [] s s []);
    rising = λ i j d less below. absurd (omega (arith, below));
  }

  module _ (steps : List Step) (step : Step) (was mid : CallerSession E) (refused : List RefusedCall) (k : KeepsLimitsOver store limits steps was mid refused) where
    abbrev next : List Step
    next = steps ++ step ∷ []

    within : All (λ r. r.step < length steps) refused
    within = refused-within steps was mid refused refused k.rightly

    -- a step that is no call of the session
    pub keeps-other : calls_in was.number (step ∷ []) ≡ [] → KeepsLimitsOver store limits next was mid refused
    keeps-other other = record {
      caller = k.caller;
      number = k.number;
      calls_are = k.calls_are ∙ ap (λ (l : List Call). own_calls was ++ l) (sym (other-steps was.number refused steps step other));
      kept = k.kept;
      rightly = All-weaker (WasRefused store limits steps was mid refused) (WasRefused store limits next was mid refused)
          (λ r w. still-refused steps (step ∷ []) was mid mid refused refused r (λ n below. refl) ([], append-nil (seen_by mid.pass)) w) refused k.rightly;
      rising = k.rising;
    }

    module _ (now : CallerSession E) (call : Call) (own : step ≡ CallStep was.number call) where
      own-call : calls_in was.number (step ∷ []) ≡ call ∷ []
      own-call = ap (λ (s : Step). calls_in was.number (s ∷ [])) own ∙ calls_in-one was.number was.number call refl

      pub calls-next : calls_in was.number (admitted refused next) ≡ calls_in was.number (admitted refused steps) ++ call ∷ []
      calls-next =
          ap (calls_in was.number) (admitted-more refused steps step (none-behind steps refused within))
          ∙ calls_in-append was.number (admitted refused steps) (step ∷ [])
          ∙ ap (λ (l : List Call). calls_in was.number (admitted refused steps) ++ l) own-call

      -- its call was made
      pub keeps-answered : CallsWithin store limits mid now call None → KeepsLimitsOver store limits next was now refused
      keeps-answered c =
          let a = c.ends.1 in
          record {
            caller = a.appends.caller;
            number = a.appends.extends.number ∙ k.number;
            calls_are = calls-answered store mid now call c.ends.0 a
                ∙ ap (λ (l : List Call). l ++ call ∷ []) k.calls_are
                ∙ append_assoc (own_calls was) (calls_in was.number (admitted refused steps)) (call ∷ [])
                ∙ ap (λ (l : List Call). own_calls was ++ l) (sym calls-next);
            kept = λ kept. c.kept (k.kept kept);
            rightly = All-weaker (WasRefused store limits steps was mid refused) (WasRefused store limits next was now refused)
                (λ r w. still-refused steps (step ∷ []) was mid now refused refused r (λ n below. refl) (saw-answered store mid now call c.ends.0 a) w) refused k.rightly;
            rising = k.rising;
          }

      -- its call was refused, and noted
      module _ (place : ℕ) (c : CallsWithin store limits mid now call (Some place)) where
        abbrev noted : RefusedCall
        noted = record { step = length steps; place = place }

        abbrev more : List RefusedCall
        more = refused ++ noted ∷ []

        admitted-alike : admitted more steps ≡ admitted refused steps
        admitted-alike = admitted-same more refused steps (λ n below. is_refused-other refused noted n (λ same. omega (arith, same, below)))

        still-own : own_calls now ≡ own_calls was ++ calls_in was.number (admitted more steps)
        still-own = calls-waiting store mid now c.ends.0 ∙ k.calls_are ∙ ap (λ (l : List Step). own_calls was ++ calls_in was.number l) (sym admitted-alike)

        pub calls-still : calls_in was.number (admitted more next) ≡ calls_in was.number (admitted refused steps)
        calls-still = ap (calls_in was.number) (admitted-refused more steps step (is_refused-last refused noted (length steps) refl) ∙ admitted-alike)

        number_is : now.number ≡ was.number
        number_is = c.ends.0.number ∙ k.number

        was-noted : WasRefused store limits next was now more noted
        was-noted =
            let b = c.ends.1 in
            let sees : seen_by now.pass ≡ b.pass.knows.seen = ap seen_by b.is in
            let front : take (length steps) next ≡ steps = take_at steps (step ∷ []) (length steps) refl in
            record {
              call = call;
              is = slice_get-last steps step ∙ ap Some own;
              front = b.pass.knows.seen;
              rest = [];
              begins = append-nil b.pass.knows.seen ∙ sym sees;
              place = b.at;
              beyond = subst (λ (n : ℕ). IsBeyondBehind store limits b.pass.knows.seen n call) number_is b.beyond;
              between = ap (λ (l : List HistoryRecord). calls_of was.number (events_of l)) (sym sees)
                  ∙ ap (λ (n : ℕ). calls_of n (events_of (seen_by now.pass))) (sym number_is)
                  ∙ still-own
                  ∙ ap (λ (l : List Step). own_calls was ++ calls_in was.number (admitted more l)) (sym front);
            }

        pub keeps-refused : KeepsLimitsOver store limits next was now more
        keeps-refused = record {
          caller = c.ends.0.caller;
          number = number_is;
          calls_are = still-own
              ∙ ap (λ (l : List Step). own_calls was ++ calls_in was.number l) (sym (admitted-refused more steps step (is_refused-last refused noted (length steps) refl)));
          kept = λ kept. c.kept (k.kept kept);
          rightly = All-push (WasRefused store limits next was now more) refused noted
              (λ i d below. still-refused steps (step ∷ []) was mid now refused more (get_or refused i d)
              (λ n less. is_refused-other refused noted n (λ same. omega (arith, same, less, within i d below))) (saw-waiting store mid now c.ends.0) (k.rightly i d below))
              was-noted;
          rising = AllPairs-push (λ (x y : RefusedCall). x.step < y.step) refused noted k.rising within;
        }
