-- Sessions that made as many calls as a phase has made all of their applications.
use Rattle.std.proofs.Common.{◌≡◌, ◌==◌, ◌+◌, ◌<◌, ◌≤◌, ◌⊎◌, ℕ, zero, suc, Bool, true, false, true≢false, cond, inl, inr, List, [], ◌∷◌, length, length-append, get_or, eq-eqb, refl, sym, ap, subst, arith}
use Rattle.std.proofs.lemmas.Bool.{cases_lt, ne_eqb}
use Rattle.std.proofs.lemmas.List.Elements.{All-head, All-tail}
use Rattle.std.proofs.lemmas.List.Sums.{list_all-from_AllPass, sum_by-cons}
use Rattle.std.specs.List.{list_all, sum_by}
use Rattle.tee_types.specs.declared.call.Call.{Call}
use Rattle.core_laws.specs.Stores.{Store}
use Rattle.quota_store.specs.CallerSessions.{CallerSession}
use Rattle.object_calls.specs.OpeningSessions.{AreSeated, HaveNoEvents}
use Rattle.script_text.specs.declared.script.Step.{Step}
use Rattle.script_text.specs.declared.script.Step.TheVariants.{Call as CallStep, Control as ControlStep}
use Rattle.script_text.specs.Script.{IsPlaced, is_call}
use Rattle.run_acts.specs.OwnCalls.{HasMade, HasStopped, HaveWorked, is_done}
use Rattle.run_acts.specs.ServedSteps.{AreCalls, calls_in}

module _ {S : Type 0} where
  -- the sum of two terms each
  sum-both : (f g h : S → ℕ) → ((s : S) → h s ≡ f s + g s) → (sessions : List S) → sum_by h sessions ≡ sum_by f sessions + sum_by g sessions
  sum-both f g h both [] = refl
  sum-both f g h both (s ∷ sessions) =
      omega (arith, both s, sum-both f g h both sessions, sum_by-cons f s sessions, sum_by-cons g s sessions, sum_by-cons h s sessions)

  sum-none : (sessions : List S) → sum_by (λ s. 0) sessions ≡ 0
  sum-none [] = refl
  sum-none (s ∷ sessions) = omega (arith, sum-none sessions, sum_by-cons (λ x. 0) s sessions)

  module _ (f g : S → ℕ) where
    -- terms that are at most others come to a sum that is at most theirs
    sum-within : (sessions : List S) → ((i : ℕ) (d : S) → i < length sessions → f (get_or sessions i d) ≤ g (get_or sessions i d)) → sum_by f sessions ≤ sum_by g sessions
    sum-within [] within = omega arith
    sum-within (s ∷ sessions) within =
        omega (arith, within 0 s (omega arith), sum-within sessions (λ i d below. within (suc i) d (omega (arith, below))), sum_by-cons f s sessions, sum_by-cons g s sessions)

    -- and where the sum is no less, they are the same
    sum-same : (sessions : List S) → ((i : ℕ) (d : S) → i < length sessions → f (get_or sessions i d) ≤ g (get_or sessions i d)) → sum_by g sessions ≤ sum_by f sessions
        → (i : ℕ) (d : S) → i < length sessions → f (get_or sessions i d) ≡ g (get_or sessions i d)
    sum-same [] within all i d below = absurd (omega (arith, below))
    sum-same (s ∷ sessions) within all zero d below =
        omega (arith, within 0 s (omega arith), sum-within sessions (λ i e there. within (suc i) e (omega (arith, there))), sum_by-cons f s sessions, sum_by-cons g s sessions, all)
    sum-same (s ∷ sessions) within all (suc i) d below =
        sum-same sessions (λ j e there. within (suc j) e (omega (arith, there)))
        (omega (arith, within 0 s (omega arith), sum_by-cons f s sessions, sum_by-cons g s sessions, all)) i d (omega (arith, below))

  -- The sessions have the numbers from k on, in order.
  abbrev AreNumbered : (S → ℕ) → ℕ → List S → Type 0
  AreNumbered number k sessions = (i : ℕ) (d : S) → i < length sessions → number (get_or sessions i d) ≡ k + i

  module _ (number : S → ℕ) where
    abbrev is_of : ℕ → S → ℕ
    is_of app s = cond (app == number s) 1 0

    rest-numbered : (k : ℕ) (s : S) (sessions : List S) → AreNumbered number k (s ∷ sessions) → AreNumbered number (k + 1) sessions
    rest-numbered k s sessions numbered i d below = omega (arith, numbered (suc i) d (omega (arith, below)))

    none-below : (k app : ℕ) (sessions : List S) → AreNumbered number k sessions → app < k → sum_by (is_of app) sessions ≡ 0
    none-below k app [] numbered below = refl
    none-below k app (s ∷ sessions) numbered below =
        let here = ap {B = ℕ} (λ b. cond b 1 0) (ne_eqb app (number s) (λ same. absurd (omega (arith, same, numbered 0 s (omega arith), below)))) in
        omega (arith, here, none-below (k + 1) app sessions (rest-numbered k s sessions numbered) (omega (arith, below)), sum_by-cons (is_of app) s sessions)

    one-of : (k app : ℕ) (sessions : List S) → AreNumbered number k sessions → k ≤ app → app < k + length sessions → sum_by (is_of app) sessions ≡ 1
    one-of k app [] numbered above below = absurd (omega (arith, above, below))
    one-of k app (s ∷ sessions) numbered above below = elim (cases_lt k app) [
      | inl past ↦
          (let here = ap {B = ℕ} (λ b. cond b 1 0) (ne_eqb app (number s) (λ same. absurd (omega (arith, same, numbered 0 s (omega arith), past)))) in
          omega (arith, here, one-of (k + 1) app sessions (rest-numbered k s sessions numbered) (omega (arith, past)) (omega (arith, below)), sum_by-cons (is_of app) s sessions))
      | inr not ↦
          (let here = ap {B = ℕ} (λ b. cond b 1 0) (eq-eqb app (number s) (omega (arith, numbered 0 s (omega arith), above, not))) in
          omega (arith, here, none-below (k + 1) app sessions (rest-numbered k s sessions numbered) (omega (arith, above, not)), sum_by-cons (is_of app) s sessions))
    ]

    length-cond : (own : Bool) (call : Call) (calls : List Call) → length (cond own (call ∷ calls) calls) ≡ cond own 1 0 + length calls
    length-cond true call calls = omega arith
    length-cond false call calls = omega arith

    -- each step is a call of one session
    sum-steps : (sessions : List S) → AreNumbered number 0 sessions → (steps : List Step) → AreCalls (length sessions) steps
        → sum_by (λ s. length (calls_in (number s) steps)) sessions ≡ length steps
    sum-steps sessions numbered [] calls = sum-none sessions
    sum-steps sessions numbered (CallStep app call ∷ steps) calls =
        omega (
          arith,
          sum-both (is_of app) (λ s. length (calls_in (number s) steps)) (λ s. length (calls_in (number s) (CallStep app call ∷ steps)))
              (λ s. length-cond (app == number s) call (calls_in (number s) steps)) sessions,
          one-of 0 app sessions numbered (omega arith) (omega (arith, (All-head (λ step. IsPlaced (length sessions) step × (is_call step ≡ true)) (CallStep app call) steps calls).0)),
          sum-steps sessions numbered steps (All-tail (λ step. IsPlaced (length sessions) step × (is_call step ≡ true)) (CallStep app call) steps calls),
        )
    sum-steps sessions numbered (ControlStep control ∷ steps) calls =
        absurd (true≢false (sym (All-head (λ step. IsPlaced (length sessions) step × (is_call step ≡ true)) (ControlStep control) steps calls).1))

module _ {E : Type 0} (is_reliable : E → Type 0) (draws : E → ℕ) (store : Store) where
  -- a session that had no event made no more calls than its application has
  made-within : (was now : CallerSession E) (steps : List Step) → was.made ≡ 0
      → HasMade is_reliable draws store was now (calls_in was.number steps) ⊎ HasStopped store was now (calls_in was.number steps)
      → (now.number ≡ was.number) × (now.made ≤ length (calls_in now.number steps))
  made-within was now steps none (inl made) = (made.number, omega (arith, made.made, none, ap (λ (n : ℕ). length (calls_in n steps)) made.number))
  made-within was now steps none (inr stopped) = (
    stopped.number,
    omega (arith, stopped.made, none, ap (λ (n : ℕ). length (calls_in n steps)) stopped.number, ap length stopped.cut, length-append stopped.front stopped.rest),
  )

  module _ (was now : List (CallerSession E)) (steps : List Step) (seated : AreSeated store was) (unmade : HaveNoEvents was) (many : length now ≡ length was)
      (worked : HaveWorked is_reliable draws store steps was now) where
    each : (i : ℕ) (d : CallerSession E) → i < length now
        → ((get_or now i d).number ≡ (get_or was i d).number) × ((get_or now i d).made ≤ length (calls_in (get_or now i d).number steps))
    each i d below =
        let there : i < length was = omega (arith, below, many) in
        made-within (get_or was i d) (get_or now i d) steps (unmade i d there) (worked i d there)

    numbered : (i : ℕ) (d : CallerSession E) → i < length now → (get_or now i d).number ≡ 0 + i
    numbered i d below = omega (arith, (each i d below).0, seated.numbered i d (omega (arith, below, many)))

    -- Where they made as many calls as the phase has, each made all of its application.
    pub all-done : AreCalls (length was) steps → length steps ≤ sum_by (λ (s : CallerSession E). s.made) now → list_all (is_done steps) now ≡ true
    all-done calls all =
        let sum = sum-steps (λ (s : CallerSession E). s.number) now numbered steps (subst (λ (n : ℕ). AreCalls n steps) (sym many) calls) in
        list_all-from_AllPass (is_done steps) now (λ i d below.
        eq-eqb (get_or now i d).made (length (calls_in (get_or now i d).number steps))
        (sum-same (λ (s : CallerSession E). s.made) (λ (s : CallerSession E). length (calls_in s.number steps)) now (λ j e there. (each j e there).1) (omega (arith, all, sum)) i d below))
