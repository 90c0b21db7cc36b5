-- The refused calls of all applications, from those of each.
use Rattle.std.proofs.Common.{◌≡◌, ◌≢◌, ◌||◌, ◌+◌, ◌<◌, ◌≤◌, ℕ, zero, suc, Bool, false, All, AllPairs, List, [], ◌∷◌, ◌++◌, length, slice_get, take, get_or, Vec, Global, Option, Some, inl, inr, append-nil, append_assoc, refl, sym, ap, ◌∙◌, subst, arith}
use Rattle.std.specs.List.{list_any}
use Rattle.std.proofs.lemmas.List.{map-append, take_more}
use Rattle.std.proofs.lemmas.List.Elements.{All-append, All-nil, All-weaker}
use Rattle.tee_types.specs.declared.call.Call.{Call}
use Rattle.script_text.specs.declared.script.Step.{Step}
use Rattle.script_text.specs.declared.script.Step.TheVariants.{Call as CallStep}
use Rattle.run_acts.specs.OwnQuotas.{IsCallOf, all_in, lists_in}
use Rattle.run_acts.specs.QuotaRefusals.{ComesBefore, admitted, app_at, app_in, is_refused}
use Rattle.run_acts.specs.ServedSteps.{calls_in}
use Rattle.run_acts.specs.declared.refused_call.RefusedCall.{RefusedCall}
use Rattle.run_acts.proofs.Admissions.{calls_in-same, is_refused-append, is_refused-none}
use Rattle.run_acts.proofs.OwnQuotas.{AllPairs-append}
use Rattle.run_acts.proofs.Tests.{or-none}

-- ALL OF THEM, LIST BY LIST
all_in-append : (a b : List (List RefusedCall)) → all_in (a ++ b) ≡ all_in a ++ all_in b
all_in-append [] b = refl
all_in-append (l ∷ a) b = ap (λ (m : List RefusedCall). l ++ m) (all_in-append a b) ∙ sym (append_assoc l (all_in a) (all_in b))

pub all_in-more : (lists : List (Vec RefusedCall Global)) (index : ℕ) (list : Vec RefusedCall Global) → index < length lists → list ≡ get_or lists index list
    → all_in (lists_in (take (index + 1) lists)) ≡ all_in (lists_in (take index lists)) ++ list.items
all_in-more lists index list below is =
    ap (λ (l : List (Vec RefusedCall Global)). all_in (lists_in l)) (take_more lists index list below ∙ ap (λ (l : Vec RefusedCall Global). take index lists ++ l ∷ []) (sym is))
    ∙ ap all_in (map-append (λ (l : Vec RefusedCall Global). l.items) (take index lists) (list ∷ []))
    ∙ all_in-append (lists_in (take index lists)) (list.items ∷ [])
    ∙ ap (λ (l : List RefusedCall). all_in (lists_in (take index lists)) ++ l) (append-nil list.items)

-- one of all is refused where one of some list is
is_refused-all : (lists : List (List RefusedCall)) (number : ℕ) → is_refused (all_in lists) number ≡ list_any (λ l. is_refused l number) lists
is_refused-all [] number = refl
is_refused-all (l ∷ lists) number = is_refused-append l (all_in lists) number ∙ ap (λ t. is_refused l number || t) (is_refused-all lists number)

or-first : (b c : Bool) → b ≡ false → (b || c) ≡ c
or-first b c none = ap (λ t. t || c) none

none-any : {X : Type 0} (p : X → Bool) (xs : List X) → ((j : ℕ) (d : X) → j < length xs → p (get_or xs j d) ≡ false) → list_any p xs ≡ false
none-any p [] none = refl
none-any p (x ∷ xs) none = or-first (p x) (list_any p xs) (none 0 x (omega arith)) ∙ none-any p xs (λ j d below. none (suc j) d (omega (arith, below)))

one-any : {X : Type 0} (p : X → Bool) (xs : List X) (i : ℕ) (d : X) → i < length xs → ((j : ℕ) (e : X) → j < length xs → j ≢ i → p (get_or xs j e) ≡ false) → list_any p xs ≡ p (get_or xs i d)
one-any p [] i d below others = absurd (omega (arith, below))
one-any p (x ∷ xs) zero d below others = or-none (p x) (list_any p xs) (none-any p xs (λ j e within. others (suc j) e (omega (arith, within)) (λ same. omega (arith, same))))
one-any p (x ∷ xs) (suc i) d below others =
    or-first (p x) (list_any p xs) (others 0 x (omega arith) (λ same. omega (arith, same)))
    ∙ one-any p xs i d (omega (arith, below)) (λ j e within other. others (suc j) e (omega (arith, within)) (λ same. other (omega (arith, same))))

-- what holds of each of each list holds of each of all
pub All-all_in : (P : RefusedCall → Type 0) (lists : List (List RefusedCall)) → ((i : ℕ) (d : List RefusedCall) → i < length lists → All P (get_or lists i d)) → All P (all_in lists)
All-all_in P [] each = All-nil P
All-all_in P (l ∷ lists) each = All-append P l (all_in lists) (each 0 l (omega arith)) (All-all_in P lists (λ i d below. each (suc i) d (omega (arith, below))))

-- none is of a step where none of each list is
pub none-all_in : (lists : List (List RefusedCall)) (number : ℕ) → ((i : ℕ) (d : List RefusedCall) → i < length lists → is_refused (get_or lists i d) number ≡ false) → is_refused (all_in lists) number ≡ false
none-all_in lists number none = is_refused-all lists number ∙ none-any (λ l. is_refused l number) lists none

-- EACH LIST HAS CALLS OF ITS OWN APPLICATION
abbrev pub AreOwnCalls : List Step → (first : ℕ) → List (List RefusedCall) → Type 0
AreOwnCalls steps first lists = (i : ℕ) (d : List RefusedCall) → i < length lists → All (IsCallOf steps (first + i)) (get_or lists i d)

-- so of a step of one application another's list has no call
others-none : (steps : List Step) (l : List RefusedCall) (app other number : ℕ) (call : Call) → app ≢ other → slice_get steps number ≡ Some (CallStep app call) → All (IsCallOf steps other) l
    → is_refused l number ≡ false
others-none steps l app other number call apart is own =
    is_refused-none l number (All-weaker (IsCallOf steps other) (λ r. r.step ≢ number) (λ r c same. not_both r c same) l own)
  where
    not_both : (r : RefusedCall) → IsCallOf steps other r → r.step ≡ number → ⊥
    not_both r c same =
        let both : ◌≡◌ {A = Option Step} (Some (CallStep app call)) (Some (CallStep other c.0)) = sym is ∙ ap (slice_get steps) (sym same) ∙ c.1 in
        apart (ap app_in both)

pub own-all_in : (steps : List Step) (lists : List (List RefusedCall)) (i : ℕ) (d : List RefusedCall) (number : ℕ) (call : Call) → AreOwnCalls steps 0 lists → i < length lists → slice_get steps number ≡ Some (CallStep i call)
    → is_refused (all_in lists) number ≡ is_refused (get_or lists i d) number
own-all_in steps lists i d number call own below is =
    is_refused-all lists number
    ∙ one-any (λ l. is_refused l number) lists i d below
    (λ j e within other. others-none steps (get_or lists j e) i (0 + j) number call (λ same. other (omega (arith, same))) is (own j e within))

-- the steps of a front are those of the whole
pub slice_get-taken : {X : Type 0} (k : ℕ) (xs : List X) (n : ℕ) (x : X) → slice_get (take k xs) n ≡ Some x → slice_get xs n ≡ Some x
slice_get-taken zero xs n x is = absurd (cc (is))
slice_get-taken (suc k) [] n x is = absurd (cc (is))
slice_get-taken (suc k) (y ∷ xs) zero x is = is
slice_get-taken (suc k) (y ∷ xs) (suc n) x is = slice_get-taken k xs n x is

-- the calls of one application that were admitted are told by its own list
pub own-admitted : (steps : List Step) (lists : List (List RefusedCall)) (i : ℕ) (d : List RefusedCall) (k : ℕ) → AreOwnCalls steps 0 lists → i < length lists
    → calls_in i (admitted (all_in lists) (take k steps)) ≡ calls_in i (admitted (get_or lists i d) (take k steps))
own-admitted steps lists i d k own below =
    calls_in-same i 0 (all_in lists) (get_or lists i d) (take k steps)
    (λ n call is.
    let here : n ≡ 0 + n = omega arith in
    subst (λ (m : ℕ). is_refused (all_in lists) m ≡ is_refused (get_or lists i d) m) here (own-all_in steps lists i d n call own below (slice_get-taken k steps n (CallStep i call) is)))

-- THEIR ORDER
app_at-own : (steps : List Step) (app : ℕ) (r : RefusedCall) → IsCallOf steps app r → app_at steps r.step ≡ app
app_at-own steps app r c = ap app_in c.1

module _ (steps : List Step) where
  apps-above : (first least : ℕ) (lists : List (List RefusedCall)) → least ≤ first → AreOwnCalls steps first lists → All (λ r. least ≤ app_at steps r.step) (all_in lists)
  apps-above first least lists from own =
      All-all_in (λ r. least ≤ app_at steps r.step) lists
      (λ i d below. All-weaker (IsCallOf steps (first + i)) (λ r. least ≤ app_at steps r.step) (λ r c. let at = app_at-own steps (first + i) r c in omega (arith, at, from)) (get_or lists i d) (own i d below))

  ordered-one : (app : ℕ) (l : List RefusedCall) → All (IsCallOf steps app) l → AllPairs (λ a b. a.step < b.step) l → AllPairs (ComesBefore steps) l
  ordered-one app l own rising i j d less below =
      let first = app_at-own steps app (get_or l i d) (own i d (omega (arith, less, below))) in
      let second = app_at-own steps app (get_or l j d) (own j d below) in
      inr (first ∙ sym second, rising i j d less below)

  pub ordered-all_in : (first : ℕ) (lists : List (List RefusedCall)) → AreOwnCalls steps first lists → ((i : ℕ) (d : List RefusedCall) → i < length lists → AllPairs (λ a b. a.step < b.step) (get_or lists i d))
      → AllPairs (ComesBefore steps) (all_in lists)
  ordered-all_in first [] own rising = λ i j d less below. absurd (omega (arith, below))
  ordered-all_in first (l ∷ lists) own rising =
      let here : first + 0 ≡ first = omega arith in
      let mine : All (IsCallOf steps first) l = subst (λ (n : ℕ). All (IsCallOf steps n) l) here (own 0 l (omega arith)) in
      let later : AreOwnCalls steps (suc first) lists =
      λ i d below. let next : first + suc i ≡ suc first + i = omega arith in subst (λ (n : ℕ). All (IsCallOf steps n) (get_or lists i d)) next (own (suc i) d (omega (arith, below))) in
      let above = apps-above (suc first) (suc first) lists (omega arith) later in
      AllPairs-append (ComesBefore steps) l (all_in lists) (ordered-one first l mine (rising 0 l (omega arith)))
      (ordered-all_in (suc first) lists later (λ i d below. rising (suc i) d (omega (arith, below))))
      (λ i j d below within. inl (let a = app_at-own steps first (get_or l i d) (mine i d below) in let b = above j d within in omega (arith, a, b)))
