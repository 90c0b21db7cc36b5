-- Sessions that made their calls under quotas on threads, each with the calls of its own that were refused.
use Rattle.std.proofs.Common.{◌≡◌, ◌+◌, ◌<◌, ◌⊎◌, ℕ, Bool, true, false, All, List, [], length, slice_index_or, eq-eqb, inl, inr, sym, ap, subst, arith}
use Rattle.std.specs.List.{list_all}
use Rattle.std.proofs.lemmas.List.{take_all}
use Rattle.std.proofs.lemmas.List.Elements.{All-weaker}
use Rattle.std.proofs.lemmas.List.Sums.{list_all-from_AllPass}
use Rattle.app_quota.specs.Limits.{Limits}
use Rattle.core_laws.specs.Stores.{Store}
use Rattle.object_calls.specs.OpeningSessions.{AreSeated, HaveNoEvents}
use Rattle.script_text.specs.declared.script.Step.{Step}
use Rattle.quota_store.specs.CallerSessions.{CallerSession}
use Rattle.run_acts.specs.OwnCalls.{HasMade, HasStopped, HaveWorked, is_done}
use Rattle.run_acts.specs.OwnQuotas.{IsCallOf, KeepLimitsOver, WasRefused, all_in}
use Rattle.run_acts.specs.QuotaRefusals.{admitted}
use Rattle.run_acts.specs.QuotaWork.{HasMadeWithin, HasStoppedWithin, HaveWorkedTo, LeaveWork}
use Rattle.run_acts.specs.ServedSteps.{calls_in}
use Rattle.run_acts.specs.declared.refused_call.RefusedCall.{RefusedCall}
use Rattle.run_acts.proofs.Lists.{at_each}
use Rattle.run_acts.proofs.QuotaLists.{AreOwnCalls, own-admitted}

module _ {E : Type 0} (is_reliable : E → Type 0) (draws : E → ℕ) (store : Store) (limits : Limits) (steps : List Step) where
  -- a session's refused calls are its own
  own-made : (was now : CallerSession E) (refused : List RefusedCall) → HasMadeWithin is_reliable draws store limits steps was now refused → All (IsCallOf steps was.number) refused
  own-made was now refused m = All-weaker (WasRefused store limits steps was now refused) (IsCallOf steps was.number) (λ r w. (w.call, w.is)) refused m.keeps.rightly

  module _ (was now : List (CallerSession E)) (lists : List (List RefusedCall)) (seated : AreSeated store was) (many : length now ≡ length was) (listed : length lists ≡ length was)
      (worked : (i : ℕ) (d : CallerSession E) (none : List RefusedCall) → i < length was
      → HasMadeWithin is_reliable draws store limits steps (slice_index_or was i d) (slice_index_or now i d) (slice_index_or lists i none)
      ⊎ HasStoppedWithin is_reliable draws store limits steps (slice_index_or was i d) (slice_index_or now i d) (slice_index_or lists i none)) where
    own-one : (i : ℕ) (d : CallerSession E) (none : List RefusedCall) → i < length was → All (IsCallOf steps (0 + i)) (slice_index_or lists i none)
    own-one i d none below =
        let number : (slice_index_or was i d).number ≡ 0 + i = omega (arith, seated.numbered i d below) in
        subst (λ (n : ℕ). All (IsCallOf steps n) (slice_index_or lists i none)) number (elim (worked i d none below) [
          | inl made ↦ own-made (slice_index_or was i d) (slice_index_or now i d) (slice_index_or lists i none) made
          | inr stopped ↦ stopped.own
        ])

    pub own-lists : AreOwnCalls steps 0 lists
    own-lists i none below = at_each was (λ n. All (IsCallOf steps (0 + n)) (slice_index_or lists n none)) (λ n d within. own-one n d none within) i (omega (arith, below, listed))

    -- the calls that a session's own list admits are those that all admit
    admitted-own : (i : ℕ) (d : CallerSession E) (none : List RefusedCall) → i < length was
        → calls_in (slice_index_or was i d).number (admitted (slice_index_or lists i none) steps) ≡ calls_in (slice_index_or was i d).number (admitted (all_in lists) steps)
    admitted-own i d none below =
        let whole = take_all (length steps) steps (omega arith) in
        subst (λ (n : ℕ). calls_in n (admitted (slice_index_or lists i none) steps) ≡ calls_in n (admitted (all_in lists) steps)) (sym (seated.numbered i d below))
        (sym (subst (λ (l : List Step). calls_in i (admitted (all_in lists) l) ≡ calls_in i (admitted (slice_index_or lists i none) l)) whole
        (own-admitted steps lists i none (length steps) own-lists (omega (arith, below, listed)))))

    -- so each made its calls of the steps that were admitted, or memory ran out
    pub worked-admitted : HaveWorked is_reliable draws store (admitted (all_in lists) steps) was now
    worked-admitted i d below = elim (worked i d [] below) [
      | inl made ↦ inl (subst (HasMade is_reliable draws store (slice_index_or was i d) (slice_index_or now i d)) (admitted-own i d [] below) made.made)
      | inr stopped ↦ inr (subst (HasStopped store (slice_index_or was i d) (slice_index_or now i d)) (admitted-own i d [] below) stopped.stopped)
    ]

  -- WHERE ALL ARE DONE
  module _ (was now : List (CallerSession E)) (lists : List (List RefusedCall)) (seated : AreSeated store was) (unmade : HaveNoEvents was) (many : length now ≡ length was) (listed : length lists ≡ length was)
      (worked : (i : ℕ) (d : CallerSession E) (none : List RefusedCall) → i < length was
      → HasMadeWithin is_reliable draws store limits steps (slice_index_or was i d) (slice_index_or now i d) (slice_index_or lists i none)) where
    all-worked : HaveWorked is_reliable draws store (admitted (all_in lists) steps) was now
    all-worked = worked-admitted was now lists seated many listed (λ i d none below. inl (worked i d none below))

    pub all-worked-admitted : HaveWorked is_reliable draws store (admitted (all_in lists) steps) was now
    all-worked-admitted = all-worked

    one-done : (i : ℕ) (d : CallerSession E) → i < length was → is_done (admitted (all_in lists) steps) (slice_index_or now i d) ≡ true
    one-done i d below =
        let m = (worked i d [] below).made in
        let all = admitted-own was now lists seated many listed (λ k e none within. inl (worked k e none within)) i d [] below in
        let number : (slice_index_or now i d).number ≡ (slice_index_or was i d).number = m.number in
        let counted : (slice_index_or now i d).made ≡ length (calls_in (slice_index_or now i d).number (admitted (all_in lists) steps)) =
        omega (arith, m.made, unmade i d below, ap length all, ap (λ (n : ℕ). length (calls_in n (admitted (all_in lists) steps))) number) in
        eq-eqb (slice_index_or now i d).made (length (calls_in (slice_index_or now i d).number (admitted (all_in lists) steps))) counted

    pub all-done : list_all (is_done (admitted (all_in lists) steps)) now ≡ true
    all-done = list_all-from_AllPass (is_done (admitted (all_in lists) steps)) now (λ i d below. one-done i d (omega (arith, below, many)))

    pub all-keep : KeepLimitsOver store limits steps was now lists
    all-keep i d none below = (worked i d none below).keeps

  -- WHETHER THEY ARE OR NOT
  some-way : (done : Bool) (was now : List (CallerSession E)) (lists : List (List RefusedCall)) → HaveWorkedTo is_reliable draws store limits steps done was now lists
      → (i : ℕ) (d : CallerSession E) (none : List RefusedCall) → i < length was → HasMadeWithin is_reliable draws store limits steps (slice_index_or was i d) (slice_index_or now i d) (slice_index_or lists i none)
      ⊎ HasStoppedWithin is_reliable draws store limits steps (slice_index_or was i d) (slice_index_or now i d) (slice_index_or lists i none)
  some-way true was now lists worked i d none below = inl (worked i d none below)
  some-way false was now lists worked i d none below = worked i d none below

  pub left-worked : (done : Bool) (was now : List (CallerSession E)) (lists : List (List RefusedCall)) → AreSeated store was → LeaveWork is_reliable draws store limits steps done was now lists
      → HaveWorked is_reliable draws store (admitted (all_in lists) steps) was now
  left-worked done was now lists seated left = worked-admitted was now lists seated left.many left.listed (some-way done was now lists left.worked)
