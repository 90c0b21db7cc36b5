-- Calls that are made one after another under quotas.
use Rattle.std.proofs.Common.{◌≡◌, ◌≢◌, ◌==◌, ◌||◌, ◌<◌, ◌⊎◌, ℕ, zero, suc, false, List, [], ◌∷◌, ◌++◌, length, get_or, replicate, take, Vec, Global, Option, Some, None, Result, Ok, Err, eq-eqb, inl, inr, refl, sym, ap, ◌∙◌, subst, arith}
use Rattle.std.specs.Prelude.{slice_set}
use Rattle.std.proofs.lemmas.Bool.{cases_eq, ne_eqb, or_right}
use Rattle.std.proofs.lemmas.List.{append-nil, get_or-map, get_or-replicate, get_or-set_other, get_or-set_same, get_or_default, map-set, set-get_or}
use Rattle.disk_model.specs.State.{FileState}
use Rattle.rpmb_card.specs.Port.{PortState}
use Rattle.tee_types.specs.declared.call.Call.{Call}
use Rattle.tee_types.specs.declared.reply.Reply.TheVariants.{NoMemory}
use Rattle.app_totals.specs.declared.numbers.Totals.{Totals}
use Rattle.app_quota.specs.Limits.{Limits}
use Rattle.app_quota.specs.Quotas.{limit_of}
use Rattle.app_quota.specs.declared.quotas.Quota.{Quota}
use Rattle.core_laws.specs.Stores.{Store}
use Rattle.object_calls.specs.Calling.{AnswersCall, AnswersWithin}
use Rattle.object_calls.specs.OpeningSessions.{AreSeated}
use Rattle.object_calls.specs.Services.{ServiceValue}
use Rattle.script_text.specs.declared.script.Step.{Step}
use Rattle.script_text.specs.declared.script.Step.TheVariants.{Call as CallStep}
use Rattle.quota_store.specs.CallerSessions.{CallerSession}
use Rattle.quota_store.specs.QuotaCallers.{IfRefused, IsRefusedRightly, KeepsLimits, answer_in}
use Rattle.quota_store.specs.declared.PlacedReply.{PlacedReply}
use Rattle.quota_store.specs.declared.QuotaOutcome.{QuotaOutcome}
use Rattle.quota_store.specs.declared.QuotaOutcome.TheVariants.{Answered, Refused}
use Rattle.run_acts.specs.MadeCalls.{MakesCalls}
use Rattle.run_acts.specs.OwnQuotas.{CallsWithin, KeepsLimitsOver, all_in, lists_in}
use Rattle.run_acts.specs.QuotaCalls.{MakesCallsWithin, MakesFrontWithin}
use Rattle.run_acts.specs.QuotaRefusals.{admitted, is_refused}
use Rattle.run_acts.specs.declared.refused_call.RefusedCall.{RefusedCall}
use Rattle.run_acts.proofs.Admissions.{admitted-more, admitted-refused, admitted-same, is_refused-append, is_refused-more}
use Rattle.run_acts.proofs.Lists.{at_each}
use Rattle.run_acts.proofs.OneCall.{made_none, made_one, seated_behind}
use Rattle.run_acts.proofs.OwnQuotas.{keeps-answered, keeps-none, keeps-other, keeps-refused, none-behind, refused-within}
use Rattle.run_acts.proofs.Phases.{makes_none, makes_then}
use Rattle.run_acts.proofs.QuotaLists.{none-all_in}
use Rattle.run_acts.proofs.QuotaSteps.{other-call}
use Rattle.run_acts.proofs.Tests.{or-assoc, or-moved, or-none}

-- ONE CALL UNDER A QUOTA, AS A CALL
module _ {F R E : Type 0} (of_file : F → FileState) (of_port : R → PortState) (draws : E → ℕ) (store : Store) (old new : ServiceValue F R) (was now : CallerSession E) (call : Call) where
  pub as-answered : (answer : PlacedReply) → AnswersWithin of_file of_port draws {X = Unit {0}} store old new was now call (Ok answer)
      → AnswersCall of_file of_port draws store old new was now call (Some answer.place) answer.reply
  as-answered answer w = record { at = w.at; devices = w.devices; held = w.held; storage_key = w.storage_key; spare = w.spare }

  pub as-none : AnswersWithin of_file of_port draws {X = Unit {0}} store old new was now call (Err tt) → AnswersCall of_file of_port draws store old new was now call None NoMemory
  as-none w = record { at = (refl, w.at); devices = w.devices; held = w.held; storage_key = w.storage_key; spare = w.spare }

  module _ (limits : Limits) (limit : Totals) (limited : limits was.state.application ≡ limit) (keeps : KeepsLimits store limit was now) where
    pub within-answered : (answer : PlacedReply) → AnswersWithin of_file of_port draws {X = Unit {0}} store old new was now call (Ok answer) → CallsWithin store limits was now call None
    within-answered answer w =
        let goes = w.at.goes_on in record { ends = (answer, record { mark = goes.mark; appends = goes.appends }); kept = keeps limits limited }

    pub within-refused : (place : ℕ) → AnswersWithin of_file of_port draws {X = Unit {0}} store old new was now call (Err tt) → IsRefusedRightly store limit was now call place
        → CallsWithin store limits was now call (Some place)
    within-refused place w refused =
        record { ends = (w.at.waits, refused limits limited); kept = keeps limits limited }

-- ONE CALL OF A SESSION UNDER THE LIMIT OF ITS APPLICATION
module _ {F R E X : Type 0} (of_file : F → FileState) (of_port : R → PortState) (draws : E → ℕ) (store : Store) (old new : ServiceValue F R) (was : List (CallerSession E)) (app : ℕ) (found after : CallerSession E)
    (call : Call) (seated : AreSeated store was) (within : app < length was) (r : Result QuotaOutcome X) (answers : AnswersWithin of_file of_port draws store old new (get_or was app found) after call (answer_in r)) where
  abbrev asking : CallerSession E
  asking = get_or was app found

  abbrev behind : List (CallerSession E)
  behind = slice_set was app after

  -- every other session is as it was
  pub others-same : (d : CallerSession E) → behind ≡ slice_set was app (get_or behind app d)
  others-same d = ap (λ (s : CallerSession E). slice_set was app s) (sym (get_or-set_same was app after d within))

  called-there : (limits : Limits) (refused : Option ℕ) → CallsWithin store limits asking after call refused → (d : CallerSession E) → CallsWithin store limits (get_or was app d) (get_or behind app d) call refused
  called-there limits refused called d =
      subst (λ (p : CallerSession E × CallerSession E). CallsWithin store limits p.0 p.1 call refused)
      (λ i. (sym (get_or_default was app d found within) i, sym (get_or-set_same was app after d within) i)) called

  -- it has its event
  module _ (answer : PlacedReply) (is : r ≡ Ok (Answered answer)) where
    answered-there : AnswersWithin of_file of_port draws {X = Unit {0}} store old new asking after call (Ok answer)
    answered-there = subst (λ (x : Result QuotaOutcome X). AnswersWithin of_file of_port draws store old new asking after call (answer_in x)) is answers

    pub made-answered : MakesCalls of_file of_port draws store old new was behind (CallStep app call ∷ [])
    made-answered = made_one of_file of_port draws store old new was app found after call answer.reply seated within answer.place (as-answered of_file of_port draws store old new asking after call answer answered-there)

    pub seated-answered : AreSeated store behind
    seated-answered =
        seated_behind of_file of_port draws store old new was app found after call answer.reply seated within (Some answer.place) (as-answered of_file of_port draws store old new asking after call answer answered-there)

    pub called-answered : (quotas : List Quota) (limit : Totals) → limit ≡ limit_of quotas asking.state.application → KeepsLimits store limit asking after
        → (d : CallerSession E) → CallsWithin store (limit_of quotas) (get_or was app d) (get_or behind app d) call None
    called-answered quotas limit limited keeps =
        called-there (limit_of quotas) None (within-answered of_file of_port draws store old new asking after call (limit_of quotas) limit (sym limited) keeps answer answered-there)

  -- it has none
  module _ (none : answer_in r ≡ Err tt) where
    none-there : AnswersWithin of_file of_port draws {X = Unit {0}} store old new asking after call (Err tt)
    none-there = subst (AnswersWithin of_file of_port draws store old new asking after call) none answers

    pub made-nothing : MakesCalls of_file of_port draws store old new was behind []
    made-nothing = made_none of_file of_port draws store old new was app found after call NoMemory seated within (as-none of_file of_port draws store old new asking after call none-there)

    pub seated-still : AreSeated store behind
    seated-still = seated_behind of_file of_port draws store old new was app found after call NoMemory seated within None (as-none of_file of_port draws store old new asking after call none-there)

  pub called-refused : (place : ℕ) → r ≡ Ok (Refused place) → (quotas : List Quota) (limit : Totals) → limit ≡ limit_of quotas asking.state.application → KeepsLimits store limit asking after
      → IfRefused r (IsRefusedRightly store limit asking after call) → (d : CallerSession E) → CallsWithin store (limit_of quotas) (get_or was app d) (get_or behind app d) call (Some place)
  called-refused place is quotas limit limited keeps refused =
      called-there (limit_of quotas) (Some place)
      (within-refused of_file of_port draws store old new asking after call (limit_of quotas) limit (sym limited) keeps place (none-there (ap answer_in is))
      (subst (λ (x : Result QuotaOutcome X). IfRefused x (IsRefusedRightly store limit asking after call)) is refused))

-- LISTS OF WHICH ONE GREW
pub noted-lists : (lists : List (Vec RefusedCall Global)) (app : ℕ) (found after : Vec RefusedCall Global) (r : RefusedCall) → app < length lists → after.items ≡ (get_or lists app found).items ++ r ∷ []
    → lists_in (slice_set lists app after) ≡ slice_set (lists_in lists) app (get_or (lists_in lists) app [] ++ r ∷ [])
noted-lists lists app found after r below grew =
    let items_of = λ (l : Vec RefusedCall Global). l.items in
    map-set items_of lists app after
    ∙ ap (slice_set (lists_in lists) app) (grew ∙ ap (λ (l : List RefusedCall). l ++ r ∷ []) (sym (get_or-map items_of lists app found [] below)))

pub same-lists : (lists : List (Vec RefusedCall Global)) (app : ℕ) (found after : Vec RefusedCall Global) → app < length lists → after.items ≡ (get_or lists app found).items
    → lists_in (slice_set lists app after) ≡ lists_in lists
same-lists lists app found after below same =
    let items_of = λ (l : Vec RefusedCall Global). l.items in
    map-set items_of lists app after
    ∙ ap (slice_set (lists_in lists) app) (same ∙ sym (get_or-map items_of lists app found [] below))
    ∙ set-get_or (lists_in lists) app []

noted-in : (lists : List (List RefusedCall)) (i : ℕ) (d : List RefusedCall) (r : RefusedCall) (n : ℕ) → i < length lists
    → is_refused (all_in (slice_set lists i (get_or lists i d ++ r ∷ []))) n ≡ (is_refused (all_in lists) n || (r.step == n))
noted-in [] i d r n below = absurd (omega (arith, below))
noted-in (l ∷ lists) zero d r n below =
    is_refused-append (l ++ r ∷ []) (all_in lists) n
    ∙ ap (λ t. t || is_refused (all_in lists) n) (is_refused-more l r n)
    ∙ or-moved (is_refused l n) (is_refused (all_in lists) n) (r.step == n)
    ∙ ap (λ t. t || (r.step == n)) (sym (is_refused-append l (all_in lists) n))
noted-in (l ∷ lists) (suc i) d r n below =
    is_refused-append l (all_in (slice_set lists i (get_or lists i d ++ r ∷ []))) n
    ∙ ap (λ t. is_refused l n || t) (noted-in lists i d r n (omega (arith, below)))
    ∙ sym (or-assoc (is_refused l n) (is_refused (all_in lists) n) (r.step == n))
    ∙ ap (λ t. t || (r.step == n)) (sym (is_refused-append l (all_in lists) n))

module _ {F R E : Type 0} (of_file : F → FileState) (of_port : R → PortState) (draws : E → ℕ) (store : Store) (limits : Limits) where
  abbrev Within : (old new : ServiceValue F R) → (was now : List (CallerSession E)) → List Step → List (List RefusedCall) → Type 0
  Within old new was now steps lists = MakesCallsWithin of_file of_port draws store limits old new was now steps lists

  pub within-none : (s : ServiceValue F R) (sessions : List (CallerSession E)) → AreSeated store sessions → Within s s sessions sessions [] (replicate (length sessions) [])
  within-none s sessions seated = record {
    makes = makes_none of_file of_port draws store s sessions;
    keep = λ i d none below.
        let here : get_or (replicate (length sessions) []) i none ≡ [] = get_or-replicate (length sessions) i [] none below in
        subst (KeepsLimitsOver store limits [] (get_or sessions i d) (get_or sessions i d)) (sym here) (keeps-none store limits (get_or sessions i d) (seated.each i d below));
  }

  module _ (old mid new : ServiceValue F R) (was middle now : List (CallerSession E)) (steps : List Step) (lists : List (List RefusedCall)) (app : ℕ) (call : Call) (seated : AreSeated store middle)
      (many : length was ≡ length middle) (listed : length lists ≡ length middle) (w : Within old mid was middle steps lists) (below : app < length middle)
      (others : (d : CallerSession E) → now ≡ slice_set middle app (get_or now app d)) where
    abbrev step : Step
    step = CallStep app call

    abbrev next : List Step
    next = steps ++ step ∷ []

    within-was : (i : ℕ) → i < length middle → i < length was
    within-was i lt = omega (arith, lt, many)

    -- no call is noted of the next step
    none-noted : is_refused (all_in lists) (length steps) ≡ false
    none-noted =
        none-all_in lists (length steps)
        (λ i none lt. at_each middle (λ n. is_refused (get_or lists n none) (length steps) ≡ false) (λ n d there. one-none n d none there) i (omega (arith, lt, listed)))
      where
        one-none : (n : ℕ) (d : CallerSession E) (none : List RefusedCall) → n < length middle → is_refused (get_or lists n none) (length steps) ≡ false
        one-none n d none there =
            let k = w.keep n d none (within-was n there) in
            none-behind steps (get_or lists n none) (refused-within store limits steps (get_or was n d) (get_or middle n d) (get_or lists n none) (get_or lists n none) k.rightly)

    number : (i : ℕ) (d : CallerSession E) → i < length middle → (get_or was i d).number ≡ i
    number i d lt = sym (w.keep i d [] (within-was i lt)).number ∙ seated.numbered i d lt

    -- another session's calls
    other-keeps : (i : ℕ) (d : CallerSession E) (none : List RefusedCall) → i < length middle → i ≢ app → KeepsLimitsOver store limits next (get_or was i d) (get_or now i d) (get_or lists i none)
    other-keeps i d none lt other =
        let same : get_or now i d ≡ get_or middle i d = ap (λ (l : List (CallerSession E)). get_or l i d) (others d) ∙ get_or-set_other middle app i (get_or now app d) d other in
        subst (λ (s : CallerSession E). KeepsLimitsOver store limits next (get_or was i d) s (get_or lists i none)) (sym same)
        (keeps-other store limits steps step (get_or was i d) (get_or middle i d) (get_or lists i none) (w.keep i d none (within-was i lt))
        (other-call (get_or was i d).number app call (λ is. other (sym (is ∙ number i d lt)))))

    own : (d : CallerSession E) → step ≡ CallStep (get_or was app d).number call
    own d = ap (λ (n : ℕ). CallStep n call) (sym (number app d below))

    -- the call was made
    pub within-made : MakesCalls of_file of_port draws store mid new middle now (step ∷ []) → ((d : CallerSession E) → CallsWithin store limits (get_or middle app d) (get_or now app d) call None) → Within old new was now next lists
    within-made makes called = record {
      makes = subst (MakesCalls of_file of_port draws store old new was now) (sym (admitted-more (all_in lists) steps step none-noted))
          (makes_then of_file of_port draws store old mid new was middle now (admitted (all_in lists) steps) (step ∷ []) (sym many) w.makes makes);
      keep = λ i d none lt. each i d none (omega (arith, lt, many)) (cases_eq i app);
    }
      where
        each : (i : ℕ) (d : CallerSession E) (none : List RefusedCall) → i < length middle → (i ≡ app) ⊎ (i ≡ app → ⊥) → KeepsLimitsOver store limits next (get_or was i d) (get_or now i d) (get_or lists i none)
        each i d none lt (inr other) = other-keeps i d none lt other
        each i d none lt (inl is) =
            subst (λ (n : ℕ). KeepsLimitsOver store limits next (get_or was n d) (get_or now n d) (get_or lists n none)) (sym is)
            (keeps-answered store limits steps step (get_or was app d) (get_or middle app d) (get_or lists app none) (w.keep app d none (within-was app below)) (get_or now app d) call (own d) (called d))

    -- the call was refused, and noted
    module _ (place : ℕ) (makes : MakesCalls of_file of_port draws store mid new middle now []) (called : (d : CallerSession E) → CallsWithin store limits (get_or middle app d) (get_or now app d) call (Some place)) where
      abbrev noted : RefusedCall
      noted = record { step = length steps; place = place }

      abbrev more : List (List RefusedCall)
      more = slice_set lists app (get_or lists app [] ++ noted ∷ [])

      tells : (n : ℕ) → is_refused (all_in more) n ≡ (is_refused (all_in lists) n || (length steps == n))
      tells n = noted-in lists app [] noted n (omega (arith, below, listed))

      admitted-are : admitted (all_in more) next ≡ admitted (all_in lists) steps ++ []
      admitted-are =
          admitted-refused (all_in more) steps step (tells (length steps) ∙ or_right (is_refused (all_in lists) (length steps)) (length steps == length steps) (eq-eqb (length steps) (length steps) refl))
          ∙ admitted-same (all_in more) (all_in lists) steps (λ n lt. tells n ∙ or-none (is_refused (all_in lists) n) (length steps == n) (ne_eqb (length steps) n (λ is. omega (arith, is, lt))))
          ∙ sym (append-nil (admitted (all_in lists) steps))

      pub within-noted : Within old new was now next more
      within-noted = record {
        makes = subst (MakesCalls of_file of_port draws store old new was now) (sym admitted-are)
            (makes_then of_file of_port draws store old mid new was middle now (admitted (all_in lists) steps) [] (sym many) w.makes makes);
        keep = λ i d none lt. each i d none (omega (arith, lt, many)) (cases_eq i app);
      }
        where
          each : (i : ℕ) (d : CallerSession E) (none : List RefusedCall) → i < length middle → (i ≡ app) ⊎ (i ≡ app → ⊥) → KeepsLimitsOver store limits next (get_or was i d) (get_or now i d) (get_or more i none)
          each i d none lt (inr other) =
              subst (KeepsLimitsOver store limits next (get_or was i d) (get_or now i d)) (sym (get_or-set_other lists app i (get_or lists app [] ++ noted ∷ []) none other)) (other-keeps i d none lt other)
          each i d none lt (inl is) =
              subst (λ (n : ℕ). KeepsLimitsOver store limits next (get_or was n d) (get_or now n d) (get_or more n none)) (sym is)
              (subst (KeepsLimitsOver store limits next (get_or was app d) (get_or now app d)) (sym (get_or-set_same lists app (get_or lists app [] ++ noted ∷ []) none (omega (arith, below, listed))))
              (keeps-refused store limits steps step (get_or was app d) (get_or middle app d) (get_or lists app []) (w.keep app d [] (within-was app below)) (get_or now app d) call (own d) place (called d)))

  -- memory ran out in the next call
  pub within-stopped : (old mid new : ServiceValue F R) (was middle now : List (CallerSession E)) (steps : List Step) (index : ℕ) → index < length steps → (lists after : List (List RefusedCall))
      → length middle ≡ length was → Within old mid was middle (take index steps) lists → MakesCalls of_file of_port draws store mid new middle now [] → after ≡ lists
      → MakesFrontWithin of_file of_port draws store old new was now steps after
  within-stopped old mid new was middle now steps index below lists after many w makes same = (
    index,
    below,
    subst (λ (l : List (List RefusedCall)). MakesCalls of_file of_port draws store old new was now (admitted (all_in l) (take index steps))) (sym same)
        (subst (MakesCalls of_file of_port draws store old new was now) (append-nil (admitted (all_in lists) (take index steps)))
        (makes_then of_file of_port draws store old mid new was middle now (admitted (all_in lists) (take index steps)) [] many w.makes makes)),
  )
