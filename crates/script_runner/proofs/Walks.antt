-- Going through acts one after another: their records, their text, and what holds all the way.
use Rattle.std.proofs.Common.{◌≡◌, ◌⊎◌, ◌+◌, ℕ, List, [], ◌∷◌, ◌++◌, None, inl, inr, refl, sym, ap, ◌∙◌, subst, arith, append_assoc, append-nil}
use Rattle.disk_model.specs.State.{FileState}
use Rattle.hmac_keys.specs.declared.Keys.{Keys}
use Rattle.rpmb_card.specs.Port.{PortState}
use Rattle.run_acts.specs.Benches.{BenchState}
use Rattle.script_text.specs.declared.script.Control.{Control}
use Rattle.script_text.specs.declared.script.Control.TheVariants.{Arm as ArmControl, Crash, Flip, List as ListControl, Mode as ModeControl, Phase, Quota as QuotaControl, Restore, Save}
use Rattle.script_text.specs.Script.{ScriptValue}
use Rattle.script_text.specs.Text.{control_line}
use Rattle.run_acts.specs.Lines.{objects_text}
use Rattle.script_runner.specs.Course.{AreActs, Does, Goes, IsDone, StopsAt}
use Rattle.script_runner.specs.Points.{phases_in}
use Rattle.script_runner.specs.Records.{EachAct, EachBench, RunRecord, acts_in, outcomes_in}
use Rattle.script_runner.specs.SavedFiles.{Standing}
use Rattle.script_runner.specs.Text.{Act, ActOutcome, Controlled, Do, Listed, Ran, Serve, acts_text, phase_text, stop_of}

-- RECORDS ONE BEHIND THE OTHER
pub acts_in-append : (front back : List RunRecord) → acts_in (front ++ back) ≡ acts_in front ++ acts_in back
acts_in-append [] back = refl
acts_in-append (r ∷ front) back = ap (λ l. r.act ∷ l) (acts_in-append front back)

pub outcomes_in-append : (front back : List RunRecord) → outcomes_in (front ++ back) ≡ outcomes_in front ++ outcomes_in back
outcomes_in-append [] back = refl
outcomes_in-append (r ∷ front) back = ap (λ l. r.outcome ∷ l) (outcomes_in-append front back)

pub phases_in-append : (done acts : List Act) → phases_in (done ++ acts) ≡ phases_in done + phases_in acts
phases_in-append [] acts = omega arith
phases_in-append (Serve mode calls ∷ done) acts = omega (arith, phases_in-append done acts)
phases_in-append (Do control ∷ done) acts = phases_in-append done acts

-- what holds of every bench in front of an act, and of the one behind the last of these, and of the one behind one more
pub each_bench-more : (P : List RunRecord → BenchState → Type 0) (done front : List RunRecord) (r : RunRecord) (mid given : BenchState) → EachBench P done front mid → (r.before).bench ≡ mid
    → P (done ++ (front ++ r ∷ [])) given → EachBench P done (front ++ r ∷ []) given
each_bench-more P done [] r mid given holds is last = (subst (P done) (sym is) holds, last)
each_bench-more P done (first ∷ front) r mid given holds is last =
    (holds.0, each_bench-more P (done ++ first ∷ []) front r mid given holds.1 is (subst (λ (l : List RunRecord). P l given) (sym (append_assoc done (first ∷ []) (front ++ r ∷ []))) last))

-- so of each act, and one more
pub each_act-more : (P : List RunRecord → RunRecord → Type 0) (done front : List RunRecord) (r : RunRecord) → EachAct P done front → P (done ++ front) r → EachAct P done (front ++ r ∷ [])
each_act-more P done [] r each last = (subst (λ (l : List RunRecord). P l r) (append-nil done) last, tt)
each_act-more P done (first ∷ front) r each last =
    (each.0, each_act-more P (done ++ first ∷ []) front r each.1 (subst (λ (l : List RunRecord). P l r) (sym (append_assoc done (first ∷ []) front)) last))

module _ {F R : Type 0} (of_file : F → FileState) (of_port : R → PortState) (image : FileState → ℕ → ℕ → List ℕ) (Reliable : Type 0) (keys : Keys) (apps : List (List ℕ)) where
  abbrev Does' : Act → ActOutcome → (old new : Standing) → Type 0
  Does' act outcome old new = Does of_file of_port image Reliable keys apps act outcome old new

  abbrev pub IsDone' : RunRecord → Type 0
  IsDone' r = IsDone of_file of_port image Reliable keys apps r

  abbrev pub Goes' : List RunRecord → (old new : Standing) → Type 0
  Goes' records old new = Goes of_file of_port image Reliable keys apps records old new

  pub goes-append : (front back : List RunRecord) (old mid new : Standing) → Goes' front old mid → Goes' back mid new → Goes' (front ++ back) old new
  goes-append [] back old mid new h g = subst (λ (s : Standing). Goes' back s new) h g
  goes-append (r ∷ front) back old mid new h g = (h.0, h.1, goes-append front back r.behind mid new h.2 g)

  -- an act that was done is no stop
  does-no_stop : (act : Act) (outcome : ActOutcome) (old new : Standing) → Does' act outcome old new → (rest : List ActOutcome) → stop_of (outcome ∷ rest) ≡ stop_of rest
  does-no_stop act (Ran phase) old new does rest = refl
  does-no_stop act (Listed objects) old new does rest = refl
  does-no_stop act Controlled old new does rest = refl
  does-no_stop (Serve mode calls) outcome old new does rest = absurd does
  does-no_stop (Do control) outcome old new does rest = absurd does

  pub goes-no_stop : (records : List RunRecord) (old new : Standing) → Goes' records old new → (rest : List ActOutcome) → stop_of (outcomes_in records ++ rest) ≡ stop_of rest
  goes-no_stop [] old new h rest = refl
  goes-no_stop (r ∷ records) old new h rest = does-no_stop r.act r.outcome r.before r.behind h.1 (outcomes_in records ++ rest) ∙ goes-no_stop records r.behind new h.2 rest

  -- no act of these stopped the run
  pub goes-through : (records : List RunRecord) (old new : Standing) → Goes' records old new → stop_of (outcomes_in records) ≡ None
  goes-through records old new h = ap stop_of (sym (append-nil (outcomes_in records))) ∙ goes-no_stop records old new h []

  -- THE TEXT OF ACTS THAT WERE DONE, and of those behind them
  from : (script : ScriptValue) (number : ℕ) (acts : List Act) (more : List ActOutcome) → acts_text script number acts more ≡ acts_text script (number + 0) acts more
  from script number acts more = let none : number ≡ number + 0 = omega arith in ap (λ n. acts_text script n acts more) none

  control_one : (script : ScriptValue) (number : ℕ) (line : List ℕ) (acts : List Act) (more : List ActOutcome)
      → line ++ acts_text script number acts more ≡ (line ++ []) ++ acts_text script (number + 0) acts more
  control_one script number line acts more = ap (λ t. line ++ t) (from script number acts more) ∙ ap (λ t. t ++ acts_text script (number + 0) acts more) (sym (append-nil line))

  one_text : (script : ScriptValue) (number : ℕ) (act : Act) (outcome : ActOutcome) (old new : Standing) → Does' act outcome old new → (acts : List Act) (more : List ActOutcome)
      → acts_text script number (act ∷ acts) (outcome ∷ more) ≡ acts_text script number (act ∷ []) (outcome ∷ []) ++ acts_text script (number + phases_in (act ∷ [])) acts more
  one_text script number (Serve mode calls) (Ran phase) old new does acts more =
      let next : number + 1 ≡ number + (1 + 0) = omega arith in
      ap (λ n. phase_text script number mode calls phase ++ acts_text script n acts more) next ∙ ap (λ t. t ++ acts_text script (number + (1 + 0)) acts more) (sym (append-nil (phase_text script number mode calls phase)))
  one_text script number (Do control) (Listed objects) old new does acts more =
      subst (λ (c : Control). acts_text script number (Do c ∷ acts) (Listed objects ∷ more) ≡ acts_text script number (Do c ∷ []) (Listed objects ∷ []) ++ acts_text script (number + 0) acts more) (sym does.0)
      (control_one script number (control_line ListControl ++ objects_text objects) acts more)
  one_text script number (Do (ModeControl mode)) Controlled old new does acts more = control_one script number (control_line (ModeControl mode)) acts more
  one_text script number (Do Phase) Controlled old new does acts more = control_one script number (control_line Phase) acts more
  one_text script number (Do (ArmControl arm)) Controlled old new does acts more = control_one script number (control_line (ArmControl arm)) acts more
  one_text script number (Do (Crash seed)) Controlled old new does acts more = control_one script number (control_line (Crash seed)) acts more
  one_text script number (Do (Save mark)) Controlled old new does acts more = control_one script number (control_line (Save mark)) acts more
  one_text script number (Do (QuotaControl app objects bytes)) Controlled old new does acts more = control_one script number (control_line (QuotaControl app objects bytes)) acts more
  one_text script number (Do (Restore file mark)) Controlled old new does acts more = control_one script number (control_line (Restore file mark)) acts more
  one_text script number (Do (Flip file at mask)) Controlled old new does acts more = control_one script number (control_line (Flip file at mask)) acts more
  one_text script number act outcome old new does acts more = absurd does

  pub acts_text-append : (script : ScriptValue) (number : ℕ) (records : List RunRecord) (old mid : Standing) → Goes' records old mid → (acts : List Act) (more : List ActOutcome)
      → acts_text script number (acts_in records ++ acts) (outcomes_in records ++ more) ≡ acts_text script number (acts_in records) (outcomes_in records) ++ acts_text script (number + phases_in (acts_in records)) acts more
  acts_text-append script number [] old mid h acts more = from script number acts more
  acts_text-append script number (r ∷ records) old mid h acts more =
      let first = acts_text script number (r.act ∷ []) (r.outcome ∷ []) in
      let later = number + phases_in (r.act ∷ []) in
      let rest = acts_text script later (acts_in records) (outcomes_in records) in
      let count : later + phases_in (acts_in records) ≡ number + phases_in (r.act ∷ acts_in records) =
      omega (arith, phases_in-append (r.act ∷ []) (acts_in records)) in
      one_text script number r.act r.outcome r.before r.behind h.1 (acts_in records ++ acts) (outcomes_in records ++ more)
      ∙ ap (λ t. first ++ t) (acts_text-append script later records r.behind mid h.2 acts more)
      ∙ sym (append_assoc first rest (acts_text script (later + phases_in (acts_in records)) acts more))
      ∙ ap (λ t. t ++ acts_text script (later + phases_in (acts_in records)) acts more) (sym (one_text script number r.act r.outcome r.before r.behind h.1 (acts_in records) (outcomes_in records)))
      ∙ ap (λ n. acts_text script number (r.act ∷ acts_in records) (r.outcome ∷ outcomes_in records) ++ acts_text script n acts more) count

  -- WHAT HOLDS ALL THE WAY, if one act more keeps it
  module _ (Inv : List RunRecord → Standing → Type 0) (P : List RunRecord → RunRecord → Type 0)
      (step : (done : List RunRecord) (r : RunRecord) → IsDone' r → Inv done r.before → P done r × Inv (done ++ r ∷ []) r.behind) where
    pub walk : (done records : List RunRecord) (old new : Standing) → Goes' records old new → Inv done old → EachAct P done records × Inv (done ++ records) new
    walk done [] old new h inv = (tt, subst (λ (l : List RunRecord). Inv l new) (sym (append-nil done)) (subst (Inv done) (sym h) inv))
    walk done (r ∷ records) old new h inv =
        let one = step done r h.1 (subst (Inv done) (sym h.0) inv) in
        let rest = walk (done ++ r ∷ []) records r.behind new h.2 one.1 in
        ((one.0, rest.0), subst (λ (l : List RunRecord). Inv l new) (append_assoc done (r ∷ []) records) rest.1)

  -- so of the benches, of which the invariant tells
  module _ (Inv : List RunRecord → Standing → Type 0) (Q : List RunRecord → BenchState → Type 0) (gives : (done : List RunRecord) (s : Standing) → Inv done s → Q done s.bench)
      (step : (done : List RunRecord) (r : RunRecord) → IsDone' r → Inv done r.before → Inv (done ++ r ∷ []) r.behind) where
    pub walk_benches : (done records : List RunRecord) (old new : Standing) → Goes' records old new → Inv done old → EachBench Q done records new.bench × Inv (done ++ records) new
    walk_benches done [] old new h inv =
        let here = subst (Inv done) (sym h) inv in
        (gives done new here, subst (λ (l : List RunRecord). Inv l new) (sym (append-nil done)) here)
    walk_benches done (r ∷ records) old new h inv =
        let first = subst (Inv done) (sym h.0) inv in
        let rest = walk_benches (done ++ r ∷ []) records r.behind new h.2 (step done r h.1 first) in
        ((gives done r.before first, rest.0), subst (λ (l : List RunRecord). Inv l new) (append_assoc done (r ∷ []) records) rest.1)

  -- ACTS OF WHICH THE LAST MAY HAVE STOPPED THE RUN
  module _ (drew draws : ℕ) where
    abbrev pub AreActs' : List RunRecord → (old new : Standing) → Type 0
    AreActs' records old new = AreActs of_file of_port image Reliable keys apps drew draws records old new

    abbrev pub StopsAt' : RunRecord → Type 0
    StopsAt' r = StopsAt of_file of_port image Reliable keys apps drew draws r.act r.outcome r.before r.behind

    pub acts-behind : (front back : List RunRecord) (old mid new : Standing) → Goes' front old mid → AreActs' back mid new → AreActs' (front ++ back) old new
    acts-behind [] back old mid new h g = subst (λ (s : Standing). AreActs' back s new) h g
    acts-behind (r ∷ front) back old mid new h g = (h.0, inl h.1, acts-behind front back r.behind mid new h.2 g)

    pub goes-acts : (records : List RunRecord) (old new : Standing) → Goes' records old new → AreActs' records old new
    goes-acts [] old new h = h
    goes-acts (r ∷ records) old new h = (h.0, inl h.1, goes-acts records r.behind new h.2)

    -- the act at which the run stopped
    pub record Stopped (records done : List RunRecord) (mid last : Standing) : Type 0 where
      pub r : RunRecord
      pub is : records ≡ done ++ r ∷ []
      pub there : r.before ≡ mid
      pub stops : StopsAt' r
      pub end : last ≡ r.behind

    -- those that were done, and behind them perhaps that one
    pub record Parted (records : List RunRecord) (old last : Standing) : Type 0 where
      pub done : List RunRecord
      pub mid : Standing
      pub goes : Goes' done old mid
      pub end : ((records ≡ done) × (last ≡ mid)) ⊎ Stopped records done mid last

    end-first : (r : RunRecord) (records done : List RunRecord) (mid last : Standing) → ((records ≡ done) × (last ≡ mid)) ⊎ Stopped records done mid last
        → ((r ∷ records ≡ r ∷ done) × (last ≡ mid)) ⊎ Stopped (r ∷ records) (r ∷ done) mid last
    end-first r records done mid last (inl x) = inl (ap (λ l. r ∷ l) x.0, x.1)
    end-first r records done mid last (inr s) = inr (record { r = s.r; is = ap (λ l. r ∷ l) s.is; there = s.there; stops = s.stops; end = s.end })

    part-first : (r : RunRecord) (records : List RunRecord) (old last : Standing) → r.before ≡ old → AreActs' records r.behind last → IsDone' r ⊎ (StopsAt' r × (records ≡ [])) → Parted records r.behind last → Parted (r ∷ records) old last
    part-first r records old last there acts (inl done) rest =
        record { done = r ∷ rest.done; mid = rest.mid; goes = (there, done, rest.goes); end = end-first r records rest.done rest.mid last rest.end }
    part-first r records old last there acts (inr stop) rest =
        let end : AreActs' [] r.behind last = subst (λ (l : List RunRecord). AreActs' l r.behind last) stop.1 acts in
        record { done = []; mid = old; goes = refl; end = inr (record { r = r; is = ap (λ l. r ∷ l) stop.1; there = there; stops = stop.0; end = end }) }

    pub part : (records : List RunRecord) (old last : Standing) → AreActs' records old last → Parted records old last
    part [] old last h = record { done = []; mid = old; goes = refl; end = inl (refl, h) }
    part (r ∷ records) old last h = part-first r records old last h.0 h.2 h.1 (part records r.behind last h.2)

    -- so of every bench of a run, where it holds behind an act at which the run stopped, too
    module _ (Inv : List RunRecord → Standing → Type 0) (Q : List RunRecord → BenchState → Type 0) (given : BenchState) (gives : (done : List RunRecord) (s : Standing) → Inv done s → Q done s.bench)
        (step : (done : List RunRecord) (r : RunRecord) → IsDone' r → Inv done r.before → Inv (done ++ r ∷ []) r.behind)
        (stop : (done : List RunRecord) (r : RunRecord) → StopsAt' r → (r.behind).bench ≡ given → Inv done r.before → Q (done ++ r ∷ []) (r.behind).bench) where
      parted_benches : (records : List RunRecord) (old last : Standing) → given ≡ last.bench → Inv [] old → (p : Parted records old last)
          → ((records ≡ p.done) × (last ≡ p.mid)) ⊎ Stopped records p.done p.mid last → EachBench Q [] records given
      parted_benches records old last is inv p (inl x) =
          let found = walk_benches Inv Q gives step [] p.done old p.mid p.goes inv in
          let bench : (p.mid).bench ≡ given = sym (is ∙ ap (λ (s : Standing). s.bench) x.1) in
          subst (λ (l : List RunRecord). EachBench Q [] l given) (sym x.0) (subst (EachBench Q [] p.done) bench found.0)
      parted_benches records old last is inv p (inr x) =
          let found = walk_benches Inv Q gives step [] p.done old p.mid p.goes inv in
          let r = x.r in
          let bench : (r.behind).bench ≡ given = sym (is ∙ ap (λ (s : Standing). s.bench) x.end) in
          let behind : Q (p.done ++ r ∷ []) given = subst (Q (p.done ++ r ∷ [])) bench (stop p.done r x.stops bench (subst (Inv p.done) (sym x.there) found.1)) in
          subst (λ (l : List RunRecord). EachBench Q [] l given) (sym x.is) (each_bench-more Q [] p.done r (p.mid).bench given found.0 (ap (λ (s : Standing). s.bench) x.there) behind)

      pub run_benches : (records : List RunRecord) (old last : Standing) → AreActs' records old last → given ≡ last.bench → Inv [] old → EachBench Q [] records given
      run_benches records old last acts is inv = let p = part records old last acts in parted_benches records old last is inv p p.end
