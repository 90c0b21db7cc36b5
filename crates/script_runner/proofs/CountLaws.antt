-- Counts of faults rise only where the script armed the device.
use Rattle.std.proofs.Common.{ℕ, ◌≡◌, ◌∙◌, ◌<◌, List, [], ◌∷◌, ◌++◌, IsTrue, inl, refl, sym, subst, ◌⊎◌, inr}
use Rattle.disk_model.specs.State.{FileState}
use Rattle.hmac_keys.specs.declared.Keys.{Keys}
use Rattle.tee_types.specs.Limits.{file_count}
use Rattle.rpmb_card.specs.Port.{PortState}
use Rattle.script_text.specs.declared.script.Arm.{Arm}
use Rattle.script_text.specs.declared.script.Control.TheVariants.{Arm as ArmControl, Crash, Flip, Mode as ModeControl, Phase, Quota as QuotaControl, Restore, Save}
use Rattle.store_commit.specs.Causes.{StaysCalm}
use Rattle.run_acts.specs.Benches.{BenchState}
use Rattle.run_acts.specs.Lines.{objects_text}
use Rattle.run_acts.specs.QuotaRefusals.{admitted}
use Rattle.script_runner.specs.CountLaws.{ArmsCard, ArmsFile, CountsAsArmed, NoneArms, RunsCountAsArmed}
use Rattle.script_runner.specs.RunCauses.{World}
use Rattle.script_runner.specs.SavedFiles.{Standing}
use Rattle.script_runner.specs.Text.{Act, Do, ActOutcome, Serve}
use Rattle.script_runner.specs.Trace.{applications_of}
use Rattle.run_acts.specs.Alterations.{file_number}
use Rattle.script_runner.proofs.CalmFiles.{NoneOf, StandsCalm, given_up_calm, given_up_stands, goes_opened, goes_shut, none_of-then, phase_calm, phase_stands, card_put_back, stands_crash, stands_first, stands_flipped, stands_part, stands_put_back, stands_then}
use Rattle.script_runner.proofs.CalmPorts.{CalmStep, calm_listed, calm_mounted, calm_opened, calm_same, calm_shut, calm_unlisted}
use Rattle.script_runner.specs.Course.{AreActs, Does, StopsAt}
use Rattle.script_runner.specs.Ending.{EndsBench, NotOpened, Opened}
use Rattle.script_runner.specs.Records.{EachBench, RunRecord, acts_in}
use Rattle.script_runner.specs.SavedFiles.{begins_with}
use Rattle.script_runner.specs.Text.{Controlled, CutShort, Exceeded, Listed, Ran, Refused}
use Rattle.script_runner.proofs.Walks.{acts_in-append, run_benches}

-- what no act arms, none of the first does
none_front : (Arms : Arm → Type 0) (before : List Act) (act : Act) → NoneArms Arms (before ++ act ∷ []) → NoneArms Arms before
none_front Arms [] act none = tt
none_front Arms (Do (ArmControl arm) ∷ before) act none = (none.0, none_front Arms before act none.1)
none_front Arms (first ∷ before) act none = none_front Arms before act none

-- and not the last
none_last : (Arms : Arm → Type 0) (before : List Act) (arm : Arm) → NoneArms Arms (before ++ Do (ArmControl arm) ∷ []) → Arms arm → ⊥
none_last Arms [] arm none = none.0
none_last Arms (Do (ArmControl first) ∷ before) arm none = none_last Arms before arm none.1
none_last Arms (first ∷ before) arm none = none_last Arms before arm none

module _ (handed : BenchState) where
  -- A device that was calm and that no act armed has no arms that wait, and stands so.
  pub record StandsUnarmed (before : List Act) (arms : List Arm) (bench : BenchState) : Type 0 where
    pub files : (file : ℕ) → file < file_count → IsTrue (handed.files file).calm → NoneArms (ArmsFile file) before → NoneOf (ArmsFile file) arms × StandsCalm (handed.files file) (bench.files file)
    pub card : IsTrue handed.card.calm → NoneArms ArmsCard before → NoneOf ArmsCard arms × StaysCalm handed.card bench.card

  stays_then : (p q : PortState) → StaysCalm handed.card p → CalmStep p q → StaysCalm handed.card q
  stays_then p q stays step =
      let then = step stays.calm in
      record { calm = then.calm; faults = then.faults ∙ stays.faults }

  counts_of : (before : List Act) (arms : List Arm) (bench : BenchState) → StandsUnarmed before arms bench → CountsAsArmed handed before bench
  counts_of before arms bench s = record {
    files = λ file within calm none. ((s.files file within calm none).1).quiet;
    card = λ calm none. ((s.card calm none).1).faults;
  }

  -- one more act
  acted : (before : List Act) (act : Act) (arms later : List Arm) (old new : BenchState) → StandsUnarmed before arms old
      → ((Arms : Arm → Type 0) → NoneArms Arms (before ++ act ∷ []) → NoneOf Arms arms → NoneOf Arms later)
      → ((a : FileState) (file : ℕ) → file < file_count → NoneOf (ArmsFile file) arms → StandsCalm a (old.files file) → StandsCalm a (new.files file))
      → (NoneOf ArmsCard arms → CalmStep old.card new.card) → StandsUnarmed (before ++ act ∷ []) later new
  acted before act arms later old new s waits file card = record {
    files = λ k within calm none.
        let found = s.files k within calm (none_front (ArmsFile k) before act none) in
        (waits (ArmsFile k) none found.0, file (handed.files k) k within found.0 found.1);
    card = λ calm none.
        let found = s.card calm (none_front ArmsCard before act none) in
        (waits ArmsCard none found.0, stays_then old.card new.card found.1 (card found.0));
  }

  same_acted : (before : List Act) (act : Act) (arms : List Arm) (bench : BenchState) → StandsUnarmed before arms bench → StandsUnarmed (before ++ act ∷ []) arms bench
  same_acted before act arms bench s =
      acted before act arms arms bench bench s (λ Arms none waits. waits) (λ a file within none stands. stands) (λ none. calm_same bench.card bench.card refl)

  module _ {F R : Type 0} (of_file : F → FileState) (of_port : R → PortState) (image : FileState → ℕ → ℕ → List ℕ) (Reliable : Type 0) (keys : Keys) (apps : List (List ℕ)) where
    -- where a run stands behind those acts
    abbrev StandsAt : (before : List Act) → Standing → Type 0
    StandsAt before there = StandsUnarmed before there.arms there.bench

    -- one act that was done
    act_stands : (before : List Act) (act : Act) (outcome : ActOutcome) (old new : Standing) → Does of_file of_port image Reliable keys apps act outcome old new → StandsAt before old → StandsAt (before ++ act ∷ []) new
    act_stands before (Serve mode calls) (Ran phase) old new does s =
        subst (λ (there : Standing). StandsUnarmed (before ++ Serve mode calls ∷ []) there.arms new.bench) (sym does.1)
        (acted before (Serve mode calls) old.arms [] old.bench new.bench s (λ Arms none waits. tt)
        (phase_stands of_file of_port keys apps old.arms mode calls Reliable old.quotas old.bench new.bench phase.opening phase.events phase.refused does.0)
        (phase_calm of_file of_port keys apps old.arms mode calls Reliable old.quotas old.bench new.bench phase.opening phase.events phase.refused does.0))
    act_stands before (Do control) (Listed objects) old new does s =
        subst (λ (there : Standing). StandsUnarmed (before ++ Do control ∷ []) there.arms new.bench) (sym (does.1).1)
        (acted before (Do control) old.arms old.arms old.bench new.bench s (λ Arms none waits. waits)
        (λ a file within none stands. stands_then a ((old.bench).files file) ((new.bench).files file) stands ((((((does.1).0).keeps).files file).keeps).goes_on))
        (λ none. calm_listed keys of_file of_port old.bench new.bench objects (objects_text objects) (does.1).0))
    act_stands before (Do (ModeControl mode)) Controlled old new does s = subst (StandsAt (before ++ Do (ModeControl mode) ∷ [])) (sym does) (same_acted before (Do (ModeControl mode)) old.arms old.bench s)
    act_stands before (Do Phase) Controlled old new does s = subst (StandsAt (before ++ Do Phase ∷ [])) (sym does) (same_acted before (Do Phase) old.arms old.bench s)
    act_stands before (Do (ArmControl arm)) Controlled old new does s =
        subst (StandsAt (before ++ Do (ArmControl arm) ∷ [])) (sym does)
        (acted before (Do (ArmControl arm)) old.arms (old.arms ++ arm ∷ []) old.bench old.bench s (λ Arms none waits. none_of-then Arms old.arms arm waits (none_last Arms before arm none))
        (λ a file within none stands. stands) (λ none. calm_same (old.bench).card (old.bench).card refl))
    act_stands before (Do (Crash seed)) Controlled old new does s =
        subst (λ (there : Standing). StandsUnarmed (before ++ Do (Crash seed) ∷ []) there.arms new.bench) (sym does.1)
        (acted before (Do (Crash seed)) old.arms old.arms old.bench new.bench s (λ Arms none waits. waits) (λ a file within none stands. stands_crash image seed old.bench new.bench does.0 a file stands)
        (λ none. calm_same (old.bench).card (new.bench).card (does.0).card))
    act_stands before (Do (Save mark)) Controlled old new does s = subst (StandsAt (before ++ Do (Save mark) ∷ [])) (sym does) (same_acted before (Do (Save mark)) old.arms old.bench s)
    act_stands before (Do (QuotaControl app objects bytes)) Controlled old new does s =
        let act = Do (QuotaControl app objects bytes) in subst (StandsAt (before ++ act ∷ [])) (sym does) (same_acted before act old.arms old.bench s)
    act_stands before (Do (Restore file mark)) Controlled old new does s =
        let kept = old.saved mark (file_number file) in
        subst (λ (there : Standing). StandsUnarmed (before ++ Do (Restore file mark) ∷ []) there.arms new.bench) (sym does.1)
        (acted before (Do (Restore file mark)) old.arms old.arms old.bench new.bench s (λ Arms none waits. waits)
        (λ a k within none stands. stands_put_back (file_number file) kept old.bench new.bench does.0 a k stands)
        (λ none. calm_same (old.bench).card (new.bench).card (card_put_back (file_number file) kept old.bench new.bench does.0)))
    act_stands before (Do (Flip file at mask)) Controlled old new does s =
        subst (λ (there : Standing). StandsUnarmed (before ++ Do (Flip file at mask) ∷ []) there.arms new.bench) (sym does.1)
        (acted before (Do (Flip file at mask)) old.arms old.arms old.bench new.bench s (λ Arms none waits. waits)
        (λ a k within none stands. stands_flipped (file_number file) at mask old.bench new.bench does.0 a k stands)
        (λ none. calm_same (old.bench).card (new.bench).card (does.0).card))
    act_stands before act outcome old new does s = absurd does

    module _ (drew draws : ℕ) where
      -- one at which the run stopped
      stop_counts : (before : List Act) (act : Act) (outcome : ActOutcome) (old new : Standing) → StopsAt of_file of_port image Reliable keys apps drew draws act outcome old new → StandsAt before old
          → CountsAsArmed handed (before ++ act ∷ []) new.bench
      stop_counts before (Serve mode calls) (Refused fault) old new stops s =
          let made = admitted (stops.0).refused calls in
          counts_of (before ++ Serve mode calls ∷ []) [] new.bench
          (acted before (Serve mode calls) old.arms [] old.bench new.bench s (λ Arms none waits. tt)
          (λ a file within none stands. given_up_stands of_file of_port keys apps old.arms mode made old.bench drew draws new.bench fault (stops.0).holds a file within none stands)
          (given_up_calm of_file of_port keys apps old.arms mode made old.bench drew draws new.bench fault (stops.0).holds))
      stop_counts before (Serve mode calls) (Exceeded sum) old new stops s =
          let over = (stops.0).0 in
          counts_of (before ++ Serve mode calls ∷ []) [] new.bench
          (acted before (Serve mode calls) old.arms [] old.bench new.bench s (λ Arms none waits. tt)
          (λ a file within none stands. stands_then a ((old.bench).files file) ((new.bench).files file) stands (((over.keeps).files file).keeps).goes_on)
          (λ none. subst (λ (b : BenchState). CalmStep (old.bench).card b.card) (sym over.closed) (calm_mounted keys of_file of_port old.bench over.opened over.mounts)))
      stop_counts before (Do control) (Refused fault) old new stops s =
          counts_of (before ++ Do control ∷ []) old.arms new.bench
          (acted before (Do control) old.arms old.arms old.bench new.bench s (λ Arms none waits. waits)
          (λ a file within none stands. stands_then a ((old.bench).files file) ((new.bench).files file) stands ((((((stops.1).0).keeps).files file).keeps).goes_on))
          (λ none. calm_unlisted keys of_file of_port old.bench new.bench drew draws fault (stops.1).0))
      stop_counts before (Do control) CutShort old new stops s =
          counts_of (before ++ Do control ∷ []) old.arms new.bench
          (acted before (Do control) old.arms old.arms old.bench new.bench s (λ Arms none waits. waits)
          (λ a file within none stands. stands_part image stops.0 old.bench new.bench (stops.2).0 a file stands) (λ none. calm_same (old.bench).card (new.bench).card ((stops.2).0).card))
      stop_counts before act outcome old new stops s = absurd stops

      first_counts : (bench : BenchState) → ((file : ℕ) → IsTrue (handed.files file).calm → StandsCalm (handed.files file) (bench.files file)) → CalmStep handed.card bench.card → StandsUnarmed [] [] bench
      first_counts bench files card = record {
        files = λ file within calm none. (tt, files file calm);
        card = λ calm none. (tt, card calm);
      }

      abbrev Counted : List RunRecord → BenchState → Type 0
      Counted done bench = CountsAsArmed handed (acts_in done) bench

      -- so of the acts of a run that was opened
      opened_counts : (between given : BenchState) → StandsUnarmed [] [] between → (records : List RunRecord) (last : Standing)
          → AreActs of_file of_port image Reliable keys apps drew draws records (begins_with between) last → given ≡ last.bench → EachBench Counted [] records given
      opened_counts between given opened records last acts is =
          run_benches of_file of_port image Reliable keys apps drew draws (λ done there. StandsAt (acts_in done) there) Counted given (λ done there s. counts_of (acts_in done) there.arms there.bench s)
          (λ done r does s. subst (λ (l : List Act). StandsAt l r.behind) (sym (acts_in-append done (r ∷ []))) (act_stands (acts_in done) r.act r.outcome r.before r.behind does s))
          (λ done r stops bench s. subst (λ (l : List Act). CountsAsArmed handed l (r.behind).bench) (sym (acts_in-append done (r ∷ []))) (stop_counts (acts_in done) r.act r.outcome r.before r.behind stops s))
          records (begins_with between) last acts is opened

pub runs_count_as_armed : {F R : Type 0} (of_file : F → FileState) (of_port : R → PortState) (image : FileState → ℕ → ℕ → List ℕ) (Reliable : Type 0) (w : World) → RunsCountAsArmed of_file of_port image Reliable w
runs_count_as_armed of_file of_port image Reliable w left_old left_new held_old held_new drew draws keys handed given status r = one r.2
  where
    Counted' : List RunRecord → Type 0
    Counted' records = EachBench (λ done bench. CountsAsArmed handed (acts_in done) bench) [] records given

    ended : (apps : List (List ℕ)) → Opened of_file of_port image Reliable drew draws keys apps (r.0).start (r.0).records handed given ⊎ NotOpened of_file of_port image Reliable drew draws keys (r.0).start (r.0).records handed given
        → Counted' (r.0).records
    ended apps (inl o) =
        let between = o.between in
        let goes = o.goes in
        let first = first_counts handed of_file of_port image Reliable keys apps drew draws between
        (λ file calm. stands_then (handed.files file) (handed.files file) (between.files file) (stands_first (handed.files file) calm) (goes_opened keys handed between o.opens file))
        (calm_opened keys handed between o.opens) in
        opened_counts handed of_file of_port image Reliable keys apps drew draws between given first (r.0).records goes.last goes.acts goes.given_is
    ended apps (inr n) =
        let first = first_counts handed of_file of_port image Reliable keys apps drew draws given
        (λ file calm. stands_then (handed.files file) (handed.files file) (given.files file) (stands_first (handed.files file) calm) (goes_shut keys handed given drew draws n.fault n.refused file))
        (calm_shut keys handed given drew draws n.fault n.refused) in
        subst Counted' (sym n.none) (counts_of handed [] [] given first)

    one : EndsBench of_file of_port image Reliable drew draws keys r.0 handed given → Counted' (r.0).records
    one (inl (silent, same)) =
        subst Counted' (sym silent.records) (subst (CountsAsArmed handed []) (sym same) (record { files = λ file within calm none. inl refl; card = λ calm none. refl }))
    one (inr (script, is, ends)) = ended (applications_of script) ends.bench
