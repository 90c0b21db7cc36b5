-- What each bench of a run holds, whether its store was found or formatted.
use Rattle.std.proofs.Common.{ℕ, ◌≡◌, ◌∙◌, List, [], ◌∷◌, ◌++◌, inl, inr, sym, ap, subst}
use Rattle.disk_model.specs.Calls.{GoesOn}
use Rattle.disk_model.specs.State.{FileState}
use Rattle.hmac_keys.specs.declared.Keys.{Keys}
use Rattle.hmac_keys.specs.KeyTable.{rpmb_key}
use Rattle.rpmb_card.specs.Port.{PortState}
use Rattle.script_text.specs.declared.script.Arm.{Arm}
use Rattle.script_text.specs.declared.script.Mode.{Mode}
use Rattle.script_text.specs.declared.script.Step.{Step}
use Rattle.store_model.specs.ReplayState.{ReplayState}
use Rattle.run_acts.specs.Benches.{BenchState, KeepsDevices, IsWhole}
use Rattle.run_acts.specs.declared.MountFault.{MountFault}
use Rattle.run_acts.specs.declared.MountFault.TheVariants.{NoMemory as NoMemoryFault}
use Rattle.run_acts.specs.PhaseRefusals.{IsGivenUp}
use Rattle.run_acts.specs.QuotaRefusals.{admitted}
use Rattle.run_acts.specs.Untainted.{AreUntainted}
use Rattle.run_acts.proofs.CrashedLaws.{card_of, crashes_keep, kept_devices_hold, part_may_be}
use Rattle.run_acts.proofs.MountedBenches.{refused_mounts_keep}
use Rattle.run_acts.proofs.Untainted.{crashes_stay_untainted, untainted_files_are_honest, untainted_then}
use Rattle.script_runner.specs.HeldRuns.{BeginsWith, HoldsBehind, NoneStarved, RunsHoldLeft}
use Rattle.script_runner.specs.RecordLaws.{AlterNothing, AltersNothing, HoldsUntainted, left_behind}
use Rattle.script_runner.specs.RunCauses.{World}
use Rattle.script_runner.specs.Text.{Act, Do, Refused, ActOutcome, Serve}
use Rattle.script_runner.specs.Trace.{applications_of}
use Rattle.script_runner.specs.SavedFiles.{Standing, begins_with}
use Rattle.script_runner.proofs.Alterings.{alter_front, alter_last}
use Rattle.script_runner.proofs.CalmFiles.{goes_refused}
use Rattle.script_runner.specs.Course.{StopsAt}
use Rattle.script_runner.specs.HeldRuns.{HoldsLeftBehind}
use Rattle.script_runner.specs.Records.{EachBench, RunRecord, acts_in, outcomes_in}
use Rattle.script_runner.specs.Text.{CutShort, Exceeded}
use Rattle.script_runner.proofs.Ended.{HowEnded, how_ended, no_start, ran, shut, undone}
use Rattle.script_runner.proofs.OpenedBenches.{begun_opened}
use Rattle.script_runner.proofs.RecordLaws.{HeldAt, act_finds, left_behind-then}
use Rattle.script_runner.proofs.Walks.{IsDone', acts_in-append, outcomes_in-append, run_benches}

none_starved-last : (told : List ActOutcome) (fault : MountFault) → NoneStarved (told ++ Refused fault ∷ []) → fault ≡ NoMemoryFault → ⊥
none_starved-last [] fault none = none.0
none_starved-last (Refused other ∷ told) fault none = none_starved-last told fault none.1
none_starved-last (outcome ∷ told) fault none = none_starved-last told fault none

module _ (keys : Keys) where
  -- ONE BEHIND AN ACT
  behind_some : (apps : List (List ℕ)) (before : List Act) (act : Act) (bench : BenchState) (s : ReplayState) → HoldsUntainted keys bench s → HoldsBehind keys apps (before ++ act ∷ []) bench s
  behind_some apps [] act bench s held = held
  behind_some apps (first ∷ before) act bench s held = held

  behind_any : (apps : List (List ℕ)) (before : List Act) (bench : BenchState) (s : ReplayState) → HoldsUntainted keys bench s → HoldsBehind keys apps before bench s
  behind_any apps [] bench s held = inl held
  behind_any apps (first ∷ before) bench s held = held

  module _ {F R : Type 0} (of_file : F → FileState) (of_port : R → PortState) (image : FileState → ℕ → ℕ → List ℕ) (Reliable : Type 0) (apps : List (List ℕ)) (s : ReplayState) where
    -- behind acts that alter no file
    abbrev HeldBehind : (done : List RunRecord) → Standing → Type 0
    HeldBehind done there = AlterNothing (acts_in done) → HeldAt of_file of_port image Reliable keys apps (left_behind apps s (outcomes_in done)) there

    -- the acts down to one, and that one
    unaltered_parts : (done : List RunRecord) (r : RunRecord) → AlterNothing (acts_in (done ++ r ∷ [])) → AlterNothing (acts_in done) × AltersNothing r.act
    unaltered_parts done r none =
        let all : AlterNothing (acts_in done ++ r.act ∷ []) = subst AlterNothing (acts_in-append done (r ∷ [])) none in
        (alter_front (acts_in done) (r.act ∷ []) all, alter_last (acts_in done) r.act all)

    -- and one more
    left_one : (done : List RunRecord) (r : RunRecord) → left_behind apps s (outcomes_in (done ++ r ∷ [])) ≡ left_behind apps (left_behind apps s (outcomes_in done)) (r.outcome ∷ [])
    left_one done r = ap (left_behind apps s) (outcomes_in-append done (r ∷ [])) ∙ left_behind-then apps s (outcomes_in done) (r.outcome ∷ [])

    more_held : (done : List RunRecord) (r : RunRecord) → IsDone' of_file of_port image Reliable keys apps r → HeldBehind done r.before → HeldBehind (done ++ r ∷ []) r.behind
    more_held done r does held none =
        let parts = unaltered_parts done r none in
        let one = act_finds of_file of_port image Reliable keys apps r.act r.outcome r.before r.behind (left_behind apps s (outcomes_in done)) parts.1 does (held parts.0) in
        subst (λ (x : ReplayState). HeldAt of_file of_port image Reliable keys apps x r.behind) (sym (left_one done r)) one.1

    -- what was only read and synced
    goes_untainted : (old new : BenchState) → ((file : ℕ) → GoesOn (old.files file) (new.files file)) → IsWhole new → AreUntainted old.files → AreUntainted new.files
    goes_untainted old new goes whole u = record { each = λ file within. untainted_then (old.files file) (new.files file) (goes file) (u.each file within); past = whole }

    module _ (drew draws : ℕ) where
      -- a bench of which nothing was asked but reads and syncs
      kept_held : (x : ReplayState) (old new : BenchState) → KeepsDevices old new → IsWhole new → HoldsUntainted keys old x → HoldsUntainted keys new x
      kept_held x old new keeps whole held =
          let files : AreUntainted new.files = goes_untainted old new (λ file. ((keeps.files file).keeps).goes_on) whole held.files in
          let card = held.card in
          record {
            files = files;
            holds = kept_devices_hold keys x old new held.holds keeps (untainted_files_are_honest new.files files);
            card = (card.0, card_of new.card old.card (rpmb_key keys.huk) card.0 (sym keeps.card) card.1);
          }

      given_up_held : (x : ReplayState) (arms : List Arm) (mode : Mode) (steps : List Step) (fault : MountFault) (old new : BenchState)
          → IsGivenUp of_file of_port keys apps arms mode steps old new drew draws fault → IsWhole new → HoldsUntainted keys old x → (fault ≡ NoMemoryFault → ⊥) → HoldsUntainted keys new x
      given_up_held x arms mode steps fault old new (inl (m, memory)) whole held some =
          let files : AreUntainted new.files = goes_untainted old new (goes_refused keys old new drew draws fault m) whole held.files in
          let card = held.card in
          record {
            files = files;
            holds = refused_mounts_keep keys x old new drew draws fault held.holds m (untainted_files_are_honest new.files files);
            card = (card.0, card_of new.card old.card (rpmb_key keys.huk) card.0 (sym (m.leaves).card) card.1);
          }
      given_up_held x arms mode steps fault old new (inr ends) whole held some = absurd (some ends.fault_is)

      -- an act at which the run stopped
      stop_held : (told : List ActOutcome) (act : Act) (outcome : ActOutcome) (old new : Standing) (x : ReplayState) → StopsAt of_file of_port image Reliable keys apps drew draws act outcome old new → IsWhole new.bench
          → HoldsUntainted keys old.bench x → NoneStarved (told ++ outcome ∷ []) → HoldsUntainted keys new.bench (left_behind apps x (outcome ∷ []))
      stop_held told (Serve mode calls) (Refused fault) old new x stops whole held fed =
          given_up_held x old.arms mode (admitted (stops.0).refused calls) fault old.bench new.bench (stops.0).holds whole held (none_starved-last told fault fed)
      stop_held told (Serve mode calls) (Exceeded sum) old new x stops whole held fed = kept_held x old.bench new.bench ((stops.0).0).keeps whole held
      stop_held told (Do control) (Refused fault) old new x stops whole held fed = kept_held x old.bench new.bench ((stops.1).0).keeps whole held
      stop_held told (Do control) CutShort old new x stops whole held fed =
          let may = part_may_be image stops.0 old.bench new.bench (stops.2).0 in
          let card = held.card in
          record {
            files = crashes_stay_untainted old.bench new.bench held.files may;
            holds = crashes_keep keys x old.bench new.bench held.holds may;
            card = (card.0, card_of (new.bench).card (old.bench).card (rpmb_key keys.huk) card.0 (ap (λ (p : PortState). p.card) (sym may.card)) card.1);
          }
      stop_held told act outcome old new x stops whole held fed = absurd stops

      abbrev Behind : List RunRecord → BenchState → Type 0
      Behind done bench = HoldsLeftBehind keys apps s done bench

      stop_behind : (done : List RunRecord) (r : RunRecord) → StopsAt of_file of_port image Reliable keys apps drew draws r.act r.outcome r.before r.behind → IsWhole (r.behind).bench → HeldBehind done r.before
          → Behind (done ++ r ∷ []) (r.behind).bench
      stop_behind done r stops whole held none fed =
          let parts = unaltered_parts done r none in
          let told : NoneStarved (outcomes_in done ++ r.outcome ∷ []) = subst NoneStarved (outcomes_in-append done (r ∷ [])) fed in
          let there = stop_held (outcomes_in done) r.act r.outcome r.before r.behind (left_behind apps s (outcomes_in done)) stops whole (held parts.0).1 told in
          subst (λ (l : List Act). HoldsBehind keys apps l (r.behind).bench (left_behind apps s (outcomes_in (done ++ r ∷ [])))) (sym (acts_in-append done (r ∷ [])))
          (behind_some apps (acts_in done) r.act (r.behind).bench (left_behind apps s (outcomes_in (done ++ r ∷ []))) (subst (HoldsUntainted keys (r.behind).bench) (sym (left_one done r)) there))

pub runs_hold_left : {F R : Type 0} (of_file : F → FileState) (of_port : R → PortState) (image : FileState → ℕ → ℕ → List ℕ) (Reliable : Type 0) (w : World) → RunsHoldLeft of_file of_port image Reliable w
runs_hold_left of_file of_port image Reliable w left_old left_new held_old held_new drew draws keys handed given status s script r begins is started whole =
    one (how_ended of_file of_port image Reliable drew draws keys r.0 handed given script is r.2)
  where
    apps : List (List ℕ)
    apps = applications_of script

    one : HowEnded of_file of_port image Reliable drew draws keys r.0 handed given script is → EachBench (HoldsLeftBehind keys apps s) [] (r.0).records given
    one (undone same start none) =
        subst (λ (l : List RunRecord). EachBench (HoldsLeftBehind keys apps s) [] l given) (sym none) (λ unaltered fed. subst (λ (b : BenchState). BeginsWith keys apps b s) (sym same) begins)
    one (shut fault start none refused) = absurd (no_start (r.0).start fault started start)
    one (ran start between opens left front goes) =
        run_benches of_file of_port image Reliable keys apps drew draws (HeldBehind keys of_file of_port image Reliable apps s) (HoldsLeftBehind keys apps s) given
        (λ done there inv unaltered fed. behind_any keys apps (acts_in done) there.bench (left_behind apps s (outcomes_in done)) (inv unaltered).1)
        (more_held keys of_file of_port image Reliable apps s)
        (λ done r stops bench held. stop_behind keys of_file of_port image Reliable apps s drew draws done r stops (subst IsWhole (sym bench) whole) held)
        (r.0).records (begins_with between) goes.last goes.acts goes.given_is (λ none. (tt, begun_opened keys apps s handed between begins opens))
