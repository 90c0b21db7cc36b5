-- What a run finds over a store that was found, or over a blank bench.
use Rattle.std.proofs.Common.{◌≡◌, ◌⊎◌, ◌∙◌, ℕ, List, [], ◌∷◌, ◌++◌, None, Option, Some, inl, inr, sym, ap, subst}
use Rattle.disk_model.specs.State.{FileState}
use Rattle.hmac_keys.specs.declared.Keys.{Keys}
use Rattle.rpmb_card.specs.Port.{PortState}
use Rattle.store_model.specs.ReplayState.{ReplayState}
use Rattle.run_acts.specs.Left.{replay_left}
use Rattle.run_acts.specs.declared.MountFault.{MountFault}
use Rattle.run_acts.specs.declared.MountFault.TheVariants.{CardBlock, CardResult, Directory, Failed, Frame, NoMemory as NoMemoryFault, NoStore, OldFormat, Spent}
use Rattle.run_acts.specs.MountingLaws.{IsOfDevice}
use Rattle.script_runner.specs.RecordLaws.{AlterNothing, FindLeft, HoldsUntainted, left_behind}
use Rattle.script_runner.specs.Records.{RunRecord, acts_in, outcomes_in}
use Rattle.script_runner.specs.RunCauses.{World}
use Rattle.script_runner.specs.RunLaws.{FindsLeft, RefusedByDevices, RunsFindLeft}
use Rattle.script_runner.specs.RunRefusals.{IsDeviceFault, IsRefusal}
use Rattle.script_runner.specs.SavedFiles.{Standing, begins_with}
use Rattle.script_runner.specs.Text.{Act, ActOutcome, Do, Serve, Listed, Ran, Refused, stop_of, Controlled, CutShort, Exceeded}
use Rattle.script_runner.specs.Trace.{applications_of}
use Rattle.script_runner.proofs.Alterings.{alter_front}
use Rattle.script_runner.proofs.Ended.{HowEnded, how_ended, no_start, ran, shut, undone}
use Rattle.script_runner.proofs.OpenedBenches.{begun_opened, open_devices}
use Rattle.script_runner.proofs.RecordLaws.{acts_find, refusal_of_device}
use Rattle.script_runner.proofs.Walks.{Parted, Stopped, acts_in-append, goes-through, outcomes_in-append, part}
use Rattle.run_acts.specs.Untainted.{ArmNoMask}
use Rattle.script_runner.specs.Course.{AreActs, StopsAt}

-- acts behind which a run stopped find what those before them leave
find_left-stop : (apps : List (List ℕ)) (s : ReplayState) (front : List ActOutcome) (stop : ActOutcome) → FindLeft apps s front → ((x : ReplayState) → FindLeft apps x (stop ∷ [])) → FindLeft apps s (front ++ stop ∷ [])
find_left-stop apps s [] stop finds last = last s
find_left-stop apps s (Ran phase ∷ front) stop finds last = (finds.0, find_left-stop apps (replay_left phase.opening apps phase.events) front stop finds.1 last)
find_left-stop apps s (Listed objects ∷ front) stop finds last = (finds.0, find_left-stop apps s front stop finds.1 last)
find_left-stop apps s (outcome ∷ front) stop finds last = find_left-stop apps s front stop finds last

-- of acts that were all done none was refused
by_devices-none : (outcomes : List ActOutcome) → stop_of outcomes ≡ None → RefusedByDevices outcomes
by_devices-none [] none = tt
by_devices-none (Refused fault ∷ outcomes) none = let no : ◌≡◌ {A = Option ActOutcome} (Some (Refused fault)) None = none in absurd cc
by_devices-none (Ran phase ∷ outcomes) none = by_devices-none outcomes none
by_devices-none (Listed objects ∷ outcomes) none = by_devices-none outcomes none
by_devices-none (Controlled ∷ outcomes) none = by_devices-none outcomes none
by_devices-none (Exceeded sum ∷ outcomes) none = let no : ◌≡◌ {A = Option ActOutcome} (Some (Exceeded sum)) None = none in absurd cc
by_devices-none (CutShort ∷ outcomes) none = let no : ◌≡◌ {A = Option ActOutcome} (Some CutShort) None = none in absurd cc

by_devices-then : (front back : List ActOutcome) → RefusedByDevices front → RefusedByDevices back → RefusedByDevices (front ++ back)
by_devices-then [] back first last = last
by_devices-then (Refused fault ∷ front) back first last = (first.0, by_devices-then front back first.1 last)
by_devices-then (outcome ∷ front) back first last = by_devices-then front back first last

-- so the run stopped at such a one
pub by_devices-stop : (outcomes : List ActOutcome) (fault : MountFault) → RefusedByDevices outcomes → stop_of outcomes ≡ Some (Refused fault) → IsOfDevice fault
by_devices-stop [] fault by stop = let no : ◌≡◌ {A = Option ActOutcome} None (Some (Refused fault)) = stop in absurd cc
by_devices-stop (Refused other ∷ outcomes) fault by stop = let e : ◌≡◌ {A = Option ActOutcome} (Some (Refused other)) (Some (Refused fault)) = stop in let same : other ≡ fault = cc in subst IsOfDevice same by.0
by_devices-stop (Ran phase ∷ outcomes) fault by stop = by_devices-stop outcomes fault by stop
by_devices-stop (Listed objects ∷ outcomes) fault by stop = by_devices-stop outcomes fault by stop
by_devices-stop (Controlled ∷ outcomes) fault by stop = by_devices-stop outcomes fault by stop
by_devices-stop (Exceeded sum ∷ outcomes) fault by stop = let no : ◌≡◌ {A = Option ActOutcome} (Some (Exceeded sum)) (Some (Refused fault)) = stop in absurd cc
by_devices-stop (CutShort ∷ outcomes) fault by stop = let no : ◌≡◌ {A = Option ActOutcome} (Some CutShort) (Some (Refused fault)) = stop in absurd cc

-- a failure, or want of memory, is no refusal for what was read
pub not_both : (fault : MountFault) → IsOfDevice fault → IsRefusal fault → ⊥
not_both NoStore is refusal = is
not_both (CardBlock offset) is refusal = is
not_both (Directory why) is refusal = is
not_both (Frame why) is refusal = is
not_both (CardResult result) is refusal = is
not_both (OldFormat file) is refusal = is
not_both (Failed cause) is refusal = refusal
not_both Spent is refusal = is
not_both NoMemoryFault is refusal = refusal

module _ {F R : Type 0} (of_file : F → FileState) (of_port : R → PortState) (image : FileState → ℕ → ℕ → List ℕ) (Reliable : Type 0) (keys : Keys) (apps : List (List ℕ)) (drew draws : ℕ) where
  -- what acts tell that begin with a bench that holds that
  abbrev Tells : (s : ReplayState) → List RunRecord → Type 0
  Tells s records = FindLeft apps s (outcomes_in records) × RefusedByDevices (outcomes_in records)

  module _ (s : ReplayState) (old : Standing) (held : ArmNoMask old.arms × HoldsUntainted keys old.bench s) where
    stop_tells : (act : Act) (outcome : ActOutcome) (before behind : Standing) (x : ReplayState) → HoldsUntainted keys before.bench x
        → StopsAt of_file of_port image Reliable keys apps drew draws act outcome before behind → RefusedByDevices (outcome ∷ []) × ((y : ReplayState) → FindLeft apps y (outcome ∷ []))
    stop_tells act (Refused fault) before behind x holds stops = ((refusal_of_device of_file of_port image Reliable keys apps drew draws act before behind x fault holds stops, tt), λ y. tt)
    stop_tells act (Exceeded sum) before behind x holds stops = (tt, λ y. tt)
    stop_tells act CutShort before behind x holds stops = (tt, λ y. tt)
    stop_tells (Serve mode calls) outcome before behind x holds stops = absurd stops
    stop_tells (Do control) outcome before behind x holds stops = absurd stops

    parted_tell : (records : List RunRecord) (last : Standing) (p : Parted of_file of_port image Reliable keys apps drew draws records old last) → AlterNothing (acts_in records)
        → ((records ≡ p.done) × (last ≡ p.mid)) ⊎ Stopped of_file of_port image Reliable keys apps drew draws records p.done p.mid last → Tells s records
    parted_tell records last p unaltered (inl x) =
        let found = acts_find of_file of_port image Reliable keys apps p.done old p.mid s p.goes (subst (λ (l : List RunRecord). AlterNothing (acts_in l)) x.0 unaltered) held in
        subst (Tells s) (sym x.0) (found.0, by_devices-none (outcomes_in p.done) (goes-through of_file of_port image Reliable keys apps p.done old p.mid p.goes))
    parted_tell records last p unaltered (inr x) =
        let stop = x.r in
        let left = left_behind apps s (outcomes_in p.done) in
        let all : AlterNothing (acts_in p.done ++ acts_in (stop ∷ [])) = subst AlterNothing (ap acts_in x.is ∙ acts_in-append p.done (stop ∷ [])) unaltered in
        let found = acts_find of_file of_port image Reliable keys apps p.done old p.mid s p.goes (alter_front (acts_in p.done) (acts_in (stop ∷ [])) all) held in
        let there : HoldsUntainted keys (stop.before).bench left = subst (λ (st : Standing). HoldsUntainted keys st.bench left) (sym x.there) (found.1).1 in
        let last = stop_tells stop.act stop.outcome stop.before stop.behind left there x.stops in
        let came : outcomes_in records ≡ outcomes_in p.done ++ stop.outcome ∷ [] = ap outcomes_in x.is ∙ outcomes_in-append p.done (stop ∷ []) in (
          subst (FindLeft apps s) (sym came) (find_left-stop apps s (outcomes_in p.done) stop.outcome found.0 last.1),
          subst RefusedByDevices (sym came)
              (by_devices-then (outcomes_in p.done) (stop.outcome ∷ []) (by_devices-none (outcomes_in p.done) (goes-through of_file of_port image Reliable keys apps p.done old p.mid p.goes)) last.0),
        )

    pub acts_tell : (records : List RunRecord) (last : Standing) → AreActs of_file of_port image Reliable keys apps drew draws records old last → AlterNothing (acts_in records) → Tells s records
    acts_tell records last acts unaltered = let p = part of_file of_port image Reliable keys apps drew draws records old last acts in parted_tell records last p unaltered p.end

pub runs_find_left : {F R : Type 0} (of_file : F → FileState) (of_port : R → PortState) (image : FileState → ℕ → ℕ → List ℕ) (Reliable : Type 0) (w : World) → RunsFindLeft of_file of_port image Reliable w
runs_find_left of_file of_port image Reliable w left_old left_new held_old held_new drew draws keys handed given status s script r begins is unaltered =
    one (how_ended of_file of_port image Reliable drew draws keys r.0 handed given script is r.2)
  where
    apps : List (List ℕ)
    apps = applications_of script

    silent : (r.0).records ≡ [] → ((fault : MountFault) → (r.0).start ≡ Some fault → IsDeviceFault fault ⊎ (fault ≡ NoMemoryFault)) → FindsLeft apps s r.0
    silent none opened = record {
      finds = subst (λ (l : List RunRecord). FindLeft apps s (outcomes_in l)) (sym none) tt;
      refused = subst (λ (l : List RunRecord). RefusedByDevices (outcomes_in l)) (sym none) tt;
      opened = opened;
    }

    one : HowEnded of_file of_port image Reliable drew draws keys r.0 handed given script is → FindsLeft apps s r.0
    one (undone same start none) = silent none (λ fault some. absurd (no_start (r.0).start fault start some))
    one (shut fault start none refused) =
        silent none (λ other some. let e : ◌≡◌ {A = Option MountFault} (Some fault) (Some other) = sym start ∙ some in let same : fault ≡ other = cc in
        subst (λ (f : MountFault). IsDeviceFault f ⊎ (f ≡ NoMemoryFault)) same (open_devices keys apps s handed given drew draws begins fault refused))
    one (ran start between opens left front goes) =
        let held = begun_opened keys apps s handed between begins opens in
        let told = acts_tell of_file of_port image Reliable keys apps drew draws s (begins_with between) (tt, held) (r.0).records goes.last goes.acts (alter_front (acts_in (r.0).records) left (subst AlterNothing front unaltered)) in
        record { finds = told.0; refused = told.1; opened = λ fault some. absurd (no_start (r.0).start fault start some) }
