-- What a run did to the bench.
use Rattle.std.specs.Prelude.{ℕ, ◌≡◌, ◌⊎◌, List, [], ◌++◌, None, Option, Some}
use Rattle.disk_model.specs.State.{FileState}
use Rattle.hmac_keys.specs.declared.Keys.{Keys}
use Rattle.rpmb_card.specs.Port.{PortState}
use Rattle.run_acts.specs.declared.MountFault.{MountFault}
use Rattle.run_acts.specs.Benches.{BenchState}
use Rattle.run_acts.specs.Opens.{IsOpenRefused, OpensBench}
use Rattle.script_runner.specs.Course.{AreActs}
use Rattle.script_runner.specs.Records.{RunRecord, acts_in}
use Rattle.script_runner.specs.SavedFiles.{Standing, begins_with}
use Rattle.script_runner.specs.Text.{Act}
use Rattle.script_runner.specs.Trace.{IsUntouched, OfScript, Trace, applications_of, script_acts}

-- `drew` and `draws`: how many faults the generator of nonces counted before the run and behind it
module _ {F R : Type 0} (of_file : F → FileState) (of_port : R → PortState) (image : FileState → ℕ → ℕ → List ℕ) (Reliable : Type 0) (drew draws : ℕ) (keys : Keys) where
  -- A bench in that standing went through the acts that these records tell, and was then given back.
  pub record GoesThrough (applications : List (List ℕ)) (records : List RunRecord) (old : Standing) (given : BenchState) : Type 0 where
    pub last : Standing
    pub acts : AreActs of_file of_port image Reliable keys applications drew draws records old last
    pub given_is : given ≡ last.bench

  -- The bench was opened, and went through the acts.
  pub record Opened (applications : List (List ℕ)) (start : Option MountFault) (records : List RunRecord) (handed given : BenchState) : Type 0 where
    pub shown : start ≡ None
    pub between : BenchState
    pub opens : OpensBench keys handed between
    pub goes : GoesThrough applications records (begins_with between) given

  -- The bench was not opened, for that reason.
  pub record NotOpened (start : Option MountFault) (records : List RunRecord) (handed given : BenchState) : Type 0 where
    pub fault : MountFault
    pub shown : start ≡ Some fault
    pub none : records ≡ []
    pub refused : IsOpenRefused keys handed given drew draws fault

  -- What was done with the bench for those acts, of which the last may be left.
  pub record RunsBench (applications : List (List ℕ)) (acts : List Act) (start : Option MountFault) (records : List RunRecord) (handed given : BenchState) : Type 0 where
    pub left : List Act
    pub front : acts ≡ acts_in records ++ left
    pub bench : Opened applications start records handed given ⊎ NotOpened start records handed given

  -- What a run did to the bench: nothing; or what the script tells that it took.
  abbrev pub EndsBench : Trace → (handed given : BenchState) → Type 0
  EndsBench t handed given = IsUntouched t handed given ⊎ OfScript t.taken (λ script. RunsBench (applications_of script) (script_acts script) t.start t.records handed given)
