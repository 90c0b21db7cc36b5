-- What was done with the bench of a run that took a script.
use Rattle.std.proofs.Common.{◌≡◌, ◌⊎◌, ◌∙◌, ℕ, List, [], ◌++◌, None, Ok, Option, Result, Some, inl, inr, sym, subst}
use Rattle.disk_model.specs.State.{FileState}
use Rattle.hmac_keys.specs.declared.Keys.{Keys}
use Rattle.rpmb_card.specs.Port.{PortState}
use Rattle.script_text.specs.declared.reading.ScriptFault.{ScriptFault}
use Rattle.script_text.specs.Grammar.{script_of}
use Rattle.script_text.specs.Script.{ScriptValue}
use Rattle.run_acts.specs.Benches.{BenchState}
use Rattle.run_acts.specs.declared.MountFault.{MountFault}
use Rattle.run_acts.specs.Opens.{IsOpenRefused, OpensBench}
use Rattle.script_runner.specs.Ending.{EndsBench, GoesThrough, NotOpened, Opened, RunsBench}
use Rattle.script_runner.specs.Records.{acts_in}
use Rattle.script_runner.specs.SavedFiles.{begins_with}
use Rattle.script_runner.specs.Text.{Act}
use Rattle.script_runner.specs.Trace.{OfScript, Trace, applications_of, script_acts}

-- two scripts of one text are one
pub same_script : (taken : List ℕ) (one other : ScriptValue) → script_of taken ≡ Ok one → script_of taken ≡ Ok other → one ≡ other
same_script taken one other is read = let e : ◌≡◌ {A = Result ScriptValue ScriptFault} (Ok one) (Ok other) = sym is ∙ read in cc

-- what holds of the script that was taken, holds of this one
pub of_script : (taken : List ℕ) (script : ScriptValue) (P : ScriptValue → Type 0) → script_of taken ≡ Ok script → OfScript taken P → P script
of_script taken script P is (other, read, holds) = subst P (same_script taken other script read is) holds

-- a fault before the first act is no start
pub no_start : (start : Option MountFault) (fault : MountFault) → start ≡ None → start ≡ Some fault → ⊥
no_start start fault none some = let e : ◌≡◌ {A = Option MountFault} None (Some fault) = sym none ∙ some in absurd cc

module _ {F R : Type 0} (of_file : F → FileState) (of_port : R → PortState) (image : FileState → ℕ → ℕ → List ℕ) (Reliable : Type 0) (drew draws : ℕ) (keys : Keys) (t : Trace) (handed given : BenchState) (script : ScriptValue)
    (is : script_of t.taken ≡ Ok script) where
  -- nothing was done; or the bench was not opened, for that reason; or it went through the acts
  pub data HowEnded : Type 0 where
    undone : given ≡ handed → t.start ≡ None → t.records ≡ [] → HowEnded
    shut : (fault : MountFault) → t.start ≡ Some fault → t.records ≡ [] → IsOpenRefused keys handed given drew draws fault → HowEnded
    ran : t.start ≡ None → (between : BenchState) → OpensBench keys handed between → (left : List Act) → script_acts script ≡ acts_in t.records ++ left
        → GoesThrough of_file of_port image Reliable drew draws keys (applications_of script) t.records (begins_with between) given → HowEnded

  of_bench : (left : List Act) → script_acts script ≡ acts_in t.records ++ left
      → Opened of_file of_port image Reliable drew draws keys (applications_of script) t.start t.records handed given ⊎ NotOpened of_file of_port image Reliable drew draws keys t.start t.records handed given → HowEnded
  of_bench left front (inl o) = ran o.shown o.between o.opens left front o.goes
  of_bench left front (inr n) = shut n.fault n.shown n.none n.refused

  pub how_ended : EndsBench of_file of_port image Reliable drew draws keys t handed given → HowEnded
  how_ended (inl (silent, same)) = undone same silent.start silent.records
  how_ended (inr ends) =
      let b = of_script t.taken script (λ other. RunsBench of_file of_port image Reliable drew draws keys (applications_of other) (script_acts other) t.start t.records handed given) is ends in
      of_bench b.left b.front b.bench
