-- The replies of each phase accuse rightly.
use Rattle.std.proofs.Common.{◌≡◌, ◌∙◌, ◌<◌, ℕ, List, [], ◌∷◌, length, refl, sym, ap, subst}
use Rattle.disk_model.specs.State.{FileState}
use Rattle.hmac_keys.specs.declared.Keys.{Keys}
use Rattle.hmac_keys.specs.KeyTable.{rpmb_key}
use Rattle.rpmb_card.specs.Port.{PortState, Rearmed}
use Rattle.rpmb_card.specs.Arms.{Arms, arm_loss}
use Rattle.rpmb_host.specs.Honest.{HadCard}
use Rattle.app_quota.specs.declared.quotas.Quota.{Quota}
use Rattle.object_calls.specs.OpeningArms.{TaintsOnBench}
use Rattle.disk_model.specs.Arms.{Taint as Mask}
use Rattle.run_acts.proofs.ArmedFiles.{arms_keep}
use Rattle.run_acts.proofs.CrashedLaws.{card_of}
use Rattle.run_acts.specs.Benches.{BenchState, opening_state}
use Rattle.run_acts.specs.Closing.{faults_on}
use Rattle.run_acts.specs.PhaseArms.{ArmsAll, ArmsOneOf}
use Rattle.run_acts.specs.Phases.{RunsPhase}
use Rattle.shared_store.specs.Cards.{DoubtsCost}
use Rattle.shared_store.specs.DeviceCounts.{Rise, counts_of, draws_of}
use Rattle.script_runner.specs.RunCauses.{World}
use Rattle.script_runner.specs.Text.{PhaseRecord}
use Rattle.script_runner.specs.Trace.{applications_of}
use Rattle.script_text.specs.declared.script.Arm.{Arm}
use Rattle.script_text.specs.declared.script.Arm.TheVariants.{Fail, Lose, Stop, Taint}
use Rattle.script_text.specs.declared.script.Mode.{Mode}
use Rattle.script_text.specs.declared.script.Step.{Step}
use Rattle.tee_types.specs.Limits.{directory_file}
use Rattle.tee_types.specs.declared.reply.Device.{Device}
use Rattle.tee_types.specs.declared.reply.Device.TheVariants.{Card, Dir, Entropy, File}
use Rattle.trusted_storage.specs.Blame.{AccuseRightly}
use Rattle.trusted_storage.specs.Laws.{RepliesAccuseRightly}
use Rattle.trusted_storage.proofs.Legal.{applications_are}
use Rattle.trusted_storage.proofs.Phases.{each_of_run}

-- AN ARMING COUNTS NOTHING
module _ (P : PortState → Type 0) (keeps : (old new : PortState) (arms : Arms) → Rearmed old new arms → P old → P new) where
  stop_port : (device : Device) (calls : ℕ) (old new : BenchState) → ArmsOneOf (Stop device calls) old new → P old.card → P new.card
  stop_port Dir calls old new s p = subst P (sym s.port) p
  stop_port (File n) calls old new s p = subst P (sym s.port) p
  stop_port Card calls old new s p = keeps old.card new.card _ s.1 p
  stop_port Entropy calls old new s p = subst P (sym s.port) p

  fail_port : (device : Device) (call : ℕ) (old new : BenchState) → ArmsOneOf (Fail device call) old new → P old.card → P new.card
  fail_port Dir call old new s p = subst P (sym s.port) p
  fail_port (File n) call old new s p = subst P (sym s.port) p
  fail_port Card call old new s p = keeps old.card new.card _ s.1 p
  fail_port Entropy call old new s p = subst P (sym s.port) p

  taint_port : (file : Device) (mask : Mask) (old new : BenchState) → TaintsOnBench file mask old.files new.files old.card new.card → P old.card → P new.card
  taint_port Dir mask old new s p = subst P (sym s.port) p
  taint_port (File n) mask old new s p = subst P (sym s.port) p
  taint_port Card mask old new s p = subst P (sym s.port) p
  taint_port Entropy mask old new s p = subst P (sym s.port) p

  arm_port : (arm : Arm) (old new : BenchState) → ArmsOneOf arm old new → P old.card → P new.card
  arm_port (Stop device calls) old new s p = stop_port device calls old new s p
  arm_port (Fail device call) old new s p = fail_port device call old new s p
  arm_port (Lose call) old new s p = keeps old.card new.card (arm_loss old.card.arms call) s.1 p
  arm_port (Taint file call at mask) old new s p = taint_port file (record { call = call; at = at; mask = mask }) old new s p

  arms_port : (arms : List Arm) (old new : BenchState) → ArmsAll arms old new → P old.card → P new.card
  arms_port [] old new s p = subst P (sym s.1) p
  arms_port (arm ∷ arms) old new (between, its, others) p = arms_port arms between new others (arm_port arm old between its p)

-- the counts of the devices, and the card, are as they were
record CountedNone (old new : BenchState) : Type 0 where
  files : (file : ℕ) → (new.files file).faults ≡ (old.files file).faults
  faults : new.card.faults ≡ old.card.faults
  card : new.card.card ≡ old.card.card

armed_none : (arms : List Arm) (old new : BenchState) → ArmsAll arms old new → CountedNone old new
armed_none arms old new all = record {
  files = λ file. arms_keep (λ f. f.faults ≡ (old.files file).faults) (λ f calls same. same) (λ f call same. same) (λ f taint same. same) arms old new all file refl;
  faults = arms_port (λ p. p.faults ≡ old.card.faults) (λ p q armed is same. ap (λ (x : PortState). x.faults) is.others ∙ same) arms old new all refl;
  card = arms_port (λ p. p.card ≡ old.card.card) (λ p q armed is same. ap (λ (x : PortState). x.card) is.others ∙ same) arms old new all refl;
}

none_then : (a b c : BenchState) → CountedNone a b → CountedNone b c → CountedNone a c
none_then a b c first then = record { files = λ file. then.files file ∙ first.files file; faults = then.faults ∙ first.faults; card = then.card ∙ first.card }

same_on : (old new : BenchState) → CountedNone old new → (device : Device) → faults_on new device ≡ faults_on old device
same_on old new none Dir = none.files directory_file
same_on old new none (File number) = none.files number
same_on old new none Card = none.faults
same_on old new none Entropy = refl

module _ {F R : Type 0} (of_file : F → FileState) (of_port : R → PortState) (Reliable : Type 0) (keys : Keys) (applications : List (List ℕ)) (quotas : List Quota) (arms : List Arm) (mode : Mode) (calls : List Step)
    (old new : BenchState) (phase : PhaseRecord) (r : RunsPhase of_file of_port Reliable keys applications quotas arms mode calls old new phase.opening phase.events phase.refused) where
  abbrev armed : BenchState
  armed = opening_state of_file of_port (r.serves).armed

  before_none : CountedNone old armed
  before_none = none_then old (opening_state of_file of_port r.opened) armed
      (record { files = λ file. ((r.passed).files file).faults; faults = (r.passed).card; card = (r.keeps).card }) (armed_none arms (opening_state of_file of_port r.opened) armed ((r.serves).ready).arms_are)

  behind_none : CountedNone r.closed new
  behind_none = record {
    files = λ file. ap (λ (f : FileState). f.faults) ((r.disarms).files file);
    faults = ap (λ (p : PortState). p.faults) ((r.disarms).card).others;
    card = ap (λ (p : PortState). p.card) ((r.disarms).card).others;
  }

  abbrev key : List ℕ
  key = rpmb_key keys.huk

  key_is : rpmb_key ((r.serves).store.keys).huk ≡ key
  key_is = ap (λ (k : Keys). rpmb_key k.huk) (r.serves).keys_are

  had : HadCard old.card key → HadCard armed.card (rpmb_key ((r.serves).store.keys).huk)
  had has = subst (HadCard armed.card) (sym key_is) (has.0, card_of armed.card old.card key has.0 (sym before_none.card) has.1)

  phase_accuses : AccuseRightly Reliable keys applications old new phase.events
  phase_accuses =
      let closes = (r.serves).closes in
      let apps = applications_are of_file of_port Reliable keys applications quotas arms mode calls old new phase.opening phase.events phase.refused r in
      record {
        devices = λ device on.
            subst (λ (n : ℕ). Rise n (faults_on new device) (counts_of device phase.events)) (same_on old armed before_none device)
            (subst (λ (n : ℕ). Rise (faults_on armed device) n (counts_of device phase.events)) (sym (same_on r.closed new behind_none device)) (closes.counted device on));
        drawn = subst (λ (l : List (List ℕ)). (session : ℕ) → session < length l → (last : ℕ) × Rise 0 last (draws_of session phase.events)) apps closes.drawn;
        undrawn = subst (λ (l : List (List ℕ)). Reliable → (session : ℕ) → session < length l → draws_of session phase.events ≡ []) apps closes.undrawn;
        card = record {
          frames = λ has. (closes.card).frames (had has);
          doubts = λ has. subst (λ (n : ℕ). DoubtsCost n phase.events) before_none.faults ((closes.card).doubts (had has));
        };
      }

pub replies_accuse : {F R : Type 0} (of_file : F → FileState) (of_port : R → PortState) (image : FileState → ℕ → ℕ → List ℕ) (Reliable : Type 0) (w : World) → RepliesAccuseRightly of_file of_port image Reliable w
replies_accuse of_file of_port image Reliable w c script is =
    each_of_run of_file of_port image Reliable w ⊥ (λ before behind quotas mode calls phase. AccuseRightly Reliable c.keys (applications_of script) before behind phase.events) c script
    (λ quotas arms mode calls old new phase r honest. phase_accuses of_file of_port Reliable c.keys (applications_of script) quotas arms mode calls old new phase r) is (λ trusted. absurd trusted)
