-- What an arming leaves of each file.
use Rattle.std.proofs.Common.{◌≡◌, ℕ, List, [], ◌∷◌, sym, subst}
use Rattle.disk_model.specs.Controls.{failure_armed, stop_armed, taint_armed}
use Rattle.disk_model.specs.Arms.{Taint}
use Rattle.disk_model.specs.State.{FileState}
use Rattle.tee_types.specs.Limits.{directory_file}
use Rattle.tee_types.specs.declared.reply.Device.{Device}
use Rattle.tee_types.specs.declared.reply.Device.TheVariants.{Dir, File, Card, Entropy}
use Rattle.crash_core.specs.CoreState.{put}
use Rattle.crash_core.proofs.Lists.{put_each}
use Rattle.script_text.specs.declared.script.Arm.{Arm}
use Rattle.script_text.specs.declared.script.Arm.TheVariants.{Fail, Lose, Stop, Taint as TaintArm}
use Rattle.run_acts.specs.Benches.{BenchState}
use Rattle.object_calls.specs.OpeningArms.{TaintsOnBench}
use Rattle.run_acts.specs.PhaseArms.{ArmsAll, ArmsOneOf}
use Rattle.run_acts.specs.Untainted.{ArmNoMask}

-- what holds of a file, whatever stop or failure is armed for it
module _ (P : FileState → Type 0) (stops : (s : FileState) (calls : ℕ) → P s → P (stop_armed s calls)) (fails : (s : FileState) (call : ℕ) → P s → P (failure_armed s call)) where
  put_armed : (old new : ℕ → FileState) (n : ℕ) (s : FileState) → ((k : ℕ) → new k ≡ put old n s k) → (P (old n) → P s) → (k : ℕ) → P (old k) → P (new k)
  put_armed old new n s is armed k = subst (λ (x : FileState). P (old k) → P x) (sym (is k)) (put_each (λ j x. P (old j) → P x) old n s k armed (λ p. p))

  stop_keeps : (device : Device) (calls : ℕ) (old new : BenchState) → ArmsOneOf (Stop device calls) old new → (k : ℕ) → P (old.files k) → P (new.files k)
  stop_keeps Dir calls old new s = put_armed old.files new.files directory_file (stop_armed (old.files directory_file) calls) s.files (stops (old.files directory_file) calls)
  stop_keeps (File n) calls old new s = put_armed old.files new.files n (stop_armed (old.files n) calls) s.files (stops (old.files n) calls)
  stop_keeps Card calls old new s = λ k. subst P (sym (s.0 k))
  stop_keeps Entropy calls old new s = λ k. subst P (sym (s.files k))

  fail_keeps : (device : Device) (call : ℕ) (old new : BenchState) → ArmsOneOf (Fail device call) old new → (k : ℕ) → P (old.files k) → P (new.files k)
  fail_keeps Dir call old new s = put_armed old.files new.files directory_file (failure_armed (old.files directory_file) call) s.files (fails (old.files directory_file) call)
  fail_keeps (File n) call old new s = put_armed old.files new.files n (failure_armed (old.files n) call) s.files (fails (old.files n) call)
  fail_keeps Card call old new s = λ k. subst P (sym (s.0 k))
  fail_keeps Entropy call old new s = λ k. subst P (sym (s.files k))

  lose_keeps : (call : ℕ) (old new : BenchState) → ArmsOneOf (Lose call) old new → (k : ℕ) → P (old.files k) → P (new.files k)
  lose_keeps call old new s = λ k. subst P (sym (s.0 k))

  -- where no mask is armed
  pub unmasked_keep : (arms : List Arm) (old new : BenchState) → ArmNoMask arms → ArmsAll arms old new → (k : ℕ) → P (old.files k) → P (new.files k)
  unmasked_keep [] old new none s = λ k. subst P (sym (s.0 k))
  unmasked_keep (Stop device calls ∷ arms) old new none (between, its, others) = λ k p. unmasked_keep arms between new none others k (stop_keeps device calls old between its k p)
  unmasked_keep (Fail device call ∷ arms) old new none (between, its, others) = λ k p. unmasked_keep arms between new none others k (fail_keeps device call old between its k p)
  unmasked_keep (Lose call ∷ arms) old new none (between, its, others) = λ k p. unmasked_keep arms between new none others k (lose_keeps call old between its k p)
  unmasked_keep (TaintArm file call at mask ∷ arms) old new none all = absurd none

  -- or if it holds too of a file for which a mask is armed
  module _ (taints : (s : FileState) (taint : Taint) → P s → P (taint_armed s taint)) where
    taint_keeps : (file : Device) (taint : Taint) (old new : BenchState) → TaintsOnBench file taint old.files new.files old.card new.card → (k : ℕ) → P (old.files k) → P (new.files k)
    taint_keeps Dir taint old new s = put_armed old.files new.files directory_file (taint_armed (old.files directory_file) taint) s.files (taints (old.files directory_file) taint)
    taint_keeps (File n) taint old new s = put_armed old.files new.files n (taint_armed (old.files n) taint) s.files (taints (old.files n) taint)
    taint_keeps Card taint old new s = λ k. subst P (sym (s.files k))
    taint_keeps Entropy taint old new s = λ k. subst P (sym (s.files k))

    arm_keeps : (arm : Arm) (old new : BenchState) → ArmsOneOf arm old new → (k : ℕ) → P (old.files k) → P (new.files k)
    arm_keeps (Stop device calls) old new s = stop_keeps device calls old new s
    arm_keeps (Fail device call) old new s = fail_keeps device call old new s
    arm_keeps (Lose call) old new s = lose_keeps call old new s
    arm_keeps (TaintArm file call at mask) old new s = taint_keeps file (record { call = call; at = at; mask = mask }) old new s

    pub arms_keep : (arms : List Arm) (old new : BenchState) → ArmsAll arms old new → (k : ℕ) → P (old.files k) → P (new.files k)
    arms_keep [] old new s = λ k. subst P (sym (s.0 k))
    arms_keep (arm ∷ arms) old new (between, its, others) = λ k p. arms_keep arms between new others k (arm_keeps arm old between its k p)
