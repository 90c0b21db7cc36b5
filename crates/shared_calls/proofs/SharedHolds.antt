-- The gate keeps what always holds of its devices, as a session holds a file and gives it back.
use Rattle.std.proofs.Common.{◌≡◌, ◌∙◌, ℕ, List, None, Option, ap, refl, subst, sym}
use Rattle.serial_calls.specs.Seating.{reseated}
use Rattle.disk_model.specs.State.{FileState}
use Rattle.serial_calls.specs.GuardedGates.{GuardedGateValue}
use Rattle.rpmb_card.specs.Port.{PortState}
use Rattle.serial_calls.specs.Stores.{Store}
use Rattle.serial_calls.specs.Devices.{Devices}
use Rattle.shared_calls.specs.Kept.{KeepsGate}
use Rattle.shared_calls.proofs.KeptGates.{keeps-same}

module _ {F R : Type 0} (of_file : F → FileState) (of_port : R → PortState) (store : Store) (before : Devices) (old : GuardedGateValue F R) (k : KeepsGate of_file of_port store before old) where
  -- other files are held
  pub keeps-held : (new : GuardedGateValue F R) (holds : List (Option ℕ)) → new ≡ record old { gate = record old.gate { holds = holds } } → KeepsGate of_file of_port store before new
  keeps-held new holds is =
      subst (KeepsGate of_file of_port store before) (sym is) (keeps-same of_file of_port store before old (record old { gate = record old.gate { holds = holds } }) k refl refl refl)

  -- a file has a new seat
  pub keeps-reseated : (file : ℕ) → KeepsGate of_file of_port store before (reseated store file old)
  keeps-reseated file = keeps-same of_file of_port store before old (reseated store file old) k refl refl refl

-- no commit is in doubt, as before
pub idle-held : {F R : Type 0} (old new : GuardedGateValue F R) (holds : List (Option ℕ)) → new ≡ record old { gate = record old.gate { holds = holds } } → old.gate.doubt ≡ None → new.gate.doubt ≡ None
idle-held old new holds is idle = ap (λ (g : GuardedGateValue _ _). g.gate.doubt) is ∙ idle
