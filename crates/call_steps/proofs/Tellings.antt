-- The count that a reply carries.
use Rattle.std.proofs.Common.{◌≡◌, ℕ, Bool, true, false, cond, List, [], ◌∷◌, refl, ap, subst, sym}
use Rattle.std.proofs.lemmas.Bool.{false≢true, eqb-true}
use Rattle.disk_model.specs.Faults.{Rose}
use Rattle.tee_types.specs.declared.reply.Cause.TheVariants.{Fault}
use Rattle.tee_types.specs.declared.reply.Device.{Device}
use Rattle.tee_types.specs.declared.reply.Device.TheVariants.{Card, Dir, Entropy, File}
use Rattle.tee_types.specs.declared.reply.Reply.{Reply}
use Rattle.tee_types.specs.declared.reply.Reply.TheVariants.{NotAvailable}
use Rattle.call_steps.specs.DeviceCounts.{Rise, same_device, told_of}
use Rattle.call_steps.specs.Devices.{AccusesRightly, Devices, Grows, faults_of}
use Rattle.call_steps.proofs.Rises.{Rise-one}

same_device-is : (m n : Device) → same_device m n ≡ true → m ≡ n
same_device-is Dir Dir same = refl
same_device-is (File m) (File n) same = ap File (eqb-true m n same)
same_device-is Card Card same = refl
same_device-is Entropy Entropy same = refl
same_device-is m n same = absurd (false≢true same)

module _ (key : List ℕ) (old new : Devices) (device : Device) where
  abbrev RiseBy : List ℕ → Type 0
  RiseBy counts = Rise (faults_of old device) (faults_of new device) counts

  accused : (other : Device) (count : ℕ) (same : Bool) → same_device device other ≡ same → Rose (faults_of old other) (faults_of new other) × (count ≡ faults_of new other)
      → Grows (faults_of old device) (faults_of new device) → RiseBy (cond same (count ∷ []) [])
  accused other count true same told grows =
      let is = same_device-is device other same in
      subst (λ d. Rise (faults_of old d) (faults_of new d) (count ∷ [])) (sym is) (Rise-one (faults_of old other) (faults_of new other) count told.0 told.1)
  accused other count false same told grows = grows

  -- the device counted what the reply carries for it
  pub Rise-told_of : (reply : Reply) → AccusesRightly key old new reply → Grows (faults_of old device) (faults_of new device) → RiseBy (told_of device reply)
  Rise-told_of (NotAvailable (Fault other count)) told grows = accused other count (same_device device other) refl told grows
  Rise-told_of reply told grows = grows
