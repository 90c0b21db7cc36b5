-- The counts of faults that the replies of a phase carry.
use Rattle.std.specs.Prelude.{ℕ, ◌==◌, Bool, true, false, List, [], ◌∷◌, ◌++◌, if◌then◌else◌}
use Rattle.disk_model.specs.Faults.{Rose}
use Rattle.tee_types.specs.declared.reply.Cause.TheVariants.{Fault}
use Rattle.tee_types.specs.declared.reply.Device.{Device}
use Rattle.tee_types.specs.declared.reply.Device.TheVariants.{Card, Dir, Entropy, File}
use Rattle.tee_types.specs.declared.reply.Reply.{Reply}
use Rattle.tee_types.specs.declared.reply.Reply.TheVariants.{NotAvailable}
use Rattle.store_model.specs.declared.event.Event.{Event}
use Rattle.store_model.specs.declared.event.Event.TheVariants.{Call as CallEvent, Landed}
use Rattle.call_steps.specs.Devices.{Grows}

abbrev pub same_device : Device → Device → Bool
same_device Dir Dir = true
same_device (File m) (File n) = m == n
same_device Card Card = true
same_device Entropy Entropy = true
same_device _ _ = false

-- the count that the reply carries for the device, if it accuses it
abbrev pub told_of : Device → Reply → List ℕ
told_of device (NotAvailable (Fault accused count)) = if same_device device accused then count ∷ [] else []
told_of device reply = []

-- the counts that these events carry for a device of the bench, in order
abbrev pub counts_of : Device → List Event → List ℕ
counts_of device [] = []
counts_of device (CallEvent session number call reply mark ∷ events) = told_of device reply ++ counts_of device events
counts_of device (Landed commit ∷ events) = counts_of device events

-- the counts that the events of a session carry for its entropy
abbrev pub draws_of : (session : ℕ) → List Event → List ℕ
draws_of session [] = []
draws_of session (CallEvent of number call reply mark ∷ events) = if of == session then told_of Entropy reply ++ draws_of session events else draws_of session events
draws_of session (Landed commit ∷ events) = draws_of session events

-- Each count rose above the one before it: they lead from the first number to the last. So no two are one, below the last value of a
-- count, and none is above the last number.
abbrev pub Rise : (from to : ℕ) → List ℕ → Type 0
Rise from to [] = Grows from to
Rise from to (count ∷ counts) = Rose from count × Rise count to counts
