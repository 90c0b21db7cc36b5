-- The counts of faults that a reply carries, before it is appended.
use Rattle.std.specs.Prelude.{ℕ, ◌≡◌, List, [], Option, Some, None}
use Rattle.disk_model.specs.Faults.{Rose}
use Rattle.tee_types.specs.declared.reply.Cause.TheVariants.{Fault}
use Rattle.tee_types.specs.declared.reply.Device.TheVariants.{Entropy, File}
use Rattle.tee_types.specs.declared.reply.Reply.{Reply}
use Rattle.tee_types.specs.declared.reply.Reply.TheVariants.{NotAvailable}
use Rattle.serial_calls.specs.DeviceCounts.{told_of}

-- A reply that accuses the entropy carries its count, which rose from the first number to the last.
abbrev pub CarriesDraws : (first last : ℕ) → Reply → Type 0
CarriesDraws first last (NotAvailable (Fault Entropy count)) = Rose first last × (count ≡ last)
CarriesDraws first last reply = Unit {0}

-- the counts that a reply carries for the file of that number, if there is one
abbrev pub told_if : (file : ℕ) → Option Reply → List ℕ
told_if file None = []
told_if file (Some reply) = told_of (File file) reply
