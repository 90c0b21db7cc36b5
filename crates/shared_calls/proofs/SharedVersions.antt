-- A slot whose file and content moved gives what it gave.
use Rattle.std.proofs.Common.{◌≡◌, sym, subst}
use Rattle.history_seats.specs.Records.{Version}
use Rattle.serial_calls.specs.GuardedReads.{GivesVersion}
use Rattle.serial_calls.specs.SlotValues.{SlotValue}

pub gives-moved : (old new : SlotValue) (v : Version) → new ≡ record old { file = new.file; holds = new.holds } → GivesVersion old v → GivesVersion new v
gives-moved old new v same gives = subst (λ (s : SlotValue). GivesVersion s v) (sym same) (record { seat = gives.seat; is = gives.is; gives = gives.gives })
