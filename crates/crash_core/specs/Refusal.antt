-- Why a device set mounts to no map.
use Rattle.std.specs.Prelude.{ℕ}
use Rattle.crash_core.specs.declared.fault.DirFault.{DirFault}

pub data Refusal : Type 0 where
  -- the card's block 0 is all zero
  NoStore : Refusal
  -- the byte of the card's block 0 at that offset is outside its form
  CardBlock : ℕ → Refusal
  -- the block names no directory
  NoDirectory : DirFault → Refusal
