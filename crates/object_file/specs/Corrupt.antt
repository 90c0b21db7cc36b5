-- When a call on an object's data finds bad blocks.
use Rattle.std.specs.Prelude.{◌≡◌, ℕ, Bool, true, false, Result, Ok, Err}
use Rattle.std.specs.List.{list_any}
use Rattle.htree_file.specs.declared.fault.TreeFault.{TreeFault}
use Rattle.htree_file.specs.declared.fault.TreeFault.TheVariants.{BadTag, NoEntropy}
use Rattle.store_model.specs.Object.{Contents}

-- A call that asks for blocks of an object's data succeeds where none of them is bad, and draws only where none is. A bad tag is answered
-- where one is.
abbrev pub CorruptAnswer : Contents → (asked : ℕ → Bool) → {A : Type 0} → Result A TreeFault → Type 0
CorruptAnswer c asked (Ok answer) = list_any asked c.bad ≡ false
CorruptAnswer c asked (Err (BadTag k want found)) = list_any asked c.bad ≡ true
CorruptAnswer c asked (Err (NoEntropy count)) = list_any asked c.bad ≡ false
CorruptAnswer c asked (Err fault) = Unit {0}
