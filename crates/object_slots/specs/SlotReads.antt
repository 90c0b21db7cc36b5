-- What a read of an object answers.
use Rattle.std.specs.Prelude.{◌≡◌, ℕ, ◌+◌, ◌-◌, ◌≤◌, ◌++◌, List, length, drop, min, Bool, true, false, Result, Ok, Err, IfErr, IfOk, IsTrue}
use Rattle.std.specs.List.{list_any}
use Rattle.disk_model.specs.State.{FileState}
use Rattle.disk_model.specs.Calls.{Rests}
use Rattle.htree_file.specs.Opening.{IsVerified}
use Rattle.htree_file.specs.Standing.{Told}
use Rattle.page_bytes.specs.Ranges.{meets, read_range}
use Rattle.block_file.specs.Reads.{AreReadBytes, IsFirstBad, after_calls, blocks_of}
use Rattle.store_model.specs.Object.{Contents}
use Rattle.store_model.specs.Data.{bytes_at, meets_block}
use Rattle.object_file.specs.Held.{held_in}
use Rattle.object_file.specs.Value.{size_in}
use Rattle.object_slots.specs.declared.fault.SlotFault.{SlotFault}
use Rattle.object_slots.specs.declared.fault.SlotFault.TheVariants.{Corrupt, Failed, NoEntropy}
use Rattle.object_slots.specs.SlotFaults.{HasCause}
use Rattle.object_slots.specs.SlotCalls.{ReadSteps}
use Rattle.object_slots.specs.SlotValues.{HeldObject}

-- of the blocks of the tree that are asked, one is bad: the first such, with both tags, as the file reads when the call ends
pub record HasBadBlock (old new : FileState) (o : HeldObject) (asked : ℕ → Bool) : Type 0 where
  pub block : ℕ
  pub want : List ℕ
  pub found : List ℕ
  pub bad : IsFirstBad o.tree.key o.tree.tree old new asked block want found

-- A call that asks for blocks of an object's data succeeds where none of them is bad, and draws only where none is. Corrupt is answered
-- where one is.
abbrev pub CorruptAnswer : {A : Type 0} → Contents → (asked : ℕ → Bool) → Result A SlotFault → Type 0
CorruptAnswer c asked (Ok answer) = list_any asked c.bad ≡ false
CorruptAnswer c asked (Err Corrupt) = list_any asked c.bad ≡ true
CorruptAnswer c asked (Err (NoEntropy count)) = list_any asked c.bad ≡ false
CorruptAnswer c asked (Err fault) = Unit {0}

-- at most so many calls were made of a file that tells its arms
abbrev pub AsksAtMost : (most : ℕ) → (old new : FileState) → Type 0
AsksAtMost most old new = IsTrue old.tells_arms → (asked : ℕ) × (asked ≤ most) × (new.arms ≡ after_calls asked old.arms)

-- how many bytes a read gives
abbrev pub read_count : HeldObject → (at count : ℕ) → ℕ
read_count o at count = min count (size_in o - at)

-- why a read is refused
abbrev pub ReadFault : (old new : FileState) → HeldObject → (asked : ℕ → Bool) → SlotFault → Type 0
ReadFault old new o asked Corrupt = HasBadBlock old new o asked
ReadFault old new o asked (Failed count) = Unit {0}
ReadFault old new o asked fault = ⊥

-- What a read from a place on answers.
pub record ReadsObject (old new : FileState) (o : HeldObject) (at : ℕ) (before after : List ℕ) (result : Result ℕ SlotFault) : Type 0 where
  pub count : IfOk result (λ n. n ≡ read_count o at (length before))
  -- of any file: each byte is of a ciphertext with its node's tag
  pub bytes : IfOk result (λ n. AreReadBytes o.tree.key o.tree.tree old new (4096 + at) after n)
  pub refused : IfErr result (ReadFault old new o (meets (4096 + at) (4096 + at + read_count o at (length before))))
  -- of one that can be followed
  pub content : IfOk result (λ n. Told old new → after ≡ bytes_at (held_in o old.reads).bytes at (length before) ++ drop n before)
  pub corrupt : Told old new → CorruptAnswer (held_in o old.reads) (meets_block at (at + read_count o at (length before))) result
  pub behind : drop (read_count o at (length before)) after ≡ drop (read_count o at (length before)) before
  pub verified : IsVerified o.tree.root o.tree.tree
  pub rests : Rests old new
  pub cause : HasCause old new result
  pub steps : ReadSteps old new
  -- each block is read at most once
  pub asks : IfOk result (λ n. AsksAtMost (blocks_of (read_range o.tree.tree.head.length (4096 + at) (length before))) old new)
