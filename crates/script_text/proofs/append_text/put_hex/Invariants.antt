use Rattle.std.proofs.Common.{◌≡◌, ◌++◌, drop, take, length}
use Rattle.hex.specs.Hex.{encode_lower}
use Rattle.script_text.proofs.append_text.put_hex.Given as goal

abbrev pub invariant-loop-byte : goal.invariant-loop-byte
invariant-loop-byte l = record {
  same : l.out.items ++ encode_lower (drop l.byte-index l.bytes) ≡ l.initial.out.items ++ encode_lower l.bytes;
  kept : take (length l.initial.out.items) l.out.items ≡ l.initial.out.items;
}
