use Rattle.std.proofs.Common.{◌≡◌, ◌≤◌, min, take}
use Rattle.std.specs.Str.Parse.{digits_value}
use Rattle.script_text.proofs.values.capped.Given as goal

abbrev pub invariant-loop-digit : goal.invariant-loop-digit
invariant-loop-digit l = record {
  number : l.value ≡ min (digits_value l.base (take l.digit-index l.digits)) l.limit;
  within : l.value ≤ l.limit;
}
