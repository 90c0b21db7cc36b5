-- What the machine refuses of a change by a live handle, whatever the object's bytes are.
use Rattle.std.proofs.Common.{Bool, List, Some, [], ap, false, nat_lt, subst, sym, true, ℕ, ◌+◌, ◌∷◌, ◌≡◌}
use Rattle.serial_calls.specs.ChangeReplies.{IsDoneOrRefused}
use Rattle.store_model.specs.Calls.{is_done}
use Rattle.store_model.specs.Data.{greatest_position, truncate_refusals, write_refusals}
use Rattle.store_model.specs.Machine.{first_refusal}
use Rattle.store_model.specs.Object.{Contents}
use Rattle.core_laws.proofs.Mending.{none_some, some_same}
use Rattle.tee_types.specs.Limits.{most_data_bytes}
use Rattle.tee_types.specs.declared.reply.Code.TheVariants.{NoSpace, Overflow}
use Rattle.tee_types.specs.declared.reply.Code.{Code}
use Rattle.tee_types.specs.declared.reply.Reply.TheVariants.{Corrupt, Refused}
use Rattle.tee_types.specs.declared.reply.Reply.{Reply}

-- rows by which a change of data is refused: by two return codes at most, or as it would spoil a bad block
abbrev pub change_rows : (far much spoilt : Bool) → (a b : Code) → List (Bool × Reply)
change_rows far much spoilt a b = (far, Refused a) ∷ (much, Refused b) ∷ (spoilt, Corrupt) ∷ []

-- without a bad block they refuse by a return code
pub rows_refused : (far much : Bool) (a b : Code) (reply : Reply) → first_refusal (change_rows far much false a b) ≡ Some reply → IsDoneOrRefused reply
rows_refused true much a b reply is = subst IsDoneOrRefused (some_same (Refused a) reply is) tt
rows_refused false true a b reply is = subst IsDoneOrRefused (some_same (Refused b) reply is) tt
rows_refused false false a b reply is = absurd (none_some reply is)

-- what they refuse is not done
pub rows_undone : (far much spoilt : Bool) (a b : Code) (reply : Reply) → first_refusal (change_rows far much spoilt a b) ≡ Some reply → is_done reply ≡ false
rows_undone true much spoilt a b reply is = ap is_done (sym (some_same (Refused a) reply is))
rows_undone false true spoilt a b reply is = ap is_done (sym (some_same (Refused b) reply is))
rows_undone false false true a b reply is = ap is_done (sym (some_same Corrupt reply is))
rows_undone false false false a b reply is = absurd (none_some reply is)

-- contents without a bad block
abbrev no_contents : Contents
no_contents = record { attributes = []; bytes = []; bad = [] }

-- what refuses a write, or another size, whatever the contents are
pub write_refused_so : (position count : ℕ) (reply : Reply) → ((c : Contents) → first_refusal (write_refusals c position count) ≡ Some reply) → IsDoneOrRefused reply
write_refused_so position count reply refused =
    rows_refused (nat_lt greatest_position (position + count)) (nat_lt most_data_bytes (position + count)) Overflow NoSpace reply (refused no_contents)

pub truncate_refused_so : (size : ℕ) (reply : Reply) → ((c : Contents) → first_refusal (truncate_refusals c size) ≡ Some reply) → IsDoneOrRefused reply
truncate_refused_so size reply refused = rows_refused false (nat_lt most_data_bytes size) NoSpace NoSpace reply (refused no_contents)
