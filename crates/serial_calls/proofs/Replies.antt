-- The kinds of replies.
use Rattle.std.proofs.Common.{None, false, refl, true, ◌≡◌}
use Rattle.serial_calls.specs.ChangeReplies.{IsDoneOrRefused, IsFailure}
use Rattle.store_model.specs.Calls.{is_handle}
use Rattle.store_model.specs.Record.{fault_in_reply}
use Rattle.store_model.specs.ReplayState.{is_undone}
use Rattle.tee_types.specs.declared.reply.Reply.{Reply}
use Rattle.tee_types.specs.declared.reply.Reply.TheVariants.{Corrupt, Done, NotAvailable, Refused}

-- one that is done, or refused, gives no handle, and accuses no file
pub done_no_handle : (reply : Reply) → IsDoneOrRefused reply → is_handle reply ≡ false
done_no_handle Done is = refl
done_no_handle (Refused code) is = refl
done_no_handle reply is = absurd is

pub done_no_file : (reply : Reply) → IsDoneOrRefused reply → fault_in_reply reply ≡ None
done_no_file Done is = refl
done_no_file (Refused code) is = refl
done_no_file reply is = absurd is

pub done_done : (reply : Reply) → IsDoneOrRefused reply → is_undone reply ≡ false
done_done Done is = refl
done_done (Refused code) is = refl
done_done reply is = absurd is

-- a failure is not done
pub failure_undone : (reply : Reply) → IsFailure reply → is_undone reply ≡ true
failure_undone Corrupt is = refl
failure_undone (NotAvailable cause) is = refl
failure_undone reply is = absurd is
