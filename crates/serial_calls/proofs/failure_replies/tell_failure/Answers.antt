use Rattle.serial_calls.proofs.Checked.{failure_not_done, not_done_bare}
use Rattle.serial_calls.proofs.failure_replies.tell_failure.Goals as goal

pub twice-reply-requires : goal.twice-reply-requires
twice-reply-requires g c = not_done_bare c.args.reply (failure_not_done c.args.reply c.requires.failure)
