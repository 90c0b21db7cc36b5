-- What an Open answers.
use Rattle.std.specs.Prelude.{Option, Some, None}
use Rattle.tee_types.specs.declared.reply.Reply.{Reply}
use Rattle.tee_types.specs.declared.reply.Reply.TheVariants.{Handle}
use Rattle.store_model.specs.Machine.{Session}

-- why the object could not be loaded, or the number of the session's next handle
abbrev pub open_reply : Option Reply → Session → Reply
open_reply (Some reply) s = reply
open_reply None s = Handle s.next_handle
