-- Which calls change no open handle.
use Rattle.tee_types.specs.declared.call.Call.{Call}
use Rattle.tee_types.specs.declared.call.Call.TheVariants.{Create, Open, Close, Delete}
use Rattle.tee_types.specs.declared.reply.Reply.{Reply}
use Rattle.tee_types.specs.declared.reply.Reply.TheVariants.{Done, Handle}

-- the call and its reply neither open a handle nor close one
abbrev pub LeavesHandles : Call → Reply → Type 0
LeavesHandles (Create id flags attributes bytes) (Handle handle) = ⊥
LeavesHandles (Open id flags) (Handle handle) = ⊥
LeavesHandles (Close handle) Done = ⊥
LeavesHandles (Delete handle) Done = ⊥
LeavesHandles call reply = Unit {0}
