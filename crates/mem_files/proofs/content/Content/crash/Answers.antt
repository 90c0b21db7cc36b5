use Rattle.std.proofs.Common.{refl}
use Rattle.mem_files.specs.Held.{settled_bytes}
use Rattle.mem_files.proofs.Agreement.{agree_anew}
use Rattle.mem_files.proofs.Settling.{differ_pending}
use Rattle.mem_files.proofs.content.Content.crash.Goals as goal

pub leave_image-requires : goal.leave_image-requires
leave_image-requires c =
    let s = c.args.self.now in
    differ_pending s.settled s.bytes.items s.bytes.items s.trail.items c.deref.result.now s.pending_from refl c.deref.ensures.value s.agree

pub invariant_of-self-2 : goal.invariant_of-self-2
invariant_of-self-2 c =
    let bytes = c.leave_image.new.bytes.items in
    record {
      are_bytes = c.leave_image.ensures.are_bytes;
      agree = agree_anew (settled_bytes c.leave_image.new.settled bytes) bytes c.clear.new.self.items c.in_ok-leave_image.ensures.same c.clear.ensures.items;
    }
