use Rattle.std.proofs.Common.{◌≡◌, ◌+◌, ◌++◌, ◌∷◌, [], length, true, min, subst, sym, rules}
use Rattle.std.proofs.Math.Facts.{Fits-lt-pow}
use Rattle.disk_model.specs.Bytes.{AreBytes, after_write}
use Rattle.mem_files.specs.Held.{change_of}
use Rattle.mem_files.proofs.ByteLists.{written-bytes}
use Rattle.mem_files.proofs.Agreement.{agree_written}
use Rattle.mem_files.proofs.content.Content.write.Goals as goal

pub invariant_of-self-2 : goal.invariant_of-self-2
invariant_of-self-2 c =
    let s = c.keep_settled.new.self in
    let is : c.write_over.new.bytes.items ≡ after_write s.bytes.items c.args.at c.args.from.now = search rules in
    let push : c.push_reserved.new.self.items ≡ s.trail.items ++ change_of s.pending_from (min c.args.at (length s.bytes.items)) (c.args.at + length c.args.from.now) ∷ [] = search rules in
    record { are_bytes = subst AreBytes (sym is) (written-bytes s.bytes.items c.args.at c.args.from.now s.are_bytes (λ k. Fits-lt-pow (c.type_inv.from k))); agree = agree_written s.settled s.bytes.items c.write_over.new.bytes.items s.trail.items c.push_reserved.new.self.items s.pending_from true c.args.at c.args.from.now c.in_ok-keep_settled.ensures.apart s.agree is push }
