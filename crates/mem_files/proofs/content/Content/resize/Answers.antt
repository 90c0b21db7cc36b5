use Rattle.std.proofs.Common.{◌≡◌, ◌++◌, ◌∷◌, [], length, true, min, subst, sym, max, rules}
use Rattle.disk_model.specs.Bytes.{AreBytes, after_resize}
use Rattle.mem_files.specs.Held.{change_of}
use Rattle.mem_files.proofs.ByteLists.{resized-bytes}
use Rattle.mem_files.proofs.Agreement.{agree_resized}
use Rattle.mem_files.proofs.content.Content.resize.Goals as goal

pub invariant_of-self-2 : goal.invariant_of-self-2
invariant_of-self-2 c =
    let s = c.keep_settled.new.self in
    let is : c.resize.new.bytes.items ≡ after_resize s.bytes.items c.args.size = search rules in
    let push : c.push_reserved.new.self.items ≡ s.trail.items ++ change_of s.pending_from (min c.args.size (length s.bytes.items)) (max c.args.size (length s.bytes.items)) ∷ [] = search rules in
    record { are_bytes = subst AreBytes (sym is) (resized-bytes s.bytes.items c.args.size s.are_bytes); agree = agree_resized s.settled s.bytes.items c.resize.new.bytes.items s.trail.items c.push_reserved.new.self.items s.pending_from true c.args.size c.in_ok-keep_settled.ensures.apart s.agree is push }
