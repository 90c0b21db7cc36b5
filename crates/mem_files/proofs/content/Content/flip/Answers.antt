use Rattle.std.proofs.Common.{◌≡◌, ◌∙◌, length, subst, sym, rules}
use Rattle.std.proofs.Math.Facts.{Fits-lt-pow}
use Rattle.disk_model.specs.Bytes.{AreBytes, after_mask}
use Rattle.mem_files.proofs.ByteLists.{masked-bytes}
use Rattle.mem_files.proofs.Settling.{take_front}
use Rattle.mem_files.proofs.content.Content.flip.Goals as goal

pub invariant_of-self-clause-are_bytes : goal.invariant_of-self-clause-are_bytes
invariant_of-self-clause-are_bytes c =
    let s = c.args.self.now in
    let now = c.lay_over.new.bytes in
    let count : s.bytes.len ≡ length now = search rules in
    let is : now ≡ after_mask s.bytes.items c.args.at c.args.mask.now = search rules in
    subst AreBytes (sym (take_front s.bytes.len now _ count ∙ is)) (masked-bytes s.bytes.items c.args.at c.args.mask.now s.are_bytes (λ k. Fits-lt-pow (c.type_inv.mask k)))
