use Rattle.std.proofs.Common.{◌≡◌, length, subst, sym, ◌∙◌, rules}
use Rattle.disk_model.specs.Bytes.{AreBytes, after_mask}
use Rattle.mem_files.proofs.ByteLists.{masked-bytes}
use Rattle.mem_files.proofs.Masks.{masked_agree}
use Rattle.mem_files.proofs.Settling.{take_front}
use Rattle.mem_files.proofs.content.Content.strike.Goals as goal

pub invariant_of-self : goal.invariant_of-self
invariant_of-self c =
    let s = c.args.self.now in
    let now = c.lay_over.new.bytes in
    let count : s.bytes.len ≡ length now = search rules in
    let is : now ≡ after_mask s.bytes.items c.args.taint.now.at c.deref-then-has_bits-2.result.now = search rules in
    record {
      are_bytes = subst AreBytes (sym (take_front s.bytes.len now _ count ∙ is)) (masked-bytes s.bytes.items _ _ s.are_bytes (subst AreBytes (sym c.deref-then-has_bits-2.ensures.value) c.args.taint.now.are_bytes));
      agree = masked_agree s.settled c.lay_over_settled.new.settled s.bytes.items _ s.trail.items s.pending_from c.args.taint.now.at
          c.deref-then-has_bits.result.now c.deref-then-has_bits-2.result.now c.lay_over_settled.ensures
          (c.deref-then-has_bits.ensures.value ∙ sym c.deref-then-has_bits-2.ensures.value)
          (take_front s.bytes.len now _ count ∙ is) s.agree;
    }
