use Rattle.std.proofs.Common.{◌∙◌, sym, arith}
use Rattle.std.proofs.lemmas.Grind.{common_steps}
use Rattle.script_text.proofs.Printing.{encode_lower-more, encode_lower-all}
use Rattle.script_text.proofs.append_text.put_hex.Goals as goal

pub loop-byte-preserved : goal.loop-byte-preserved
loop-byte-preserved c = record {
  same = encode_lower-more c.args.bytes.now c.loop-byte.byte-index c.loop-byte.out.items c.put.new.out.items c.loop-byte-test.true c.in_ok-put.ensures.ok ∙ c.loop-byte.invariant.same;
  kept = grind (arith, common_steps);
}

pub returns-clause-ok : goal.returns-clause-ok
returns-clause-ok c = sym (encode_lower-all c.args.bytes.now c.loop-byte.byte-index c.loop-byte.out.items c.loop-byte-test.false) ∙ c.loop-byte.invariant.same
