use Rattle.std.proofs.Common.{rules, ◌≡◌, ◌∙◌, ◌+◌, ◌-◌, ℕ, Bool, IsTrue, Err, true, length, get_or, min, ap, sym, subst, refl, arith}
use Rattle.std.proofs.lemmas.Result.{err_from_is_err_and}
use Rattle.page_bytes.specs.Ranges.{first_block, meets, read_range}
use Rattle.htree_file.specs.Pages.{page_in}
use Rattle.page_bytes.proofs.Content.{meets-blocks}
use Rattle.htree_file.proofs.Causes.{passed_none, passed_then, rests_none, rests_then}
use Rattle.block_file.specs.Parts.{IsGiven, PartAnswer}
use Rattle.block_file.proofs.Reading.{all_calls, all_read, byte_stands, no_calls, one_call, part_blocks, part_kept, range_count, range_meets, read_content, read_none, read_rest, rests_keep, read_step, rest_step}
use Rattle.block_file.proofs.file.BlockFile.read.Goals as goal

pub returns-in_err-read_part-clause-blocks : goal.returns-in_err-read_part-clause-blocks
returns-in_err-read_part-clause-blocks g c =
    let a = g.F.StoreFile.state c.args.self.now.file in
    let b = g.F.StoreFile.state c.loop-k.self.file in
    let new = g.F.StoreFile.state c.read_part.new.self.file in
    let r = c.of_read-range.result in
    let k : ℕ = c.loop-k.k in
    let tree = c.args.self.now in
    let at : ℕ = c.args.at in
    let count : ℕ = min (length c.args.into.now) (tree.tree.head.length - at) in
    let is = c.of_read-range.ensures ∙ ap (λ (n : ℕ). read_range n at (length c.args.into.now)) c.length.ensures.length in
    let same : (j : ℕ) → meets at (at + count) j ≡ meets r.first r.last j = λ j. range_meets r tree.tree.head.length at (length c.args.into.now) j is in
    let met : meets r.first r.last k ≡ true = meets-blocks r k (omega (arith, c.first_block-k.ensures, c.loop-k.auto.k)) (omega (arith, c.end_block-k-end.ensures.value, c.loop-k-test.true)) in
    let before = c.loop-k.invariant in
    let answer : PartAnswer tree.key tree.tree b new r k c.loop-k.into c.read_part.new.into {A = Unit {0}} (Err c.in_err-read_part.field-0.0) =
    subst (λ t. PartAnswer t.key t.tree b new r k c.loop-k.into c.read_part.new.into {A = Unit {0}} (Err c.in_err-read_part.field-0.0)) before.same c.in_err-read_part.ensures.answer in
    let p = err_from_is_err_and c.from_residual.result c.from_residual.ensures.1 in
    rw (p.1, p.2) (part_blocks tree.key tree.tree a b new (meets at (at + count)) r k c.loop-k.into c.read_part.new.into (Unit {0}) ℕ c.in_err-read_part.field-0.0
    (rests_keep tree.tree.layout tree.tree.nodes b new (g.met.F.StoreFile.sound c.loop-k.self.file) c.in_err-read_part.ensures.rests) (same k ∙ met) (λ j lt is. (before.read.pages j, before.read.read j lt (sym (same j) ∙ is))) answer)

pub returns-in_err-read_part-clause-rest : goal.returns-in_err-read_part-clause-rest
returns-in_err-read_part-clause-rest g c =
    let b = g.F.StoreFile.state c.loop-k.self.file in
    let new = g.F.StoreFile.state c.read_part.new.self.file in
    let at : ℕ = c.args.at in
    let r = c.of_read-range.result in
    let kept = part_kept c.loop-k.self.key c.loop-k.self.tree b new r c.loop-k.k c.loop-k.into c.read_part.new.into (Unit {0}) c.in_err-read_part.field-0.0 c.in_err-read_part.ensures.answer in
    let is = c.of_read-range.ensures ∙ ap (λ (n : ℕ). read_range n c.args.at (length c.args.into.now)) c.length.ensures.length in
    let counted = range_count r c.args.self.now.tree.head.length c.args.at (length c.args.into.now) is in
    rw (← counted) (read_rest (r.last - r.first) c.read_part.new.into c.args.into.now (c.read_part.auto.into ∙ c.loop-k.auto.into) (λ i behind. kept i behind ∙ c.loop-k.invariant.rest i behind))

pub loop-k-preserved : goal.loop-k-preserved
loop-k-preserved g c =
    let a = g.F.StoreFile.state c.args.self.now.file in
    let b = g.F.StoreFile.state c.loop-k.self.file in
    let new = g.F.StoreFile.state c.read_part.new.self.file in
    let r = c.of_read-range.result in
    let k : ℕ = c.loop-k.k in
    let tree = c.args.self.now in
    let before = c.loop-k.invariant in
    let step = c.in_ok-read_part.ensures in
    let given : IsGiven tree.key tree.tree b new r k c.loop-k.into c.read_part.new.into = subst (λ t. IsGiven t.key t.tree b new r k c.loop-k.into c.read_part.new.into) before.same step.answer in
    record {
      same = search rules;
      rests = rests_then a b new before.rests step.rests;
      passed = passed_then a b new before.passed step.cause;
      read = read_step tree.key tree.tree a b new r k c.loop-k.into c.read_part.new.into before.rests (rests_keep tree.tree.layout tree.tree.nodes b new (g.met.F.StoreFile.sound c.loop-k.self.file) step.rests) before.read given;
      counted = λ tells. one_call a.arms b.arms new.arms k (first_block r) (omega (arith, c.first_block-k.ensures, c.loop-k.auto.k)) (before.counted tells)
          (step.once (subst (λ (t : Bool). IsTrue t) (sym before.rests.goes_on.tells_arms) tells));
      rest = λ i behind. given.given i ∙ rest_step r k given.page (get_or c.loop-k.into i 0) i behind ∙ before.rest i behind;
    }

pub loop-k-init : goal.loop-k-init
loop-k-init g c =
    let t = c.args.self.now in
    let a = g.F.StoreFile.state t.file in
    record {
      same = refl;
      rests = rests_none a;
      passed = passed_none a;
      read = read_none t.key t.tree a c.of_read-range.result c.first_block-k.result c.args.into.now c.first_block-k.ensures;
      counted = λ tells. no_calls a.arms c.first_block-k.result (first_block c.of_read-range.result) c.first_block-k.ensures;
      rest = λ i behind. refl;
    }

pub returns-clause-bytes : goal.returns-clause-bytes
returns-clause-bytes g c =
    let tree = c.args.self.now in
    let is = c.of_read-range.ensures ∙ ap (λ (n : ℕ). read_range n c.args.at (length c.args.into.now)) c.length.ensures.length in
    all_read tree.key tree.tree (g.F.StoreFile.state tree.file) (g.F.StoreFile.state c.loop-k.self.file) c.of_read-range.result tree.tree.head.length c.args.at (length c.args.into.now)
    c.loop-k.k c.loop-k.into is (omega (arith, c.end_block-k-end.ensures.value, c.loop-k-test.false)) c.loop-k.invariant.read

pub returns-clause-once : goal.returns-clause-once
returns-clause-once g c tells =
    let tree = c.args.self.now in
    let is = c.of_read-range.ensures ∙ ap (λ (n : ℕ). read_range n c.args.at (length c.args.into.now)) c.length.ensures.length in
    all_calls (g.F.StoreFile.state tree.file).arms (g.F.StoreFile.state c.loop-k.self.file).arms c.of_read-range.result (read_range tree.tree.head.length c.args.at (length c.args.into.now))
    c.loop-k.k is (omega (arith, c.end_block-k-end.ensures.value, c.loop-k-test.false))
    (λ forward. omega (arith, forward, c.first_block-k.ensures, c.end_block-k-end.ensures.value, c.loop-k.auto.k-end)) (c.loop-k.invariant.counted tells)

pub returns-clause-content : goal.returns-clause-content
returns-clause-content g c told =
    let a = g.F.StoreFile.state c.args.self.now.file in
    let b = g.F.StoreFile.state c.loop-k.self.file in
    let tree = c.args.self.now in
    let r = c.of_read-range.result in
    let is = c.of_read-range.ensures ∙ ap (λ (n : ℕ). read_range n c.args.at (length c.args.into.now)) c.length.ensures.length in
    let counted = range_count r tree.tree.head.length c.args.at (length c.args.into.now) is in
    read_content (page_in a.reads tree.key tree.tree) c.args.at (r.last - r.first) c.loop-k.into c.args.into.now c.loop-k.auto.into (omega (arith, counted))
    (λ i lt. byte_stands tree.key tree.tree a b c.args.at c.loop-k.into (r.last - r.first) told (returns-clause-bytes g c) i lt) c.loop-k.invariant.rest

pub returns-clause-rest : goal.returns-clause-rest
returns-clause-rest g c =
    let r = c.of_read-range.result in
    let is = c.of_read-range.ensures ∙ ap (λ (n : ℕ). read_range n c.args.at (length c.args.into.now)) c.length.ensures.length in
    let counted = range_count r c.args.self.now.tree.head.length c.args.at (length c.args.into.now) is in
    rw (← counted) (read_rest (r.last - r.first) c.loop-k.into c.args.into.now c.loop-k.auto.into c.loop-k.invariant.rest)

pub returns-in_err-read_part-clause-rests : goal.returns-in_err-read_part-clause-rests
returns-in_err-read_part-clause-rests g c = rests_then _ _ _ c.loop-k.invariant.rests c.in_err-read_part.ensures.rests
