use Rattle.std.proofs.Common.{◌≡◌, ◌+◌, ℕ, List, length, get_or, leb, cond, sym, ◌∙◌, ap, subst, arith}
use Rattle.disk_model.specs.Bytes.{after_write}
use Rattle.disk_model.proofs.Goings.{first_known, then_known}
use Rattle.node_image.specs.Tables.{block_bit}
use Rattle.node_image.specs.Selection.{bytes_at}
use Rattle.htree_file.specs.Copies.{IsCopyOf}
use Rattle.htree_file.specs.Standing.{Told}
use Rattle.htree_file.proofs.Causes.{passed_none, told_then}
use Rattle.htree_file.proofs.CopiedParts.{block_step}
use Rattle.htree_file.proofs.CopyRuns.{both_then, rest_run, run_then, told_first}
use Rattle.htree_file.proofs.copying.copy_blocks.Goals as goal

pub returns-in_err-end-clause-run : goal.returns-in_err-end-clause-run
returns-in_err-end-clause-run g c = rest_run _ _ _ c.len.ensures.rests

pub loop-k-init : goal.loop-k-init
loop-k-init g c =
    let a = g.F.StoreFile.state c.args.from.now in
    let b = g.F.StoreFile.state c.len.new.self in
    let x = g.F.StoreFile.state c.args.to.now in
    record {
      run = rest_run a b x c.len.ensures.rests;
      passed = record { from = record { faults = c.in_ok-end.ensures.cause.faults; starved = c.in_ok-end.ensures.cause.starved }; to = passed_none x };
      end = λ told. c.in_ok-end.ensures.told told.0 ∙ ap length (c.len.ensures.rests.reads told.1);
      copied = λ told known are whole. whole;
    }

pub loop-k-preserved : goal.loop-k-preserved
loop-k-preserved g c =
    let a = g.F.StoreFile.state c.args.from.now in
    let b = g.F.StoreFile.state c.loop-k.from in
    let d = g.F.StoreFile.state c.copy_block.new.from in
    let x = g.F.StoreFile.state c.args.to.now in
    let y = g.F.StoreFile.state c.loop-k.to in
    let z = g.F.StoreFile.state c.copy_block.new.to in
    let root = c.args.root in
    let format : ℕ = c.args.format in
    let flags : List ℕ = c.args.flags.now in
    let k : ℕ = c.loop-k.k in
    let v : ℕ = block_bit (get_or flags k 0) in
    let at : ℕ = c.block_offset-at.result in
    let there : ℕ = c.block_offset-there.result in
    let end : ℕ = c.in_ok-end.end in
    let before = c.loop-k.invariant in
    let run = c.copy_block.ensures.run in
    let step = c.in_ok-copy_block.ensures in
    let first : Told a d → Told a b = told_first a b d run.rests in
    let same : Told a d → b.reads ≡ a.reads = λ told. before.run.rests.reads (first told).1 in
    record {
      run = run_then a b d x y z before.run run;
      passed = both_then a b d x y z before.passed step.cause;
      end = λ told. before.end (first told);
      copied = λ told known are whole.
          let wrote : z.reads ≡ cond (leb (at + 4096) end) (after_write y.reads there (bytes_at b.reads at 4096)) y.reads =
          step.copied (told_then a b d before.run.rests.goes_on told) (then_known x y z before.run.keeps.goes_on known) in
          let copied : z.reads ≡ cond (leb (at + 4096) end) (after_write y.reads there (bytes_at a.reads at 4096)) y.reads =
          wrote ∙ ap (λ (l : List ℕ). cond (leb (at + 4096) end) (after_write y.reads there (bytes_at l at 4096)) y.reads) (same told) in
          subst (λ (l : List ℕ). IsCopyOf a.reads l root format (length flags) (k + 1)) (sym copied)
          (block_step a.reads y.reads root format c.requires.0 k v at there (length flags) end c.requires.1 (omega arith) (ap block_bit (are k (omega arith))) c.block_offset-at.ensures c.block_offset-there.ensures (before.end (first told))
          (before.copied (first told) (first_known x y z run.keeps.goes_on known) are whole));
    }

pub returns-in_err-copy_block-clause-run : goal.returns-in_err-copy_block-clause-run
returns-in_err-copy_block-clause-run g c = run_then _ _ _ _ _ _ c.loop-k.invariant.run c.copy_block.ensures.run

pub returns-clause-run : goal.returns-clause-run
returns-clause-run g c = c.loop-k.invariant.run

pub returns-clause-copied : goal.returns-clause-copied
returns-clause-copied g c = λ told known are whole.
    let all : c.loop-k.k ≡ length c.args.flags.now = omega arith in
    subst (λ (n : ℕ). IsCopyOf (g.F.StoreFile.state c.args.from.now).reads (g.F.StoreFile.state c.loop-k.to).reads c.args.root c.args.format (length c.args.flags.now) n) all
    (c.loop-k.invariant.copied told known are whole)
