use Rattle.std.proofs.Common.{◌≡◌, ◌+◌, ℕ, List, length, refl, sym, ◌∙◌, ap, subst, arith}
use Rattle.disk_model.specs.Bytes.{after_write}
use Rattle.disk_model.proofs.Goings.{first_known, then_known}
use Rattle.node_image.specs.declared.node.NodeImage.{NodeImage}
use Rattle.node_image.specs.Layout.{node_of}
use Rattle.node_image.specs.Parts.{layout_of}
use Rattle.node_image.specs.Selection.{bytes_at, node_in, version_in}
use Rattle.htree_file.specs.Copies.{IsCopyOf}
use Rattle.htree_file.specs.Standing.{Told}
use Rattle.htree_file.proofs.Causes.{told_then}
use Rattle.htree_file.proofs.CopiedParts.{flags_step, node_step, version_by}
use Rattle.htree_file.proofs.CopyRuns.{both_then, run_then, told_first}
use Rattle.htree_file.proofs.copying.copy_nodes.Goals as goal

pub loop-k-preserved : goal.loop-k-preserved
loop-k-preserved g c =
    let a = g.F.StoreFile.state c.args.from.now in
    let b = g.F.StoreFile.state c.loop-k.from in
    let d = g.F.StoreFile.state c.copy_bytes.new.from in
    let x = g.F.StoreFile.state c.args.to.now in
    let y = g.F.StoreFile.state c.loop-k.to in
    let z = g.F.StoreFile.state c.copy_bytes.new.to in
    let root = c.args.root in
    let format : ℕ = c.args.format in
    let k : ℕ = c.loop-k.k in
    let v : ℕ = c.version_by_flags-version.result in
    let at : ℕ = c.node_offset-at.result in
    let there : ℕ = c.node_offset-there.result in
    let before = c.loop-k.invariant in
    let run = c.copy_bytes.ensures.run in
    let step = c.in_ok-copy_bytes.ensures in
    let named : Told a d → v ≡ version_in a.reads root (k + 1) = λ told.
    c.version_by_flags-version.ensures.value ∙ version_by a.reads root c.loop-k.flags k (k + 1) (before.flags (told_first a b d run.rests told)) refl in
    let same : Told a d → b.reads ≡ a.reads = λ told. before.run.rests.reads (told_first a b d run.rests told).1 in
    let got : Told a d → c.copy_bytes.new.bytes ≡ bytes_at b.reads at 66 = λ told. step.read (told_then a b d before.run.rests.goes_on told) in
    let read : Told a d → c.copy_bytes.new.bytes ≡ bytes_at a.reads at 66 = λ told. got told ∙ ap (λ (l : List ℕ). bytes_at l at 66) (same told) in
    record {
      run = run_then a b d x y z before.run run;
      passed = both_then a b d x y z before.passed step.cause;
      flags = λ told.
          let made = ap (λ (n : NodeImage). n.flags) (c.from_bytes.ensures.node ∙ ap node_of (read told ∙ ap (λ (p : ℕ). bytes_at a.reads p 66) c.node_offset-at.ensures) ∙ ap (node_in (layout_of root.format) a.reads (k + 1)) (named told)) in
          flags_step a.reads root c.loop-k.flags k _ (omega arith) made (before.flags (told_first a b d run.rests told));
      copied = λ told known whole.
          let wrote : z.reads ≡ after_write y.reads there (bytes_at b.reads at 66) = step.copied (told_then a b d before.run.rests.goes_on told) (then_known x y z before.run.keeps.goes_on known) in
          let copied : z.reads ≡ after_write y.reads there (bytes_at a.reads at 66) = wrote ∙ ap (λ (l : List ℕ). after_write y.reads there (bytes_at l at 66)) (same told) in
          subst (λ (l : List ℕ). IsCopyOf a.reads l root format (k + 1) 0) (sym copied)
          (node_step a.reads y.reads root format c.requires.0 k v at there (omega arith) (named told) c.node_offset-at.ensures c.node_offset-there.ensures
          (before.copied (told_first a b d run.rests told) (first_known x y z run.keeps.goes_on known) whole));
    }

pub returns-in_err-copy_bytes-clause-run : goal.returns-in_err-copy_bytes-clause-run
returns-in_err-copy_bytes-clause-run g c = run_then _ _ _ _ _ _ c.loop-k.invariant.run c.copy_bytes.ensures.run

pub returns-clause-copied : goal.returns-clause-copied
returns-clause-copied g c = λ told known whole.
    let all : c.loop-k.k ≡ length c.args.flags.now = omega arith in
    subst (λ (n : ℕ). IsCopyOf (g.F.StoreFile.state c.args.from.now).reads (g.F.StoreFile.state c.loop-k.to).reads c.args.root c.args.format n 0) all (c.loop-k.invariant.copied told known whole)
