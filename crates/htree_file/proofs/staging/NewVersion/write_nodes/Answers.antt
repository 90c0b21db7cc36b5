use Rattle.std.proofs.Common.{◌+◌, ◌*◌, ◌≤◌, cond, arith}
use Rattle.tree_paths.specs.Paths.{holds}
use Rattle.tree_paths.specs.Staged.{count_to}
use Rattle.tree_paths.proofs.StagedNodes.{count_fewer, count_next}
use Rattle.node_image.specs.Parts.{layout_of}
use Rattle.htree_file.specs.Staging.{OffNodes}
use Rattle.htree_file.proofs.Causes.{passed_then}
use Rattle.htree_file.proofs.SealSteps.{nodes_step}
use Rattle.htree_file.proofs.Writings.{writes_then, writes_within}
use Rattle.htree_file.proofs.staging.NewVersion.write_nodes.Goals as goal

pub returns-in_err-write_chosen-clause-writes : goal.returns-in_err-write_chosen-clause-writes
returns-in_err-write_chosen-clause-writes g c =
    let set = holds c.args.self.now.set.nodes in
    let k = c.loop-k.k in
    let few : k + 1 ≤ 256 = omega arith in
    let most = count_fewer set (k + 1) 256 few in
    let more = count_next set k in
    writes_then (OffNodes (layout_of c.args.self.now.format) c.args.table.now c.args.self.now.root set) _ _ _ (66 * count_to set k) (66 * cond (set (k + 1)) 1 0) (66 * count_to set 256) (omega (arith, most, more)) c.loop-k.invariant.writes c.write_chosen.ensures.writes

pub loop-k-preserved : goal.loop-k-preserved
loop-k-preserved g c =
    let entry = g.F.StoreFile.state c.args.file.now in
    let now = g.F.StoreFile.state c.loop-k.file in
    let new = g.F.StoreFile.state c.write_chosen.new.file in
    let table = c.args.table.now in
    let root = c.args.self.now.root in
    let set = holds c.args.self.now.set.nodes in
    let k = c.loop-k.k in
    let before = c.loop-k.invariant in
    let step = c.in_ok-write_chosen.ensures in
    let more = count_next set k in
    record {
      writes = writes_then (OffNodes (layout_of c.args.self.now.format) table root set) entry now new (66 * count_to set k) (66 * cond (set (k + 1)) 1 0) (66 * count_to set (k + 1)) (omega (arith, more)) before.writes c.write_chosen.ensures.writes;
      passed = passed_then entry now new before.passed step.cause;
      stand = nodes_step (layout_of c.args.self.now.format) table root (omega arith) (omega arith) set entry now new k (omega arith) before.writes.keeps.goes_on c.write_chosen.ensures.one.keeps before.stand step.stands;
    }

pub returns-clause-writes : goal.returns-clause-writes
returns-clause-writes g c =
    let set = holds c.args.self.now.set.nodes in
    let most = count_fewer set c.loop-k.k 256 (omega arith) in
    writes_within (OffNodes (layout_of c.args.self.now.format) c.args.table.now c.args.self.now.root set) (OffNodes (layout_of c.args.self.now.format) c.args.table.now c.args.self.now.root set) (66 * count_to set c.loop-k.k) (66 * count_to set 256) _ _ (omega (arith, most)) (λ p off. off) c.loop-k.invariant.writes
