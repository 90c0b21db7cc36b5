use Rattle.std.proofs.Common.{◌≡◌, ◌∙◌, ◌-◌, ◌*◌, ◌<◌, ◌≤◌, ℕ, List, length, min, replicate, None, refl, sym, ap, arith}
use Rattle.object_file.specs.Value.{size_in}
use Rattle.object_calls.specs.ObjectReads.{failure_in}
use Rattle.object_calls.proofs.Blocks.{part_bad, part_good}
use Rattle.object_calls.proofs.object_data.read_part.Goals as goal

pub returns-in-Ok-clause-shows : goal.returns-in-Ok-clause-shows
returns-in-Ok-clause-shows g c =
    let o = c.args.object.now in
    let into : List ℕ = c.args.into.now in
    let after : List ℕ = c.read.new.into in
    let n : ℕ = c.in-Ok.field-0 in
    let same : length after ≡ length into = c.read.auto.into in
    let count : n ≡ min (length into) (size_in o - 4096 * c.args.k) = c.in-Ok.ensures.count in
    let few : n ≤ 4096 = omega (arith, count, c.requires.few) in
    let some : 0 < n = omega (arith, count, c.requires.some, c.requires.within) in
    let whole : n ≡ length after = omega (arith, count, same, c.requires.within) in
    part_good o.tree.key o.tree.tree (g.F.StoreFile.state o.tree.file) (g.F.StoreFile.state c.read.new.self.tree.file) c.args.k (4096 * c.args.k) n after refl some few whole c.in-Ok.ensures.bytes

pub returns-in-None-clause-shows : goal.returns-in-None-clause-shows
returns-in-None-clause-shows g c =
    let o = c.args.object.now in
    let into : List ℕ = c.args.into.now in
    let n : ℕ = min (length into) (size_in o - 4096 * c.args.k) in
    let few : n ≤ 4096 = omega (arith, c.requires.few) in
    let none : failure_in c.in-Err.fault ≡ None = sym c.failure_in.ensures ∙ c.in-None.is in
    let filled : c.fill.new.self ≡ replicate (length c.read.new.into) 0 = c.fill.ensures.after (λ y same. same) in
    let zero : c.fill.new.self ≡ replicate (length c.fill.new.self) 0 = filled ∙ ap (λ (m : ℕ). replicate m 0) (sym c.fill.ensures.len) in
    part_bad o.tree.key o.tree.tree (g.F.StoreFile.state o.tree.file) (g.F.StoreFile.state c.read.new.self.tree.file) c.args.k (4096 * c.args.k) n ℕ c.in-Err.fault c.fill.new.self refl few
    c.read.ensures.rests none c.in-Err.ensures.fault c.in-Err.ensures.blocks zero
