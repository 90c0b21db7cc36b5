use Rattle.std.proofs.Common.{◌≡◌, ◌∙◌, ◌+◌, ◌<◌, ℕ, suc, Option, None, IfSome, List, Bool, length, get_or, sym, ap, subst, arith}
use Rattle.std.specs.Option.{option_map}
use Rattle.std.proofs.lemmas.List.{get_or_default}
use Rattle.tee_types.specs.Limits.{last_file}
use Rattle.dir_records.specs.declared.entry.DirEntry.{DirEntry}
use Rattle.store_commit.specs.Marks.{AreMarked, file_named}
use Rattle.store_commit.proofs.Marking.{marked_next, named_below}
use Rattle.store_commit.proofs.marks.mark_named.Goals as goal

pub loop-index-preserved : goal.loop-index-preserved
loop-index-preserved c =
    let entries = c.args.entries.now in
    let uses = file_named entries in
    let n : ℕ = c.loop-index.index in
    let low : n < length entries = omega (arith, c.requires.whole, c.loop-index-test.true) in
    let long : length c.loop-index.marks ≡ suc last_file = c.loop-index.invariant.long ∙ c.told-marks in
    let entry : get_or entries n None ≡ c.index-entries-index.result = get_or_default entries n None c.index-entries-index.result low ∙ sym c.index-entries-index.is in
    let o = c.file_of.result in
    let at : uses n ≡ o = ap (option_map (λ (e : DirEntry). e.file)) entry ∙ sym c.file_of.ensures in
    subst (λ (m : List Bool). AreMarked uses (n + 1) c.args.marks.now m) (sym c.mark.ensures)
    (marked_next uses n c.args.marks.now c.loop-index.marks c.loop-index.invariant o at
    (subst (λ (x : Option ℕ). IfSome x (λ file. file < length c.loop-index.marks)) at
    (named_below (get_or entries n None) (length c.loop-index.marks) long (c.requires.forms n low))))
