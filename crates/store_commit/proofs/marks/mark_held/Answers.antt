use Rattle.std.proofs.Common.{◌≡◌, ◌∙◌, ◌+◌, ℕ, suc, List, Bool, length, sym, subst, arith}
use Rattle.tee_types.specs.Limits.{last_file}
use Rattle.store_commit.specs.Holds.{file_held}
use Rattle.store_commit.specs.Marks.{AreMarked}
use Rattle.store_commit.proofs.Marking.{below_some, marked_next}
use Rattle.store_commit.proofs.marks.mark_held.Goals as goal

pub loop-session-preserved : goal.loop-session-preserved
loop-session-preserved c =
    let uses = file_held c.args.holds.now in
    let n : ℕ = c.loop-session.session in
    let long : length c.loop-session.marks ≡ suc last_file = c.loop-session.invariant.long ∙ c.told-marks in
    let o = c.held_by.result in
    let at : uses n ≡ o = sym c.held_by.ensures in
    subst (λ (m : List Bool). AreMarked uses (n + 1) c.args.marks.now m) (sym c.mark.ensures)
    (marked_next uses n c.args.marks.now c.loop-session.marks c.loop-session.invariant o at
    (below_some o (length c.loop-session.marks) (λ file is. let b = c.requires.within n file (at ∙ is) in omega (arith, b, long))))
