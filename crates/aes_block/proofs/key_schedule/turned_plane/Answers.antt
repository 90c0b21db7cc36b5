use Rattle.std.proofs.Common.{refl, ap, ◌∙◌, get_or, arith}
use Rattle.aes_block.specs.Planes.{turned_places}
use Rattle.std.proofs.lemmas.Simd.{pick_l_left}
use Rattle.std.proofs.lemmas.List.{get_or-map}
use Rattle.aes_block.proofs.key_schedule.turned_plane.Goals as goal

pub returns-clause-long : goal.returns-clause-long
returns-clause-long c = refl

pub returns-clause-value : goal.returns-clause-value
returns-clause-value c = λ j lane.
    let v = c.args.v in
    ap (λ l. get_or l j 0) (pick_l_left 0 v v 16 turned_places c.requires tt)
    ∙ get_or-map (λ k. get_or v k 0) turned_places j 0 0 (omega arith)
