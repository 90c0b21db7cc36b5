use Rattle.std.proofs.Common.{◌∙◌, None, sym, ap}
use Rattle.std.specs.Prelude.{slice_set}
use Rattle.quota_store.specs.Halves.{kept_at}
use Rattle.quota_store.proofs.KeptHalves.{Places, taken_none}
use Rattle.quota_store.proofs.joining.await_half.Goals as goal

pub loop-preserved : goal.loop-preserved
loop-preserved g c =
    let l = c.loop in
    c.take_half.ensures.left ∙ taken_none l.places.items c.args.session (sym c.take_half.ensures.half ∙ c.in_default.is) ∙ l.invariant

pub returns-in-Some-take_half : goal.returns-in-Some-take_half
returns-in-Some-take_half g c =
    let l = c.loop in
    record {
      half = ap (λ (kept : Places). kept_at kept c.args.session) (sym l.invariant) ∙ sym c.in-Some-take_half.ensures.half;
      left = c.in-Some-take_half.ensures.left ∙ ap (λ (kept : Places). slice_set kept c.args.session None) l.invariant;
    }
