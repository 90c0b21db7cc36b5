use Rattle.std.proofs.Common.{◌≡◌, ◌<◌, ◌≤◌, ◌∙◌, None, refl, sym, subst, length, arith}
use Rattle.std.specs.Option.{option_map}
use Rattle.std.proofs.lemmas.List.{get_or_default}
use Rattle.shared_store.specs.GuardedGates.{GuardedGateValue}
use Rattle.history_seats.specs.Rule.{PassFits}
use Rattle.quota_store.specs.Halves.{half_shown}
use Rattle.quota_store.proofs.ShownHalves.{all_fit, all_shown, none_shown, one_shown}
use Rattle.quota_store.proofs.app_halves.show_halves.Goals as goal

pub loop-half-init : goal.loop-half-init
loop-half-init g c = record { same = refl; shown = none_shown c.args.gate.now.journal.knows c.args.kept.now }

pub show_half-requires : goal.show_half-requires
show_half-requires g c =
    let l = c.loop-half in
    let within : l.half-index < length l.kept = omega (arith, c.loop-half-test.true, l.invariant.shown.many, l.auto.kept) in
    λ half is. (c.requires l.half-index half (sym (l.invariant.shown.stays l.half-index (omega arith)) ∙ sym (get_or_default l.kept l.half-index c.half-item.result None within) ∙ is)).table

pub loop-half-preserved : goal.loop-half-preserved
loop-half-preserved g c =
    let l = c.loop-half in
    let one = c.show_half.ensures in
    let gate : l.gate ≡ c.args.gate.now = l.invariant.same in
    record {
      same = one.same ∙ gate;
      shown = one_shown c.args.gate.now.journal.knows c.args.kept.now l.half-index l.kept c.half-item.result c.show_half.new.half l.invariant.shown
          (omega (arith, c.loop-half-test.true, l.invariant.shown.many, l.auto.kept)) c.half-item.is
          (one.shown ∙ (λ i. option_map (half_shown (gate i).journal.knows) (sym c.half-item.is i)))
          (λ half is. subst (λ (x : GuardedGateValue g.row.F.Denot g.row.R.Denot). PassFits x.journal.knows half.knows) gate (one.fits half (sym c.half-item.is ∙ is)));
    }

pub returns : goal.returns
returns g c =
    let l = c.loop-half in
    let whole : length l.kept ≤ l.half-index = omega (arith, c.loop-half-test.false, l.invariant.shown.many, l.auto.kept) in
    record {
      same = l.invariant.same;
      shown = all_shown c.args.gate.now.journal.knows c.args.kept.now l.half-index l.kept l.invariant.shown whole;
      fits = all_fit c.args.gate.now.journal.knows c.args.kept.now l.half-index l.kept l.invariant.shown whole;
    }
