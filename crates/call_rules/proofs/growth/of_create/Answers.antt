use Rattle.std.proofs.Common.{◌∙◌, List, ℕ, sym, ap, arith}
use Rattle.app_totals.specs.EntryTotals.{entry_totals}
use Rattle.call_rules.specs.Growth.{placed_totals}
use Rattle.call_rules.proofs.Creating.{rows_of, named_for}
use Rattle.call_rules.proofs.CreateGrowths.{early-none, large-none, placed-grown}
use Rattle.call_rules.proofs.growth.of_create.Goals as goal

pub returns-in-Some : goal.returns-in-Some
returns-in-Some g c = λ s i m.
    sym (early-none _ _ c.args.session.now c.look-found.ensures.entries c.args.id c.look-found.result (named_for _ c.args.session.now _ _ _ c.app-app.ensures c.look-found.ensures.named)
    c.args.flags c.args.attributes.now c.args.bytes.now s i m c.in-Some._refused
    (rows_of _ _ _ _ _ _ _ _ _ c.create_refusal.ensures.rows c.len.ensures c.is_some-held.ensures c.is_busy-busy.ensures ∙ c.in-Some.is) c.in-Some.ensures.refused)

pub returns-then-len-gt-MAX_DATA : goal.returns-then-len-gt-MAX_DATA
returns-then-len-gt-MAX_DATA g c = λ s i m.
    sym (large-none _ _ c.args.session.now c.look-found.ensures.entries c.args.id c.look-found.result (named_for _ c.args.session.now _ _ _ c.app-app.ensures c.look-found.ensures.named)
    c.args.flags c.args.attributes.now c.args.bytes.now s i m
    (rows_of _ _ _ _ _ _ _ _ _ c.create_refusal.ensures.rows c.len.ensures c.is_some-held.ensures c.is_busy-busy.ensures ∙ c.in_default.is) (omega arith))

pub returns : goal.returns
returns g c = λ s i m.
    c.placed.ensures
    ∙ (λ k. placed_totals ((c.totals.ensures.told ∙ ap (λ (a : List ℕ). entry_totals a (g.C.Catalog.entries c.args.catalog.now)) c.app-app.ensures) k) c.look-found.result (c.len-3.ensures k))
    ∙ sym (placed-grown _ _ c.args.session.now c.look-found.ensures.entries c.args.id c.look-found.result (named_for _ c.args.session.now _ _ _ c.app-app.ensures c.look-found.ensures.named)
    c.args.flags c.args.attributes.now c.args.bytes.now s i m
    (rows_of _ _ _ _ _ _ _ _ _ c.create_refusal.ensures.rows c.len.ensures c.is_some-held.ensures c.is_busy-busy.ensures ∙ c.in_default.is) (omega arith))
