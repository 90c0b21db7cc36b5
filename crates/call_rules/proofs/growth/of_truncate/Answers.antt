use Rattle.std.proofs.Common.{◌∙◌, ℕ, List, sym, ap}
use Rattle.app_totals.specs.EntryTotals.{entry_totals}
use Rattle.app_totals.specs.Meant.{sound_state}
use Rattle.tee_types.specs.declared.call.Call.TheVariants.{Truncate}
use Rattle.call_rules.specs.Growth.{allowed_totals}
use Rattle.call_rules.proofs.Growths.{told-none, truncate-grown}
use Rattle.call_rules.proofs.SoundMatches.{sound_matches}
use Rattle.call_rules.proofs.growth.of_truncate.Goals as goal

pub returns-in-Answered : goal.returns-in-Answered
returns-in-Answered g c = λ s i m own.
    sym (told-none s i (Truncate c.args.number c.args.size) c.in-Answered._refused c.args.session.now (c.in-Answered.ensures.told (sound_state s) i c.args.size (sound_matches _ _ c.args.session.now s i m)))

pub returns-in-Needs : goal.returns-in-Needs
returns-in-Needs g c = λ s i m own.
    c.resized.ensures
    ∙ (λ k. allowed_totals ((c.totals.ensures.told ∙ ap (λ (a : List ℕ). entry_totals a (g.C.Catalog.entries c.args.catalog.now)) c.app.ensures) k) c.in-Needs.found.held.entry.size (c.from.ensures k))
    ∙ sym (truncate-grown _ _ c.args.session.now c.totals.ensures.entries.distinct s i m own c.args.number c.args.size c.in-Needs.found.handle c.in-Needs.ensures.found.opened.live c.in-Needs.found.held.entry.size
    (c.in-Needs.ensures.resizes (sound_state s) i c.args.size (sound_matches _ _ c.args.session.now s i m)))
