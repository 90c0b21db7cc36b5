use Rattle.std.proofs.Common.{refl, sym, ◌∙◌, ◌*◌}
use Rattle.mem_files.proofs.Spoilings.{sector_spoiled, sector_spared}
use Rattle.mem_files.proofs.crash.spoil_sector.Goals as goal

pub returns-then-toss : goal.returns-then-toss
returns-then-toss c =
    sector_spoiled c.args.key c.args.number (512 * c.args.number) c.min-upto.result c.args.image.now c.fill_noise.new.image
    (sym c.toss.ensures ∙ c.if-toss.true) refl c.min-upto.ensures c.fill_noise.ensures

pub returns-else-toss : goal.returns-else-toss
returns-else-toss c = sector_spared c.args.key c.args.number c.args.image.now (sym c.toss.ensures ∙ c.if-toss.false)
