use Rattle.std.proofs.Common.{◌+◌, Some}
use Rattle.disk_model.specs.Keeps.{Outside}
use Rattle.host_card.specs.Places.{begin}
use Rattle.host_card.proofs.Moments.{holds_card, holds_on, mended, nowhere, on_err, on_ok, outside_off}
use Rattle.host_card.proofs.kept_card.mend.Goals as goal

pub returns-clause-ran : goal.returns-clause-ran
returns-clause-ran g c = nowhere (Outside (begin c.args.torn) (begin c.args.torn + 1024)) _ _ c.put.ensures.keeps

pub returns-clause-kept : goal.returns-clause-kept
returns-clause-kept g c = on_ok c.put.result c.put.ensures.put (λ put card holds. mended c.args.key.now _ _ c.args.torn card _ c.put.ensures.keeps.goes_on put c.no_request.ensures holds)

pub returns-clause-torn : goal.returns-clause-torn
returns-clause-torn g c = on_err c.put.result (λ card holds.
    holds_on c.args.key.now _ _ card (Some c.args.torn) (g.met.F.StoreFile.sound c.args.file.now) (g.met.F.StoreFile.sound c.put.new.file) (outside_off c.args.torn _ _ c.put.ensures.keeps) holds)

pub returns-clause-held : goal.returns-clause-held
returns-clause-held g c = λ card holds.
    holds_card c.args.key.now _ _ card (Some c.args.torn) (g.met.F.StoreFile.sound c.args.file.now) (outside_off c.args.torn _ _ c.put.ensures.keeps) holds
