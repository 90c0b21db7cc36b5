use Rattle.std.proofs.Common.{ℕ, List, refl, subst, sym}
use Rattle.card_maps.specs.Loading.{IsAdded, IsRefused}
use Rattle.rpmb_files.proofs.mount.read_entry.Goals as goal

pub returns-in-Ok-add-clause-read : goal.returns-in-Ok-add-clause-read
returns-in-Ok-add-clause-read g c card has =
    subst (λ (block : List ℕ). IsAdded block c.args.b c.args.table.now c.add.new.self) (sym (c.in-Ok.ensures.told card has))
    (record { bytes = c.in-Ok-add.ensures.bytes; fits = c.in-Ok-add.ensures.fits; entries = c.in-Ok-add.ensures.entries; used = c.in-Ok-add.ensures.used })

pub returns-in-Err-add-clause-fault : goal.returns-in-Err-add-clause-fault
returns-in-Err-add-clause-fault g c = (
  refl,
  λ card has. subst (λ (block : List ℕ). IsRefused block c.args.table.now c.in-Err-add.offset) (sym (c.in-Ok.ensures.told card has))
      (record { bytes = c.in-Err-add.ensures.bytes; fault = c.in-Err-add.ensures.fault }),
)
