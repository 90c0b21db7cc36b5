use Rattle.std.proofs.Common.{◌≡◌, None, IsTrue}
use Rattle.disk_model.specs.Calls.{Known, Rests}
use Rattle.rpmb_card.specs.Card.{IsCard}
use Rattle.host_card.specs.Versions.{IsRestored}
use Rattle.host_card.proofs.reading.restore_blocks.Given as goal

abbrev pub invariant-loop-address : goal.invariant-loop-address
invariant-loop-address g l = record {
  sound : IsCard l.card;
  counted : (g.F.StoreFile.state l.file).faults ≡ (g.F.StoreFile.state l.initial.file).faults;
  rests : Rests (g.F.StoreFile.state l.initial.file) (g.F.StoreFile.state l.file);
  register : l.card.register ≡ None;
  restored : IsTrue (g.F.StoreFile.state l.initial.file).tells → Known (g.F.StoreFile.state l.initial.file) (g.F.StoreFile.state l.file)
      → IsRestored l.key (g.F.StoreFile.state l.initial.file).reads l.address l.card;
}
