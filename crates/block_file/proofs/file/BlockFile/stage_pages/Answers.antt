use Rattle.block_file.proofs.file.BlockFile.stage_pages.Goals as goal

pub returns-clause-staged : goal.returns-clause-staged
returns-clause-staged g c = rw (← c.self.view_is) (record {
  opens = c.stage.ensures.open;
  none = c.stage.ensures.none;
  next = c.stage.ensures.next;
  format = c.stage.ensures.format;
  same = c.stage.ensures.same;
  firm = c.stage.ensures.firm;
  keeps = c.stage.ensures.keeps;
  unsettled = c.stage.ensures.unsettled;
  loaded = c.stage.ensures.loaded;
  verified = c.stage.ensures.verified;
  spares = c.stage.ensures.spares;
})

pub returns-clause-opened : goal.returns-clause-opened
returns-clause-opened g c = rw (← c.self.view_is) c.stage.ensures.opened
