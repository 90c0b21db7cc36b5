use Rattle.dir_file.proofs.ChangedEntry.{none_fits}
use Rattle.dir_file.proofs.file.DirFile.stage_clear.Goals as goal

pub stage_entry-requires-clause-fits : goal.stage_entry-requires-clause-fits
stage_entry-requires-clause-fits g c = none_fits _ c.args.index c.requires.below
