use Rattle.disk_model.proofs.ImageLaws.{more_spans_leave_more}
use Rattle.disk_model.proofs.file_laws.more_spans_leave_more.Goals as goal

pub returns : goal.returns
returns c = more_spans_leave_more
