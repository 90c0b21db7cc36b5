use Rattle.std.proofs.Common.{◌+◌, ◌≤◌, List, length, ℕ, sym, ◌∙◌, ap, subst}
use Rattle.disk_model.proofs.Laws.{change_keeps}
use Rattle.disk_model.proofs.Seen.{written_masked}
use Rattle.node_image.specs.Selection.{bytes_at}
use Rattle.htree_file.proofs.Transfers.{written_fits, written_stands}
use Rattle.htree_file.proofs.device.put.Goals as goal

pub returns-in_err-write_at-clause-writes : goal.returns-in_err-write_at-clause-writes
returns-in_err-write_at-clause-writes g c = record {
  keeps = change_keeps c.args.at (c.args.at + length c.args.bytes.now) _ _ (g.met.F.StoreFile.sound c.args.file.now) (record {
    changes = c.write_at.ensures.changes;
    others = c.write_at.ensures.others;
    masked = λ tells. written_masked c.args.at (c.args.at + length c.args.bytes.now) (g.F.StoreFile.state c.args.file.now) (g.F.StoreFile.state c.write_at.new.self) (c.write_at.ensures.others_struck tells);
  });
  written = c.write_at.ensures.at_most;
  pending_from = c.write_at.ensures.changes.pending_from;
}

pub returns-clause-writes : goal.returns-clause-writes
returns-clause-writes g c = record {
  keeps = change_keeps c.args.at (c.args.at + length c.args.bytes.now) _ _ (g.met.F.StoreFile.sound c.args.file.now) (record {
    changes = c.write_at.ensures.changes;
    others = c.write_at.ensures.others;
    masked = λ tells. written_masked c.args.at (c.args.at + length c.args.bytes.now) (g.F.StoreFile.state c.args.file.now) (g.F.StoreFile.state c.write_at.new.self) (c.write_at.ensures.others_struck tells);
  });
  written = c.write_at.ensures.at_most;
  pending_from = c.write_at.ensures.changes.pending_from;
}

pub returns-clause-fits : goal.returns-clause-fits
returns-clause-fits g c = λ known.
    subst (λ (l : List ℕ). c.args.at + length c.args.bytes.now ≤ length l) (sym (c.in_ok-write_at.ensures.written known)) (written_fits (g.F.StoreFile.state c.args.file.now).reads c.args.bytes.now c.args.at)

pub returns-clause-stands : goal.returns-clause-stands
returns-clause-stands g c = λ known.
    ap (λ (l : List ℕ). bytes_at l c.args.at (length c.args.bytes.now)) (c.in_ok-write_at.ensures.written known)
    ∙ written_stands (g.F.StoreFile.state c.args.file.now).reads c.args.bytes.now c.args.at
