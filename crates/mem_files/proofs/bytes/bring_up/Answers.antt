use Rattle.std.proofs.Common.{◌≡◌, length, ◌∙◌, rules}
use Rattle.disk_model.specs.State.{spans_of}
use Rattle.mem_files.proofs.Settling.{settled_now, take_front}
use Rattle.mem_files.proofs.bytes.bring_up.Goals as goal

pub returns-clause-ok : goal.returns-clause-ok
returns-clause-ok c =
    let long = c.deref_mut.result.now in
    let now = c.copy_changes.new.settled in
    let same : length now ≡ length long = search rules in
    let count : c.resize.new.bytes.len ≡ length now = search rules in
    take_front c.resize.new.bytes.len now _ count
    ∙ settled_now (spans_of c.args.changes.now) c.args.settled.now.items c.args.bytes.now long now c.requires
    (c.deref_mut.ensures.value ∙ c.in_ok-resize.ensures.ok) same c.copy_changes.ensures.inside c.copy_changes.ensures.outside
