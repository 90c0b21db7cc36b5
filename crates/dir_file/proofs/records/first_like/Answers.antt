use Rattle.std.proofs.Common.{◌≡◌, ◌∙◌, ◌+◌, ◌-◌, Option, Some, None, cond, get_or, Bool, sym, ap, arith}
use Rattle.dir_records.specs.declared.entry.DirEntry.{DirEntry}
use Rattle.crash_core.specs.Entries.{first_like, is_double}
use Rattle.dir_file.proofs.Parsing.{like_end, like_step, read_at}
use Rattle.dir_file.proofs.records.first_like.Goals as goal

pub returns-then-is_double : goal.returns-then-is_double
returns-then-is_double c =
    let rest = first_like c.args.entries.now c.args.entry.now (c.loop-j.j + 1) (c.args.count - (c.loop-j.j + 1)) in
    let at : c.index-entries-j.result ≡ get_or c.args.entries.now c.loop-j.j None = read_at c.args.entries.now c.loop-j.j c.index-entries-j.result None (omega (arith, c.loop-j-test.true, c.requires)) c.index-entries-j.is in
    sym (c.loop-j.invariant ∙ like_step c.args.entries.now c.args.entry.now c.loop-j.j c.args.count c.loop-j-test.true
    ∙ ap (λ (e : Option DirEntry). cond (is_double e c.args.entry.now) (Some c.loop-j.j) rest) (sym at)
    ∙ ap (λ (b : Bool). cond b (Some c.loop-j.j) rest) (sym c.if-is_double.ensures))

pub loop-j-preserved : goal.loop-j-preserved
loop-j-preserved c =
    let rest = first_like c.args.entries.now c.args.entry.now (c.loop-j.j + 1) (c.args.count - (c.loop-j.j + 1)) in
    let at : c.index-entries-j.result ≡ get_or c.args.entries.now c.loop-j.j None = read_at c.args.entries.now c.loop-j.j c.index-entries-j.result None (omega (arith, c.loop-j-test.true, c.requires)) c.index-entries-j.is in
    c.loop-j.invariant ∙ like_step c.args.entries.now c.args.entry.now c.loop-j.j c.args.count c.loop-j-test.true
    ∙ ap (λ (e : Option DirEntry). cond (is_double e c.args.entry.now) (Some c.loop-j.j) rest) (sym at)
    ∙ ap (λ (b : Bool). cond b (Some c.loop-j.j) rest) (sym c.if-is_double.ensures)

pub returns : goal.returns
returns c = sym (c.loop-j.invariant ∙ like_end c.args.entries.now c.args.entry.now c.loop-j.j c.args.count c.loop-j-test.false)
