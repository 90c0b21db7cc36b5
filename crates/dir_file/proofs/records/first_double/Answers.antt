use Rattle.std.proofs.Common.{◌≡◌, ◌∙◌, ◌+◌, ◌-◌, Option, None, get_or, sym, ap, ℕ, arith}
use Rattle.dir_records.specs.declared.entry.DirEntry.{DirEntry}
use Rattle.crash_core.specs.Entries.{double_or, first_double, first_like}
use Rattle.dir_file.proofs.Parsing.{double_end, double_step, read_at}
use Rattle.dir_file.proofs.records.first_double.Goals as goal

pub loop-i-preserved : goal.loop-i-preserved
loop-i-preserved c =
    let i : ℕ = c.loop-i.i in
    let entries = c.args.entries.now in
    let rest = first_double entries (i + 1) (256 - (i + 1)) in
    let at : c.index-entries-i.result ≡ get_or entries i None = read_at entries i c.index-entries-i.result None (omega (arith, c.loop-i-test.true, c.requires)) c.index-entries-i.is in
    c.loop-i.invariant ∙ double_step entries i 256 c.loop-i-test.true
    ∙ ap (λ (e : Option DirEntry). double_or i (first_like entries e 0 i) rest) (sym at)
    ∙ ap (λ (o : Option ℕ). double_or i o rest) (sym c.first_like.ensures ∙ c.in_default.is)

pub returns-in-Some : goal.returns-in-Some
returns-in-Some c =
    let i : ℕ = c.loop-i.i in
    let entries = c.args.entries.now in
    let rest = first_double entries (i + 1) (256 - (i + 1)) in
    let at : c.index-entries-i.result ≡ get_or entries i None = read_at entries i c.index-entries-i.result None (omega (arith, c.loop-i-test.true, c.requires)) c.index-entries-i.is in
    sym (c.loop-i.invariant ∙ double_step entries i 256 c.loop-i-test.true
    ∙ ap (λ (e : Option DirEntry). double_or i (first_like entries e 0 i) rest) (sym at)
    ∙ ap (λ (o : Option ℕ). double_or i o rest) (sym c.first_like.ensures ∙ c.in-Some.is))

pub returns : goal.returns
returns c = sym (c.loop-i.invariant ∙ double_end c.args.entries.now c.loop-i.i 256 c.loop-i-test.false)
