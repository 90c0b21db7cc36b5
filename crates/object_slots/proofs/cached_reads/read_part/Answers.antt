use Rattle.object_slots.proofs.cached_reads.read_part.Goals as goal

pub returns-then-copy_out-clause-answer : goal.returns-then-copy_out-clause-answer
returns-then-copy_out-clause-answer g c =
    let hit = c.if-copy_out.ensures.hit in
    let page = c.requires.kept c.args.k hit.page hit.kept in
    record { page = hit.page; read = page; given = hit.given page.long }

pub read_missing-requires-clause-kept : goal.read_missing-requires-clause-kept
read_missing-requires-clause-kept g c = λ k page has. c.requires.kept k page (c.copy_out.ensures.same (k, page) has)

pub returns-then-copy_out-clause-kept : goal.returns-then-copy_out-clause-kept
returns-then-copy_out-clause-kept g c = λ k page has. c.requires.kept k page (c.copy_out.ensures.same (k, page) has)
