use Rattle.std.proofs.Common.{◌≡◌, ◌⊎◌, ◌∙◌, ℕ, List, [], length, drop, sym, ap, subst, arith}
use Rattle.std.proofs.lemmas.List.{drop_all}
use Rattle.std.specs.Prelude.{Contains}
use Rattle.object_slots.proofs.KeptPages.{kept_more, kept_still, page_whole}
use Rattle.object_slots.proofs.cached_reads.read_to_keep.Goals as goal

pub returns-in_err-read_through-clause-kept : goal.returns-in_err-read_through-clause-kept
returns-in_err-read_through-clause-kept g c =
    let r = c.read_through.ensures in
    kept_still g.F.StoreFile.state c.args.object.now c.read_through.new.object r.same (g.met.F.StoreFile.sound c.args.object.now.tree.file) r.rests c.args.pages.now c.args.pages.now c.requires.kept (λ kept has. has)

pub returns-clause-kept : goal.returns-clause-kept
returns-clause-kept g c =
    let r = c.read_through.ensures in
    let read = c.in_ok-read_through.ensures.page in
    let page : List ℕ = c.read_through.new.page in
    let room : List ℕ = c.deref_mut.result.now in
    let size : length room ≡ 4096 = ap (λ (l : List ℕ). length l) c.deref_mut.ensures.value ∙ c.requires.long in
    let none : drop 4096 room ≡ [] = drop_all 4096 room (omega (arith, size)) in
    let whole = page_whole c.args.page.len page (drop 4096 room) c.args.page.items none (read.long ∙ sym size ∙ c.deref_mut.ensures.len) in
    kept_more g.F.StoreFile.state c.args.object.now c.read_through.new.object r.same (g.met.F.StoreFile.sound c.args.object.now.tree.file) r.rests c.args.pages.now c.keep.new.self c.requires.kept c.args.k page read
    (subst (λ (l : List ℕ). (kept : ℕ × List ℕ) → Contains c.keep.new.self kept → Contains c.args.pages.now kept ⊎ (kept ≡ (c.args.k, l))) whole c.keep.ensures)
