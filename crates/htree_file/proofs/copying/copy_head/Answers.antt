use Rattle.std.proofs.Common.{List, ℕ, sym, ◌∙◌, ap, subst}
use Rattle.node_image.specs.Layout.{is_sized}
use Rattle.node_image.specs.Selection.{bytes_at}
use Rattle.htree_file.specs.Copies.{IsCopyOf}
use Rattle.htree_file.proofs.CopiedParts.{count_formed, count_unformed, head_step}
use Rattle.htree_file.proofs.Sizes.{form_sized, sized_few}
use Rattle.htree_file.proofs.copying.copy_head.Goals as goal

pub returns-in-Ok-clause-copied : goal.returns-in-Ok-clause-copied
returns-in-Ok-clause-copied g c = λ told known empty.
    let a = g.F.StoreFile.state c.args.from.now in
    let b = g.F.StoreFile.state c.args.to.now in
    subst (λ (l : List ℕ). IsCopyOf a.reads l c.args.root c.args.format 0 0) (sym (c.in_ok-copy_bytes.ensures.copied told known))
    (head_step a.reads b.reads c.args.root c.args.format c.head_offset-at.result c.head_offset-there.result c.requires empty c.head_offset-at.ensures c.head_offset-there.ensures)

pub returns-in-Err-clause-copied : goal.returns-in-Err-clause-copied
returns-in-Err-clause-copied g c = λ told known empty.
    let a = g.F.StoreFile.state c.args.from.now in
    let b = g.F.StoreFile.state c.args.to.now in
    subst (λ (l : List ℕ). IsCopyOf a.reads l c.args.root c.args.format 0 0) (sym (c.in_ok-copy_bytes.ensures.copied told known))
    (head_step a.reads b.reads c.args.root c.args.format c.head_offset-at.result c.head_offset-there.result c.requires empty c.head_offset-at.ensures c.head_offset-there.ensures)

pub returns-in-Ok-clause-count : goal.returns-in-Ok-clause-count
returns-in-Ok-clause-count g c = λ told.
    let a = g.F.StoreFile.state c.args.from.now in
    let is = c.in_ok-copy_bytes.ensures.read told ∙ ap (λ (p : ℕ). bytes_at a.reads p 32) c.head_offset-at.ensures in
    ap (λ h. h.greatest) c.in-Ok.ensures.head.1 ∙ count_formed a.reads c.args.root c.copy_bytes.new.bytes is c.in-Ok.ensures.head.0

pub returns-in-Err-clause-count : goal.returns-in-Err-clause-count
returns-in-Err-clause-count g c = λ told.
    let a = g.F.StoreFile.state c.args.from.now in
    let is = c.in_ok-copy_bytes.ensures.read told ∙ ap (λ (p : ℕ). bytes_at a.reads p 32) c.head_offset-at.ensures in
    count_unformed a.reads c.args.root c.copy_bytes.new.bytes is c.in-Err.ensures.head.0

pub returns-in-Ok-clause-few : goal.returns-in-Ok-clause-few
returns-in-Ok-clause-few g c = (sized_few c.in-Ok.head (ap is_sized c.in-Ok.ensures.head.1 ∙ form_sized c.copy_bytes.new.bytes c.in-Ok.ensures.head.0)).1
