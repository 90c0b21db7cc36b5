use Rattle.std.proofs.Common.{◌≡◌, ◌∙◌, ◌+◌, ◌<◌, ℕ, List, [], Some, Ok, length, get_or, map, ap, sym, subst, rules, arith}
use Rattle.disk_model.specs.Calls.{Known}
use Rattle.node_image.specs.Layout.{greatest_of}
use Rattle.htree_file.specs.Changes.{Seals}
use Rattle.htree_file.specs.Pages.{opened_of}
use Rattle.htree_file.proofs.Sizes.{sized_greatest}
use Rattle.crash_core.specs.MountedObject.{object_in}
use Rattle.object_file.specs.Making.{IsObjectPage}
use Rattle.object_file.proofs.MadeObjects.{made_object}
use Rattle.object_file.proofs.object.ObjectFile.make.Goals as goal

pub returns-in-Ok-make-clause-object : goal.returns-in-Ok-make-clause-object
returns-in-Ok-make-clause-object g c known =
    let state = g.F.StoreFile.state in
    let pages : List (List ℕ) = c.in-Ok-object_pages.pages.items in
    let is = c.new.ensures in
    let known_tree : Known (state c.args.file) (state c.in-Ok-make.tree.file) = subst (λ t. Known (state c.args.file) (state t.file)) is known in
    let opened = subst (λ (l : List (List ℕ)). opened_of c.args.tsk.now (state c.in-Ok-make.tree.file).reads c.in-Ok-make.root
    ≡ Ok (record { bytes = 4096 + length c.args.bytes.now; pages = map (λ page. Some page) l })) c.deref.ensures.value (c.in-Ok-make.ensures.opened known_tree) in
    ap (λ t. object_in c.args.tsk.now (state t.file).reads c.in-Ok-make.root (length c.args.bytes.now) (length c.args.attributes.now)) is
    ∙ made_object c.args.attributes.now c.args.bytes.now pages (omega (arith, c.requires.attributes)) c.in-Ok-object_pages.ensures.count c.in-Ok-object_pages.ensures.pages
    c.args.tsk.now (state c.in-Ok-make.tree.file).reads c.in-Ok-make.root opened

pub returns-in-Ok-make-clause-pages : goal.returns-in-Ok-make-clause-pages
returns-in-Ok-make-clause-pages g c known =
    let state = g.F.StoreFile.state in
    let pages : List (List ℕ) = c.in-Ok-object_pages.pages.items in
    let is = c.new.ensures in
    let known_tree : Known (state c.args.file) (state c.in-Ok-make.tree.file) = subst (λ t. Known (state c.args.file) (state t.file)) is known in
    let opened = subst (λ (l : List (List ℕ)). opened_of c.args.tsk.now (state c.in-Ok-make.tree.file).reads c.in-Ok-make.root
    ≡ Ok (record { bytes = 4096 + length c.args.bytes.now; pages = map (λ page. Some page) l })) c.deref.ensures.value (c.in-Ok-make.ensures.opened known_tree) in (
      pages,
      ap (λ t. opened_of c.args.tsk.now (state t.file).reads c.in-Ok-make.root) is ∙ opened,
      c.in-Ok-object_pages.ensures.pages,
    )

pub returns-in-Ok-make-clause-seals : goal.returns-in-Ok-make-clause-seals
returns-in-Ok-make-clause-seals g c =
    let tree = c.in-Ok-make.tree in
    let pages : List (List ℕ) = c.in-Ok-object_pages.pages.items in
    let bytes : List ℕ = c.args.bytes.now in
    let attributes : List ℕ = c.args.attributes.now in
    let verified = c.in-Ok-make.ensures.verified in
    let many : tree.tree.head.greatest ≡ greatest_of tree.tree.head.length = sized_greatest tree.tree.head verified.hashed.sized in
    let long : tree.tree.head.length ≡ 4096 + length bytes = c.in-Ok-make.ensures.bytes ∙ (search rules) in
    let whole : length pages ≡ length tree.tree.nodes = c.in-Ok-object_pages.ensures.count ∙ ap greatest_of (sym long) ∙ sym many ∙ sym verified.hashed.all in
    let given : length c.deref.result.now ≡ length pages = ap (λ (l : List (List ℕ)). length l) c.deref.ensures.value in
    subst (λ t. (k : ℕ) → k < length t.tree.nodes → (page : List ℕ) × IsObjectPage attributes bytes k page × Seals t.key t.tree k page) (sym c.new.ensures)
    (λ k lt.
    let below : k < length pages = omega (arith, lt, whole) in (
      get_or pages k [],
      c.in-Ok-object_pages.ensures.pages k below,
      subst (λ (l : List (List ℕ)). Seals tree.key tree.tree k (get_or l k [])) c.deref.ensures.value (c.in-Ok-make.ensures.seals k (omega (arith, below, given))),
    ))
