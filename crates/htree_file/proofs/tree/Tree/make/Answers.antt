use Rattle.std.proofs.Common.{◌≡◌, inl, ◌++◌, length, map, take, drop, Some, Ok, sym, ◌∙◌, ap, subst, arith}
use Rattle.disk_model.specs.Calls.{Known}
use Rattle.aes_block.specs.WrappedKey.{unwrapped_of}
use Rattle.node_image.specs.declared.head.Head.{Head}
use Rattle.node_image.specs.Parts.{layout_of}
use Rattle.htree_file.specs.Changes.{numbered}
use Rattle.htree_file.specs.Making.{NamesVersionZero}
use Rattle.htree_file.specs.Opening.{Loaded}
use Rattle.htree_file.specs.Stages.{IsMade}
use Rattle.htree_file.proofs.ChangeLists.{whole_changes}
use Rattle.htree_file.proofs.Firmness.{synced_firm}
use Rattle.htree_file.proofs.Made.{made_opens, made_over, made_seals}
use Rattle.htree_file.proofs.StageTree.{held}
use Rattle.htree_file.proofs.tree.Tree.make.Given.{Over}
use Rattle.htree_file.proofs.tree.Tree.make.Goals as goal

pub of_pages-version-requires-clause-changes : goal.of_pages-version-requires-clause-changes
of_pages-version-requires-clause-changes g c = whole_changes c.args.blocks.now c.new_head-head.result.greatest (c.requires.blocks ∙ sym c.new_head-head.ensures.greatest)

-- the tree that was made, by the fields that it gets
tree : (g : Over) → goal.In-Ok-make g → Loaded
tree g c = let t = c.in-Ok.tables.0 in record { head = c.new_head-head.result; nodes = take c.new_head-head.result.greatest (take t.len (c.make.new.table ++ drop (length c.make.new.table) t.items)); layout = layout_of c.in-Ok-make.root.format }

tree_is : (g : Over) (c : goal.In-Ok-make g) → let v = c.of_pages-version.result in ◌≡◌ {A = Loaded} (record { head = v.head.now; nodes = take v.head.now.greatest c.make.new.table; layout = layout_of v.format }) (tree g c)
unfolding tree
tree_is g c =
    let head = c.of_pages-version.ensures.head in
    let same = held c.make.new.table c.in-Ok.tables.0.items c.in-Ok.tables.0.len (omega arith) in
    λ i. record { head = head i; nodes = take (head i).greatest (sym same i); layout = layout_of (sym c.in-Ok-make.ensures.format i) }

made : (g : Over) (c : goal.In-Ok-make g) → let new = g.F.StoreFile.state c.make.new.file in IsMade (Known (g.F.StoreFile.state c.args.file) new) new.reads c.new-key.result c.in-Ok-make.root (tree g c) (numbered c.args.blocks.now 0)
made g c =
    let v = c.of_pages-version in
    made_over _ _ c.in-Ok-make.root v.result.key.now c.new-key.result (record { head = v.result.head.now; nodes = take v.result.head.now.greatest c.make.new.table; layout = layout_of v.result.format }) (tree g c) _ (numbered c.args.blocks.now 0) v.ensures.key (tree_is g c) v.ensures.pages c.in-Ok-make.ensures.made

pub returns-in-Ok-make-clause-loaded : goal.returns-in-Ok-make-clause-loaded
unfolding tree
returns-in-Ok-make-clause-loaded g c = λ known. (made g c).loaded known

pub returns-in-Ok-make-clause-verified : goal.returns-in-Ok-make-clause-verified
unfolding tree
returns-in-Ok-make-clause-verified g c = (made g c).verified

pub returns-in-Ok-make-clause-opened : goal.returns-in-Ok-make-clause-opened
unfolding tree
returns-in-Ok-make-clause-opened g c =
    let new = g.F.StoreFile.state c.make.new.file in
    let key_is : c.new-key.result ≡ unwrapped_of c.args.wrap.now c.new_head-head.result.wrapped = c.new-key.ensures ∙ sym c.new_head-head.ensures.wrapped in
    let all : length (tree g c).nodes ≡ c.new_head-head.result.greatest = ap (λ (t : Loaded). length t.nodes) (sym (tree_is g c)) ∙ c.in-Ok-make.ensures.all ∙ ap (λ (x : Head). x.greatest) c.of_pages-version.ensures.head in
    λ known. made_opens (Known (g.F.StoreFile.state c.args.file) new) new.reads c.new-key.result c.args.wrap.now c.in-Ok-make.root (tree g c) c.args.blocks.now (made g c) known (c.requires.blocks ∙ sym c.new_head-head.ensures.greatest ∙ sym all) key_is
    ∙ (λ i. Ok (record { bytes = c.new_head-head.ensures.length i; pages = map (λ p. Some p) c.args.blocks.now }))

pub returns-in-Ok-make-clause-firm : goal.returns-in-Ok-make-clause-firm
unfolding tree
returns-in-Ok-make-clause-firm g c = λ honest. synced_firm (g.F.StoreFile.state c.make.new.file) c.in-Ok-make.root (tree g c) c.in-Ok-make.ensures.synced honest ((made g c).loaded (inl honest))

pub returns-in-Ok-make-clause-seals : goal.returns-in-Ok-make-clause-seals
unfolding tree
returns-in-Ok-make-clause-seals g c = λ k lt. made_seals _ _ c.new-key.result c.in-Ok-make.root (tree g c) c.args.blocks.now (made g c) k lt

pub returns-in-Ok-make-clause-flags : goal.returns-in-Ok-make-clause-flags
unfolding tree
returns-in-Ok-make-clause-flags g c = subst NamesVersionZero (tree_is g c) c.in-Ok-make.ensures.flags
