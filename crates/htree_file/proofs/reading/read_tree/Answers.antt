use Rattle.std.proofs.Common.{◌≡◌, inr, ℕ, ◌<◌, List, ◌++◌, length, take, Ok, Err, sym, ◌∙◌, ap, arith, rules}
use Rattle.std.proofs.lemmas.List.{take_at}
use Rattle.std.proofs.lemmas.Result.{err_from_is_err_and}
use Rattle.disk_model.specs.State.{FileState}
use Rattle.disk_model.specs.Calls.{Rests}
use Rattle.disk_model.specs.Keeps.{rest}
use Rattle.disk_model.proofs.Goings.{rests_then, then_known}
use Rattle.disk_model.proofs.Seen.{runs_one, seen_later, seen_now}
use Rattle.node_image.specs.declared.node.NodeImage.{NodeImage}
use Rattle.node_image.specs.declared.node.RootRef.{RootRef}
use Rattle.node_image.specs.Parts.{nodes_end, layout_of}
use Rattle.node_image.specs.Selection.{bytes_at}
use Rattle.htree_file.specs.declared.fault.TreeFault.TheVariants.{Short}
use Rattle.htree_file.specs.Opening.{Loaded, need_of, table_of}
use Rattle.htree_file.specs.Selected.{Lies}
use Rattle.htree_file.specs.Standing.{Told}
use Rattle.htree_file.proofs.SameTable.{table_read}
use Rattle.htree_file.proofs.Verified.{long_is, short_is, table_differs, table_fault, table_verified}
use Rattle.htree_file.proofs.reading.read_tree.Goals as goal

-- what was read is what the file reads as
same_table : (seen into tail reads : List ℕ) (root : RootRef) (size len : ℕ) → root.version < 2 → size ≡ nodes_end (layout_of root.format) → length into ≡ len → seen ≡ take len (into ++ tail) → into ≡ bytes_at reads 0 size → table_of reads root ≡ table_of seen root
same_table seen into tail reads root size len bit wide long is got = sym (table_read seen into reads root size bit wide got (is ∙ take_at into tail len long))

-- and still when the length was asked
same_later : (a b c : FileState) (root : RootRef) → Rests a b → Rests b c → Told a c → table_of c.reads root ≡ table_of b.reads root
same_later a b c root first second told = ap (λ (l : List ℕ). table_of l root) (second.reads (then_known a b c first.goes_on told.1))

pub returns-in_err-head-clause-fault : goal.returns-in_err-head-clause-fault
returns-in_err-head-clause-fault g c =
    let reads = (g.F.StoreFile.state c.read_padded.new.file).reads in
    let p = err_from_is_err_and c.from_residual-in_err-head.result c.from_residual-in_err-head.ensures.1 in
    rw (p.1, p.2) (inr (λ told. table_fault reads c.args.root c.in_err-head.field-0.0
    (same_table c.deref.result.now c.read_padded.new.into _ reads c.args.root (length c.deref_mut.result.now) c.in_ok-image.image.len c.requires.version (search rules) (omega arith) c.deref.ensures.value (c.in_ok-read_padded.ensures.bytes told.0) ∙ c.in_err-head.ensures.err)))

pub returns-in_err-head-clause-differs : goal.returns-in_err-head-clause-differs
returns-in_err-head-clause-differs g c =
    let reads = (g.F.StoreFile.state c.read_padded.new.file).reads in
    let p = err_from_is_err_and c.from_residual-in_err-head.result c.from_residual-in_err-head.ensures.1 in
    rw (p.1, p.2) (λ tells. table_differs reads c.args.root c.in_err-head.field-0.0
    (same_table c.deref.result.now c.read_padded.new.into _ reads c.args.root (length c.deref_mut.result.now) c.in_ok-image.image.len c.requires.version (search rules) (omega arith) c.deref.ensures.value (c.in_ok-read_padded.ensures.bytes tells) ∙ c.in_err-head.ensures.err))

pub returns-clause-verified : goal.returns-clause-verified
returns-clause-verified g c = table_verified c.deref.result.now c.args.root _ c.read_table.ensures.bytes c.in_ok-head.ensures.ok

pub returns-clause-loaded : goal.returns-clause-loaded
returns-clause-loaded g c = λ told.
    let old = g.F.StoreFile.state c.args.file.now in
    let mid = g.F.StoreFile.state c.read_padded.new.file in
    let new = g.F.StoreFile.state c.len.new.self in
    let table : table_of new.reads c.args.root ≡ Ok (record { head = c.in_ok-head.head; nodes = take c.in_ok-head.head.greatest c.read_table.new.nodes; layout = layout_of c.args.root.format }) =
    same_later old mid new c.args.root c.read_padded.ensures.rests c.len.ensures.rests told
    ∙ same_table c.deref.result.now c.read_padded.new.into _ mid.reads c.args.root (length c.deref_mut.result.now) c.in_ok-image.image.len c.requires.version (search rules) (omega arith) c.deref.ensures.value (c.in_ok-read_padded.ensures.bytes (sym c.len.ensures.rests.goes_on.tells ∙ told.0))
    ∙ c.in_ok-head.ensures.ok in
    long_is (length new.reads) (table_of new.reads c.args.root) _ table (omega (arith, c.if-end-need.false, c.need_of-need.ensures, c.in_ok-end.ensures.told told.0))

pub returns-then-end-need-clause-fault : goal.returns-then-end-need-clause-fault
returns-then-end-need-clause-fault g c = inr (λ told.
    let old = g.F.StoreFile.state c.args.file.now in
    let mid = g.F.StoreFile.state c.read_padded.new.file in
    let new = g.F.StoreFile.state c.len.new.self in
    let nodes : List NodeImage = take c.in_ok-head.head.greatest c.read_table.new.nodes in
    let table : table_of new.reads c.args.root ≡ Ok (record { head = c.in_ok-head.head; nodes = nodes; layout = layout_of c.args.root.format }) =
    same_later old mid new c.args.root c.read_padded.ensures.rests c.len.ensures.rests told
    ∙ same_table c.deref.result.now c.read_padded.new.into _ mid.reads c.args.root (length c.deref_mut.result.now) c.in_ok-image.image.len c.requires.version (search rules) (omega arith) c.deref.ensures.value (c.in_ok-read_padded.ensures.bytes (sym c.len.ensures.rests.goes_on.tells ∙ told.0))
    ∙ c.in_ok-head.ensures.ok in
    let end : length new.reads ≡ c.in_ok-end.end = sym (c.in_ok-end.ensures.told told.0) in
    let need : need_of (layout_of c.args.root.format) nodes (length nodes) ≡ c.need_of-need.result = sym c.need_of-need.ensures in
    short_is (length new.reads) (table_of new.reads c.args.root) (record { head = c.in_ok-head.head; nodes = nodes; layout = layout_of c.args.root.format }) table (omega (arith, c.if-end-need.true, need, end)) ∙ (λ i. Err (Short (end i) (need i))))

pub returns-then-end-need-clause-differs : goal.returns-then-end-need-clause-differs
returns-then-end-need-clause-differs g c = λ tells. (
  c.in_ok-end.ensures.told tells,
  c.if-end-need.true,
  record {
    tree = record { head = c.in_ok-head.head; nodes = take c.in_ok-head.head.greatest c.read_table.new.nodes; layout = layout_of c.args.root.format };
    verified = table_verified c.deref.result.now c.args.root _ c.read_table.ensures.bytes c.in_ok-head.ensures.ok;
    is = c.need_of-need.ensures;
  },
)

pub returns-clause-seen : goal.returns-clause-seen
returns-clause-seen g c =
    let old = g.F.StoreFile.state c.args.file.now in
    let mid = g.F.StoreFile.state c.read_padded.new.file in
    let new = g.F.StoreFile.state c.len.new.self in
    let tree : Loaded = record { head = c.in_ok-head.head; nodes = take c.in_ok-head.head.greatest c.read_table.new.nodes; layout = layout_of c.args.root.format } in
    let places = Lies tree.layout tree.nodes c.args.root.version in
    let shown : List ℕ → Type 0 = λ image. table_of image c.args.root ≡ Ok tree in
    seen_later places old mid new shown (runs_one places rest mid new (g.met.F.StoreFile.sound c.read_padded.new.file) c.len.ensures.rests tt)
    (seen_now places old mid shown c.read_padded.ensures.rests (λ tells.
    same_table c.deref.result.now c.read_padded.new.into _ mid.reads c.args.root (length c.deref_mut.result.now) c.in_ok-image.image.len c.requires.version (search rules) (omega arith) c.deref.ensures.value (c.in_ok-read_padded.ensures.bytes tells)
    ∙ c.in_ok-head.ensures.ok))

pub returns-in_err-end-clause-rests : goal.returns-in_err-end-clause-rests
returns-in_err-end-clause-rests g c = rests_then _ _ _ c.read_padded.ensures.rests c.len.ensures.rests

pub returns-then-end-need-clause-rests : goal.returns-then-end-need-clause-rests
returns-then-end-need-clause-rests g c = rests_then _ _ _ c.read_padded.ensures.rests c.len.ensures.rests

pub returns-clause-rests : goal.returns-clause-rests
returns-clause-rests g c = rests_then _ _ _ c.read_padded.ensures.rests c.len.ensures.rests
