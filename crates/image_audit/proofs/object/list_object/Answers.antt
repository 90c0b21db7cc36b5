use Rattle.std.proofs.Common.{◌≡◌, ◌∙◌, ◌+◌, ◌*◌, ◌==◌, ◌≤◌, true, false, inl, inr, ℕ, length, Result, Ok, Err, sym, ap, arith}
use Rattle.std.proofs.lemmas.Bool.{eq-eqb, ne_eqb}
use Rattle.image_audit.specs.declared.fault.CertFault.{CertFault}
use Rattle.image_audit.specs.declared.fault.Listed.{Listed}
use Rattle.byte_fields.specs.Field.{field}
use Rattle.node_image.specs.declared.head.Head.{Head}
use Rattle.node_image.specs.Layout.{greatest_of, node_of}
use Rattle.node_image.proofs.Matching.{length-row}
use Rattle.htree_file.proofs.Sizes.{sized_greatest}
use Rattle.image_audit.specs.Certificate.{object_head, object_tree}
use Rattle.image_audit.specs.Checking.{object_decoding}
use Rattle.image_audit.specs.Contents.{listed_in}
use Rattle.image_audit.proofs.ContentPages.{listing_is}
use Rattle.image_audit.proofs.Cutting.{list_ok, list_pages_err, list_size_err, same_head}
use Rattle.image_audit.proofs.object.list_object.Goals as goal

pub test_length-requires-clause-head : goal.test_length-requires-clause-head
test_length-requires-clause-head c = same_head c.args.keys.now c.args.entry.now c.args.bytes.now c.in-Ok.head c.in-Ok.ensures.head

pub read_content-requires-clause-head : goal.read_content-requires-clause-head
read_content-requires-clause-head c = same_head c.args.keys.now c.args.entry.now c.args.bytes.now c.in-Ok.head c.in-Ok.ensures.head

pub returns-in-Err-read_content : goal.returns-in-Err-read_content
returns-in-Err-read_content c =
    elim c.in-Err-read_content.ensures.err [
      | inl none ↦ inl (ap (λ (x : CertFault). let r : Result Listed CertFault = Err x in r) none)
      | inr is ↦ inr (sym (list_pages_err c.args.keys.now c.args.entry.now c.args.bytes.now c.in-Ok.head c.in-Ok.ensures.head c.in-Ok-test_length.ensures.answer c.in-Err-read_content.fault is))
    ]

pub returns-then-length-from : goal.returns-then-length-from
returns-then-length-from c =
    let other : (c.in-Ok.head.length == 4096 + c.args.entry.now.size) ≡ false =
    ne_eqb c.in-Ok.head.length (4096 + c.args.entry.now.size) (λ same. c.if-length-from.true (same ∙ ap (λ (n : ℕ). 4096 + n) (sym c.from.ensures))) in
    inr (sym (list_size_err c.args.keys.now c.args.entry.now c.args.bytes.now c.in-Ok.head c.in-Ok.ensures.head c.in-Ok-test_length.ensures.answer c.in-Ok.head.greatest c.in-Ok-read_content.ensures.ok other))

pub returns-in-Ok-list_content : goal.returns-in-Ok-list_content
returns-in-Ok-list_content c =
    let long : c.in-Ok.head.length ≡ 4096 + c.args.entry.now.size = c.if-length-from.false ∙ ap (λ (n : ℕ). 4096 + n) c.from.ensures in
    let same : (c.in-Ok.head.length == 4096 + c.args.entry.now.size) ≡ true = eq-eqb c.in-Ok.head.length (4096 + c.args.entry.now.size) long in
    let count : length (object_tree c.args.bytes.now).nodes ≡ c.in-Ok.head.greatest =
    length-row (λ n. node_of (field (4698 + 66 * n) 66 c.args.bytes.now)) (object_head c.args.bytes.now).greatest
    ∙ ap (λ (h : Head). h.greatest) (sym (same_head c.args.keys.now c.args.entry.now c.args.bytes.now c.in-Ok.head c.in-Ok.ensures.head)) in
    let many : c.in-Ok.head.greatest ≡ greatest_of c.in-Ok.head.length = sized_greatest c.in-Ok.head c.in-Ok.ensures.sized in
    let fits : 4096 + c.args.entry.now.size ≤ 4096 * c.in-Ok.head.greatest = omega (arith, many, long) in
    let says = listing_is c.args.entry.now (object_decoding c.args.keys.now c.args.entry.now c.args.bytes.now) c.in-Ok-read_content.content.items c.in-Ok.head.greatest
    c.in-Ok-read_content.ensures.pages count c.in-Ok.ensures.few.0 fits c.requires.form.attributes in
    inr (sym (list_ok c.args.keys.now c.args.entry.now c.args.bytes.now c.in-Ok.head c.in-Ok.ensures.head c.in-Ok-test_length.ensures.answer c.in-Ok.head.greatest c.in-Ok-read_content.ensures.ok same
    ∙ ap (λ (l : Listed). let r : Result Listed CertFault = Ok l in r) (says ∙ sym (c.in-Ok-list_content.ensures.ok ∙ ap (listed_in c.args.entry.now) c.as_slice.ensures.value))))
