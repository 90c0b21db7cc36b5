use Rattle.std.proofs.Common.{◌≡◌, ◌∙◌, ◌+◌, ◌*◌, inl, inr, ℕ, length, Result, Ok, Err, sym, ap, subst, refl, arith}
use Rattle.aes_block.specs.WrappedKey.{unwrapped_of}
use Rattle.hmac_keys.specs.KeyTable.{tsk}
use Rattle.core_laws.specs.Decodings.{Decoding}
use Rattle.byte_fields.specs.Field.{field}
use Rattle.node_image.specs.Layout.{node_of}
use Rattle.node_image.specs.Selection.{row}
use Rattle.image_audit.specs.declared.fault.CertFault.TheVariants.{Object}
use Rattle.image_audit.specs.declared.fault.ProofFault.{ProofFault}
use Rattle.image_audit.specs.Checking.{fault_as, pages_test}
use Rattle.image_audit.specs.Contents.{HoldsPages, cut_pages}
use Rattle.image_audit.proofs.Cutting.{object_cut_is, pages_behind}
use Rattle.image_audit.proofs.object.read_content.Goals as goal

pub returns-in-Ok-read_pages-clause-ok : goal.returns-in-Ok-read_pages-clause-ok
returns-in-Ok-read_pages-clause-ok c =
    let key_is = c.new-key.ensures ∙ c.unwrap_key.ensures.value ∙ (λ i. unwrapped_of ((c.tsk.ensures ∙ (λ j. tsk (c.ssk.ensures j) (c.bytes.ensures j))) i) c.args.head.now.wrapped) in
    let read : c.read_nodes.new.nodes ≡ row (λ n. node_of (field (4698 + 66 * n) 66 c.args.bytes.now)) c.args.head.now.greatest =
    c.read_nodes.ensures ∙ ap (row (λ n. node_of (field (4698 + 66 * n) 66 c.args.bytes.now))) c.requires.room in
    let count : length c.read_nodes.new.nodes ≡ c.args.head.now.greatest = omega arith in
    pages_behind c.args.keys.now c.args.entry.now c.args.bytes.now c.args.head.now c.read_nodes.new.nodes c.requires.head read c.new-key.result (4698 + 66 * c.args.head.now.greatest) key_is refl c.in-Ok.ensures
    (Ok c.args.head.now.greatest)
    (ap (fault_as Object) (ap (pages_test (cut_pages c.new-key.result c.args.head.now c.read_nodes.new.nodes c.args.bytes.now (4698 + 66 * c.args.head.now.greatest)) 0) (sym count)
    ∙ c.in-Ok-read_pages.ensures.ok ∙ ap (λ (n : ℕ). let r : Result ℕ ProofFault = Ok n in r) count))

pub returns-in-Ok-read_pages-clause-pages : goal.returns-in-Ok-read_pages-clause-pages
returns-in-Ok-read_pages-clause-pages c =
    let key_is = c.new-key.ensures ∙ c.unwrap_key.ensures.value ∙ (λ i. unwrapped_of ((c.tsk.ensures ∙ (λ j. tsk (c.ssk.ensures j) (c.bytes.ensures j))) i) c.args.head.now.wrapped) in
    let read : c.read_nodes.new.nodes ≡ row (λ n. node_of (field (4698 + 66 * n) 66 c.args.bytes.now)) c.args.head.now.greatest =
    c.read_nodes.ensures ∙ ap (row (λ n. node_of (field (4698 + 66 * n) 66 c.args.bytes.now))) c.requires.room in
    let count : length c.read_nodes.new.nodes ≡ c.args.head.now.greatest = omega arith in
    subst (λ (sp : Decoding). HoldsPages sp c.read_pages.new.content.items c.args.head.now.greatest)
    (object_cut_is c.args.keys.now c.args.entry.now c.args.bytes.now c.args.head.now c.read_nodes.new.nodes c.requires.head read c.new-key.result (4698 + 66 * c.args.head.now.greatest) key_is refl c.in-Ok.ensures)
    (subst (λ (n : ℕ). HoldsPages (cut_pages c.new-key.result c.args.head.now c.read_nodes.new.nodes c.args.bytes.now (4698 + 66 * c.args.head.now.greatest)) c.read_pages.new.content.items n) count c.in-Ok-read_pages.ensures.pages)

pub returns-in-Err-read_pages-clause-err : goal.returns-in-Err-read_pages-clause-err
returns-in-Err-read_pages-clause-err c =
    let key_is = c.new-key.ensures ∙ c.unwrap_key.ensures.value ∙ (λ i. unwrapped_of ((c.tsk.ensures ∙ (λ j. tsk (c.ssk.ensures j) (c.bytes.ensures j))) i) c.args.head.now.wrapped) in
    let read : c.read_nodes.new.nodes ≡ row (λ n. node_of (field (4698 + 66 * n) 66 c.args.bytes.now)) c.args.head.now.greatest =
    c.read_nodes.ensures ∙ ap (row (λ n. node_of (field (4698 + 66 * n) 66 c.args.bytes.now))) c.requires.room in
    let count : length c.read_nodes.new.nodes ≡ c.args.head.now.greatest = omega arith in
    elim c.in-Err-read_pages.ensures.err [
      | inl none ↦ inl none
      | inr is ↦ inr (pages_behind c.args.keys.now c.args.entry.now c.args.bytes.now c.args.head.now c.read_nodes.new.nodes c.requires.head read c.new-key.result (4698 + 66 * c.args.head.now.greatest) key_is refl c.in-Ok.ensures
          (Err c.in-Err-read_pages.fault)
          (ap (λ (n : ℕ). fault_as Object (pages_test (cut_pages c.new-key.result c.args.head.now c.read_nodes.new.nodes c.args.bytes.now (4698 + 66 * c.args.head.now.greatest)) 0 n)) (sym count) ∙ is))
    ]
