use Rattle.std.proofs.Common.{◌≡◌, inl, inr, ◌==◌, ◌&&◌, ℕ, List, Bool, sym, ap, ◌∙◌}
use Rattle.std.proofs.lemmas.Bool.{ne_eqb}
use Rattle.std.specs.Int.{w32, w64, from_be_bytes}
use Rattle.byte_fields.specs.Field.{field}
use Rattle.node_image.specs.Layout.{has_form, head_bytes, head_of, is_sized}
use Rattle.node_image.specs.declared.head.Head.{Head}
use Rattle.node_image.proofs.RoundTrips.{head_bytes-head_of}
use Rattle.node_image.proofs.head.Head.from_bytes.Goals as goal

-- the fields that were read make the head
read_head : (bytes wrapped : List ℕ) (long many : ℕ) → wrapped ≡ field 0 16 bytes → long ≡ from_be_bytes w64 (field 16 8 bytes) → many ≡ from_be_bytes w32 (field 24 4 bytes)
    → ◌≡◌ {A = Head} (record { wrapped = wrapped; length = long; greatest = many }) (head_of bytes)
unfolding head_of
read_head bytes wrapped long many a b d = λ i. record { wrapped = a i; length = b i; greatest = d i }

-- and tell its form
formed : (bytes : List ℕ) (h : Head) (spare : ℕ) (sized : Bool) → h ≡ head_of bytes → spare ≡ from_be_bytes w32 (field 28 4 bytes) → sized ≡ is_sized h → has_form bytes ≡ (sized && (spare == 0))
unfolding has_form
formed bytes h spare sized at_head at_spare tested = λ i. (sym (tested ∙ ap is_sized at_head)) i && (sym at_spare i == 0)

pub returns-then-spare-eq0-clause-head : goal.returns-then-spare-eq0-clause-head
returns-then-spare-eq0-clause-head c =
    let is = read_head c.args.bytes.now c.field.result c.from_be_bytes.result c.from_be_bytes-2.result c.field.ensures (c.from_be_bytes.ensures ∙ ap (from_be_bytes w64) c.field-2.ensures) (c.from_be_bytes-2.ensures ∙ ap (from_be_bytes w32) c.field-3.ensures) in
    let form = formed c.args.bytes.now _ c.from_be_bytes-spare.result c.is_sized.result is (c.from_be_bytes-spare.ensures ∙ ap (from_be_bytes w32) c.field-4.ensures) c.is_sized.ensures in
    (form ∙ (λ i. c.if-is_sized.true i && (c.if-spare-eq0.true i == 0)), is)

pub returns-then-spare-eq0-clause-written : goal.returns-then-spare-eq0-clause-written
returns-then-spare-eq0-clause-written c =
    let both = returns-then-spare-eq0-clause-head c in
    ap head_bytes both.1 ∙ head_bytes-head_of c.args.bytes.now c.told-bytes c.fits-bytes both.0

pub returns-else-is_sized-clause-head : goal.returns-else-is_sized-clause-head
returns-else-is_sized-clause-head c =
    let is = read_head c.args.bytes.now c.field.result c.from_be_bytes.result c.from_be_bytes-2.result c.field.ensures (c.from_be_bytes.ensures ∙ ap (from_be_bytes w64) c.field-2.ensures) (c.from_be_bytes-2.ensures ∙ ap (from_be_bytes w32) c.field-3.ensures) in
    let form = formed c.args.bytes.now _ c.from_be_bytes-spare.result c.is_sized.result is (c.from_be_bytes-spare.ensures ∙ ap (from_be_bytes w32) c.field-4.ensures) c.is_sized.ensures in (
      form ∙ elim c.else-is_sized.either [
        | inl both ↦ (λ i. both.0 i && ne_eqb c.from_be_bytes-spare.result 0 both.1 i)
        | inr unsized ↦ ap (λ b. b && (c.from_be_bytes-spare.result == 0)) unsized
      ],
      λ i. record { length = (is i).length; greatest = (is i).greatest },
    )
