use Rattle.std.proofs.Common.{◌≡◌, ◌∷◌, [], ◌++◌, length, take, sym, ap, ◌∙◌, arith}
use Rattle.std.proofs.lemmas.List.{append-nil, take_all}
use Rattle.node_image.specs.declared.head.Head.{Head}
use Rattle.node_image.specs.Layout.{has_form, head_bytes, head_of}
use Rattle.byte_fields.proofs.Fields.{take-first, take-put}
use Rattle.node_image.proofs.RoundTrips.{has_form-head_bytes, head_of-head_bytes}
use Rattle.node_image.proofs.head.Head.to_bytes.Goals as goal

pub returns-clause-bytes : goal.returns-clause-bytes
unfolding head_bytes
returns-clause-bytes c =
    let h : Head = c.args.self.now in
    let whole : take 32 c.put-4.new.bytes ≡ c.put-4.new.bytes = take_all 32 c.put-4.new.bytes (omega arith) in
    let length_long : length c.to_be_bytes.result ≡ 8 = ap length c.to_be_bytes.ensures in
    let greatest_long : length c.to_be_bytes-2.result ≡ 4 = ap length c.to_be_bytes-2.ensures in
    sym (append-nil c.put-4.new.bytes)
    ∙ ap (λ z. z ++ []) (sym whole)
    ∙ take-put c.put-3.new.bytes c.put-4.new.bytes (0 ∷ 0 ∷ 0 ∷ 0 ∷ []) _ 28 32 c.put-4.ensures (omega arith) (omega arith)
    ∙ take-put c.put-2.new.bytes c.put-3.new.bytes c.to_be_bytes-2.result _ 24 28 c.put-3.ensures (omega arith) (omega arith)
    ∙ take-put c.put.new.bytes c.put-2.new.bytes c.to_be_bytes.result _ 16 24 c.put-2.ensures (omega arith) (omega arith)
    ∙ take-first c.put.new.bytes h.wrapped _ _ 16 c.put.ensures (omega arith)
    ∙ (λ i. h.wrapped ++ (c.to_be_bytes.ensures i ++ (c.to_be_bytes-2.ensures i ++ append-nil (0 ∷ 0 ∷ 0 ∷ 0 ∷ []) i)))

pub returns-clause-read : goal.returns-clause-read
returns-clause-read c =
    let h : Head = c.args.self.now in
    ap head_of (returns-clause-bytes c) ∙ head_of-head_bytes h (omega arith) (omega arith) (omega arith)

pub returns-clause-form : goal.returns-clause-form
returns-clause-form c =
    let h : Head = c.args.self.now in
    ap has_form (returns-clause-bytes c) ∙ has_form-head_bytes h (omega arith) (omega arith) (omega arith)
