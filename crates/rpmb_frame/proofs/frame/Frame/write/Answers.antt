use Rattle.std.proofs.Common.{◌≡◌, [], ◌++◌, length, take, sym, ap, ◌∙◌, arith}
use Rattle.std.proofs.lemmas.List.{append-nil, take_all}
use Rattle.rpmb_frame.specs.declared.frame.Frame.{Frame}
use Rattle.rpmb_frame.specs.Layout.{HasWidths, frame_bytes, frame_of}
use Rattle.byte_fields.proofs.Fields.{take-first, take-put}
use Rattle.rpmb_frame.proofs.RoundTrips.{frame_of-frame_bytes}
use Rattle.rpmb_frame.proofs.frame.Frame.write.Goals as goal

pub returns-clause-bytes : goal.returns-clause-bytes
unfolding frame_bytes
returns-clause-bytes c =
    let f : Frame = c.args.self.now in
    let whole : take 512 c.put-9.new.bytes ≡ c.put-9.new.bytes = take_all 512 c.put-9.new.bytes (omega arith) in
    let counter_long : length c.to_be_bytes.result ≡ 4 = ap length c.to_be_bytes.ensures in
    let address_long : length c.to_be_bytes-2.result ≡ 2 = ap length c.to_be_bytes-2.ensures in
    let count_long : length c.to_be_bytes-3.result ≡ 2 = ap length c.to_be_bytes-3.ensures in
    let result_long : length c.to_be_bytes-4.result ≡ 2 = ap length c.to_be_bytes-4.ensures in
    let kind_long : length c.to_be_bytes-5.result ≡ 2 = ap length c.to_be_bytes-5.ensures in
    sym (append-nil c.put-9.new.bytes)
    ∙ ap (λ z. z ++ []) (sym whole)
    ∙ take-put c.put-8.new.bytes c.put-9.new.bytes c.to_be_bytes-5.result _ 510 512 c.put-9.ensures (omega arith) (omega arith)
    ∙ take-put c.put-7.new.bytes c.put-8.new.bytes c.to_be_bytes-4.result _ 508 510 c.put-8.ensures (omega arith) (omega arith)
    ∙ take-put c.put-6.new.bytes c.put-7.new.bytes c.to_be_bytes-3.result _ 506 508 c.put-7.ensures (omega arith) (omega arith)
    ∙ take-put c.put-5.new.bytes c.put-6.new.bytes c.to_be_bytes-2.result _ 504 506 c.put-6.ensures (omega arith) (omega arith)
    ∙ take-put c.put-4.new.bytes c.put-5.new.bytes c.to_be_bytes.result _ 500 504 c.put-5.ensures (omega arith) (omega arith)
    ∙ take-put c.put-3.new.bytes c.put-4.new.bytes f.nonce _ 484 500 c.put-4.ensures (omega arith) (omega arith)
    ∙ take-put c.put-2.new.bytes c.put-3.new.bytes f.block _ 228 484 c.put-3.ensures (omega arith) (omega arith)
    ∙ take-put c.put.new.bytes c.put-2.new.bytes f.key_or_mac _ 196 228 c.put-2.ensures (omega arith) (omega arith)
    ∙ take-first c.put.new.bytes f.stuff _ _ 196 c.put.ensures (omega arith)
    ∙ (λ i. f.stuff ++ (f.key_or_mac ++ (f.block ++ (f.nonce ++ (c.to_be_bytes.ensures i ++ (c.to_be_bytes-2.ensures i
    ++ (c.to_be_bytes-3.ensures i ++ (c.to_be_bytes-4.ensures i ++ (append-nil c.to_be_bytes-5.result ∙ c.to_be_bytes-5.ensures) i))))))))

pub returns-clause-parsed : goal.returns-clause-parsed
returns-clause-parsed c =
    let widths : HasWidths c.args.self.now =
    (omega arith, omega arith, omega arith, omega arith, omega arith, omega arith, omega arith, omega arith, omega arith) in
    ap frame_of (returns-clause-bytes c) ∙ frame_of-frame_bytes c.args.self.now widths
