use Rattle.std.proofs.Common.{◌≡◌, ◌∙◌, ℕ, List, [], ◌∷◌, length, replicate, ap, sym, arith}
use Rattle.std.specs.Int.{w16, to_be_bytes}
use Rattle.byte_fields.specs.Field.{with_field}
use Rattle.store_model.specs.declared.name.ObjectName.{ObjectName}
use Rattle.card_maps.specs.Form.{front_fault}
use Rattle.card_maps.specs.Tables.{named}
use Rattle.card_maps.proofs.Codec.{front_back}
use Rattle.card_maps.proofs.Writing.{entry_written}
use Rattle.card_maps.proofs.entry.CardEntry.new.Goals as goal

pub returns-clause-block : goal.returns-clause-block
returns-clause-block c =
    let name : ObjectName = named c.args.app c.args.id in
    let one : c.put.new.bytes ≡ with_field 0 c.args.app (replicate 256 0) = c.put.ensures ∙ ap (λ (f : List ℕ). with_field 0 f (replicate 256 0)) c.bytes.ensures in
    let two : c.put-2.new.bytes ≡ with_field 16 c.args.id c.put.new.bytes = c.put-2.ensures ∙ ap (λ (f : List ℕ). with_field 16 f c.put.new.bytes) c.bytes-2.ensures.value in
    let three : c.put-3.new.bytes ≡ with_field 80 (length c.args.id ∷ 0 ∷ []) c.put-2.new.bytes =
    c.put-3.ensures ∙ ap (λ (f : List ℕ). with_field 80 (length f ∷ 0 ∷ []) c.put-2.new.bytes) c.bytes-3.ensures.value in
    let four : c.put-4.new.bytes ≡ with_field 82 (to_be_bytes w16 c.args.size) c.put-3.new.bytes = c.put-4.ensures ∙ ap (λ (f : List ℕ). with_field 82 f c.put-3.new.bytes) c.to_be_bytes.ensures in
    let five : c.put-5.new.bytes ≡ with_field 84 c.args.numbers.now c.put-4.new.bytes = c.put-5.ensures in
    let app : length c.args.app ≡ 16 = sym (ap length c.bytes.ensures) ∙ omega arith in
    let same : length c.bytes-2.result.now ≡ length c.args.id = ap length c.bytes-2.ensures.value in
    five
    ∙ ap (with_field 84 c.args.numbers.now) (four
    ∙ ap (with_field 82 (to_be_bytes w16 c.args.size)) (three
    ∙ ap (with_field 80 (length c.args.id ∷ 0 ∷ [])) (two ∙ ap (with_field 16 c.args.id) one)))
    ∙ entry_written (named c.args.app c.args.id) c.args.size c.args.numbers.now app (omega (arith, same, c.bytes-2.ensures.fits.1)) (omega (arith, c.requires.small, c.requires.whole)) (sym (ap length c.to_be_bytes.ensures) ∙ omega arith)

pub invariant_of-result : goal.invariant_of-result
invariant_of-result c =
    let app : length c.args.app ≡ 16 = sym (ap length c.bytes.ensures) ∙ omega arith in
    let same : length c.bytes-2.result.now ≡ length c.args.id = ap length c.bytes-2.ensures.value in
    ap front_fault (returns-clause-block c)
    ∙ front_back (named c.args.app c.args.id) c.args.size c.args.numbers.now app (omega (arith, same, c.bytes-2.ensures.fits.1)) c.requires.small c.requires.whole (omega (arith, same, c.bytes-2.ensures.fits.0))

pub returns-clause-fit : goal.returns-clause-fit
returns-clause-fit c =
    let same : length c.bytes-2.result.now ≡ length c.args.id = ap length c.bytes-2.ensures.value in
    record {
      app = sym (ap length c.bytes.ensures) ∙ omega arith;
      some = omega (arith, same, c.bytes-2.ensures.fits.0);
      short = omega (arith, same, c.bytes-2.ensures.fits.1);
    }
