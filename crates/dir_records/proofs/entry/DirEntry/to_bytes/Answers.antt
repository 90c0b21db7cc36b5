use Rattle.std.proofs.Common.{◌≡◌, [], ◌∷◌, ◌++◌, length, take, sym, ap, ◌∙◌, arith}
use Rattle.std.proofs.lemmas.List.{append-nil, take_all}
use Rattle.byte_fields.proofs.Fields.{take-first, take-put}
use Rattle.dir_records.specs.declared.entry.DirEntry.{DirEntry}
use Rattle.dir_records.specs.Layout.{entry_bytes}
use Rattle.dir_records.specs.Form.{record_of}
use Rattle.dir_records.proofs.Writing.{HasWidths, gives-entry_bytes, record_of-given}
use Rattle.dir_records.proofs.entry.DirEntry.to_bytes.Goals as goal

pub returns-clause-bytes : goal.returns-clause-bytes
unfolding entry_bytes
returns-clause-bytes c =
    let e : DirEntry = c.args.self.now in
    let whole : take 128 c.put-10.new.bytes ≡ c.put-10.new.bytes = take_all 128 c.put-10.new.bytes (omega arith) in
    let file_long : length c.to_be_bytes.result ≡ 2 = ap length c.to_be_bytes.ensures in
    let size_long : length c.to_be_bytes-2.result ≡ 4 = ap length c.to_be_bytes-2.ensures in
    let attributes_long : length c.to_be_bytes-3.result ≡ 2 = ap length c.to_be_bytes-3.ensures in
    let generation_long : length c.to_be_bytes-4.result ≡ 4 = ap length c.to_be_bytes-4.ensures in
    sym (append-nil c.put-10.new.bytes)
    ∙ ap (λ z. z ++ []) (sym whole)
    ∙ take-put c.put-9.new.bytes c.put-10.new.bytes (0 ∷ []) _ 127 128 c.put-10.ensures (omega arith) (omega arith)
    ∙ take-put c.put-8.new.bytes c.put-9.new.bytes c.to_be_bytes-4.result _ 123 127 c.put-9.ensures (omega arith) (omega arith)
    ∙ take-put c.put-7.new.bytes c.put-8.new.bytes (e.format ∷ []) _ 122 123 c.put-8.ensures (omega arith) (omega arith)
    ∙ take-put c.put-6.new.bytes c.put-7.new.bytes c.to_be_bytes-3.result _ 120 122 c.put-7.ensures (omega arith) (omega arith)
    ∙ take-put c.put-5.new.bytes c.put-6.new.bytes c.to_be_bytes-2.result _ 116 120 c.put-6.ensures (omega arith) (omega arith)
    ∙ take-put c.put-4.new.bytes c.put-5.new.bytes e.hash _ 84 116 c.put-5.ensures (omega arith) (omega arith)
    ∙ take-put c.put-3.new.bytes c.put-4.new.bytes c.to_be_bytes.result _ 82 84 c.put-4.ensures (omega arith) (omega arith)
    ∙ take-put c.put-2.new.bytes c.put-3.new.bytes (length c.bytes-2.result.now ∷ e.version ∷ []) _ 80 82 c.put-3.ensures (omega arith) (omega arith)
    ∙ take-put c.put.new.bytes c.put-2.new.bytes c.name_of.result _ 16 80 c.put-2.ensures (omega arith) (omega arith)
    ∙ take-first c.put.new.bytes c.bytes.result _ _ 16 c.put.ensures (omega arith)
    ∙ (λ i. c.bytes.ensures i ++ (c.name_of.ensures i ++ (length (c.bytes-2.ensures.value i) ∷ e.version ∷ [] ++ (c.to_be_bytes.ensures i ++ (e.hash
    ++ (c.to_be_bytes-2.ensures i ++ (c.to_be_bytes-3.ensures i ++ (e.format ∷ [] ++ (c.to_be_bytes-4.ensures i ++ append-nil (0 ∷ []) i)))))))))

pub returns-clause-read : goal.returns-clause-read
returns-clause-read c form =
    let e : DirEntry = c.args.self.now in
    let same : length c.bytes-2.result.now ≡ length e.id = ap length c.bytes-2.ensures.value in
    let widths : HasWidths e = record {
      app = sym (ap length c.bytes.ensures) ∙ omega arith;
      id = (omega (arith, same, c.bytes-2.ensures.fits.0), omega (arith, same, c.bytes-2.ensures.fits.1));
      file = omega arith;
      hash = omega arith;
      size = omega arith;
      attributes = omega arith;
      generation = omega arith;
    } in
    ap record_of (returns-clause-bytes c) ∙ record_of-given e (entry_bytes e) (gives-entry_bytes e widths) widths.id form
