use Rattle.std.proofs.Common.{◌≡◌, ◌∙◌, ◌++◌, List, ℕ, codes, decimal, ap, append_assoc}
use Rattle.hex.specs.Hex.{encode_lower}
use Rattle.store_model.specs.Object.{size_of}
use Rattle.run_acts.specs.Lines.{object_line, object_words}
use Rattle.script_text.specs.Forms.{uuid_text}
use Rattle.run_acts.specs.LineObjects.{entry_shown}
use Rattle.run_acts.proofs.object_line.put_line.Goals as goal

-- five pieces behind a text
line-of : (o0 o1 o2 o3 o4 o5 a u h d w e s : List ℕ) → o1 ≡ o0 ++ a → o2 ≡ o1 ++ u → o3 ≡ o2 ++ s ++ h → o4 ≡ o3 ++ s ++ d ++ s ++ w → o5 ≡ o4 ++ e
    → o5 ≡ o0 ++ (a ++ u ++ s ++ h ++ s ++ d ++ s ++ w ++ e)
line-of o0 o1 o2 o3 o4 o5 a u h d w e s p1 p2 p3 p4 p5 = rw (p5, p4, p3, p2, p1) (simp append_assoc)

pub returns-clause-ok : goal.returns-clause-ok
unfolding object_line
returns-clause-ok c =
    let entry = entry_shown c.args.shown.now in
    line-of c.args.out.now.items _ _ _ _ _ (codes "# ") (uuid_text (entry.0).app) (encode_lower (entry.0).id) (decimal (size_of entry.1)) (object_words entry.1) (codes "\n") (codes " ")
    c.in_ok-put.ensures.ok c.in_ok-put_uuid.ensures.ok (c.in_ok-put_word_hex.ensures.ok ∙ ap (λ (b : List ℕ). c.put_uuid.new.out.items ++ codes " " ++ encode_lower b) c.bytes.ensures.value) c.in_ok-put_object.ensures.ok c.in_ok-put-2.ensures.ok
