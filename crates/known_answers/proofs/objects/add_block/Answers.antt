use Rattle.std.proofs.Common.{◌≡◌, ◌∙◌, ◌-◌, ◌*◌, ◌++◌, ℕ, List, take, min, ap, arith}
use Rattle.std.proofs.lemmas.Result.{on_ok_weaker}
use Rattle.object_file.specs.Value.{size_in}
use Rattle.known_answers.proofs.objects.add_block.Goals as goal

pub returns-clause-bytes : goal.returns-clause-bytes
returns-clause-bytes g c =
    let count : c.min.result ≡ min 4096 (size_in c.args.object.now - 4096 * (c.args.block - 1)) = omega (arith, c.min.ensures, c.size.ensures.size) in
    on_ok_weaker c.add_bad.result
    (λ _. c.in_ok-extend_from_slice.ensures.items
    ∙ ap (λ (l : List ℕ). c.args.bytes.now.items ++ l) (ap (λ (n : ℕ). take n c.read_data.new.page) count ∙ c.in_ok-is_bad.ensures.bytes))
    c.add_bad.ensures
