use Rattle.std.proofs.Common.{ap, ◌∙◌, ℕ, List, ◌++◌, codes}
use Rattle.std.specs.Fmt.{styled_decimal}
use Rattle.host_folder.proofs.Digits.{padded_by_zeros}
use Rattle.host_folder.proofs.names.file_name.Goals as goal

pub returns : goal.returns
returns c =
    let digits = ap (λ s. styled_decimal s c.args.number) c.laid_out.ensures ∙ padded_by_zeros c.args.number in
    c.in_ok-format.ensures.ok ∙ ap (λ (d : List ℕ). c.args.folder.now ++ (codes "/" ++ (d ++ codes ".bin"))) digits
