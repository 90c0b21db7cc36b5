-- How a number is printed with three digits.
use Rattle.std.proofs.Common.{◌≡◌, ◌∙◌, ap, ℕ, ◌-◌, ◌^◌, List, [], ◌++◌, replicate, length, decimal, append-nil, arith}
use Rattle.std.specs.Fmt.{char_count, format_spec, padded_integral, styled_decimal}
use Rattle.host_folder.specs.Folder.{three_digits}

pub padded_by_zeros : (number : ℕ) → styled_decimal (format_spec 32 0 4 3 (2 ^ 64 - 1)) number ≡ three_digits number
unfolding padded_integral char_count
padded_by_zeros number =
    let digits : List ℕ = decimal number in
    let zeros : 3 - length digits - 0 - 0 ≡ 3 - length digits = omega arith in
    ap (λ (n : ℕ). replicate n 48 ++ (digits ++ [])) zeros
    ∙ ap (λ (d : List ℕ). replicate (3 - length digits) 48 ++ d) (append-nil digits)
