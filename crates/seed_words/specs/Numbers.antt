-- The number of a soak, as a word.
use Rattle.std.specs.Prelude.{ℕ, ◌^◌, ◌&&◌, List, length, nat_le, nat_lt, if◌then◌else◌, Option, Some, None}
use Rattle.std.specs.List.{list_all}
use Rattle.std.specs.Str.Parse.{digits_value}
use Rattle.script_text.specs.Words.{is_digit}

-- N: 1 to 10 decimal digits, of a number below 2 ^ 32; zeros may lead
abbrev pub soak_number_of : List ℕ → Option ℕ
soak_number_of word =
    if nat_le 1 (length word) && nat_le (length word) 10 && list_all is_digit word && nat_lt (digits_value 10 word) (2 ^ 32)
    then Some (digits_value 10 word)
    else None
