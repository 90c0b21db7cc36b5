use Rattle.std.proofs.Common.{◌≡◌, ℕ, ◌≤◌, List, ◌++◌, length, drop, ap, ◌∙◌, arith}
use Rattle.std.proofs.lemmas.List.{append-nil, take_at, drop_at, drop_all}
use borrow.Rule.Slice.PartMut.{put_mid}
use Rattle.host_card.proofs.kept_card.twice.Goals as goal

-- the rest of a list, written after the first part of it
rest_written : (first rest zeros : List ℕ) (n m : ℕ) → length first ≡ n → length zeros ≤ m → put_mid n m (first ++ zeros) rest ≡ first ++ rest
rest_written first rest zeros n m at all =
    (λ i. take_at first zeros n at i ++ (rest ++ (ap (drop m) (drop_at first zeros n at) ∙ drop_all m zeros all) i))
    ∙ ap (λ z. first ++ z) (append-nil rest)

pub returns : goal.returns
returns c =
    rest_written _ _ _ 512 512 c.copy_from_slice.ensures.len (omega arith)
    ∙ (λ i. c.copy_from_slice.ensures.after i ++ c.copy_from_slice-2.ensures.after i)
