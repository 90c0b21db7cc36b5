use Rattle.std.proofs.Common.{ℕ, ◌<◌, List, take, get_or, inl, inr, subst, sym, ap, ◌∙◌, arith}
use Rattle.std.proofs.lemmas.Bool.{cases_lt}
use Rattle.std.proofs.lemmas.List.{get_or-take, get_or_past, length-take}
use Rattle.aes_block.specs.InverseCipher.{inv_cipher}
use Rattle.aes_block.specs.WrappedKey.{wrapping_key}
use Rattle.aes_block.proofs.Deciphering.{deciphered}
use Rattle.htree_file.proofs.tree.new_head.Goals as goal

front_bytes : (bytes : List ℕ) (n : ℕ) → ((k : ℕ) → get_or bytes k 0 < 256) → (k : ℕ) → get_or (take n bytes) k 0 < 256
front_bytes bytes n low k = elim (cases_lt k n) [
  | inl within ↦ subst (λ (x : ℕ). x < 256) (sym (get_or-take n bytes k 0 within)) (low k)
  | inr past ↦ subst (λ (x : ℕ). x < 256) (sym (get_or_past (take n bytes) k 0 (omega (arith, length-take n bytes, past)))) (omega arith)
]

pub returns-clause-wrapped : goal.returns-clause-wrapped
returns-clause-wrapped c =
    ap (inv_cipher (wrapping_key c.args.wrap.now)) c.wrap-wrapped.ensures
    ∙ deciphered (wrapping_key c.args.wrap.now) c.args.fek.now (front_bytes c.args.wrap.now 16 c.fits-wrap) c.fits-fek c.told-fek
