use Rattle.std.proofs.Common.{◌≡◌, ◌<◌, ◌==◌, ◌||◌, ℕ, Bool, true, get_or, length, ap, sym, ◌∙◌, inl, inr, arith}
use Rattle.std.specs.List.{list_any, range_with_len}
use Rattle.std.specs.Prelude.{slice_set}
use Rattle.std.proofs.lemmas.Bool.{cases_lt}
use Rattle.std.proofs.lemmas.List.{length-set}
use Rattle.card_maps.specs.Form.{data_blocks, number_at, size_in}
use Rattle.card_maps.specs.Tables.{is_fresh}
use Rattle.card_maps.proofs.Faults.{fresh_by, fresh_found, fresh_none, used_more}
use Rattle.card_maps.proofs.Lists.{any_map}
use Rattle.card_maps.proofs.form.use_numbers.Goals as goal

pub returns-then-not-is_free_number-clause-fault : goal.returns-then-not-is_free_number-clause-fault
returns-then-not-is_free_number-clause-fault c =
    let low : number_at c.args.block.now c.loop-i.i < 256 = c.is_free_number.ensures.small in
    let count : c.data_blocks-i-end.result ≡ data_blocks (size_in c.args.block.now) = c.data_blocks-i-end.ensures ∙ ap data_blocks c.size_in.ensures in
    sym (fresh_found (λ d. get_or c.args.used.now d true) c.args.block.now c.loop-i.i (omega (arith, count)) c.loop-i.invariant.0
    (fresh_by (λ d. get_or c.args.used.now d true) c.args.block.now c.loop-i.i (get_or c.loop-i.used (number_at c.args.block.now c.loop-i.i) true) (c.loop-i.invariant.1 (number_at c.args.block.now c.loop-i.i) low)
    ∙ sym c.is_free_number.ensures.value ∙ c.if-not-is_free_number.true))

pub loop-i-preserved : goal.loop-i-preserved
loop-i-preserved c =
    let low : number_at c.args.block.now c.loop-i.i < 256 = c.is_free_number.ensures.small in (
      (λ k lt. elim (cases_lt k c.loop-i.i) [
        | inl below ↦ c.loop-i.invariant.0 k below
        | inr ge ↦
            let same : k ≡ c.loop-i.i = omega (arith, ge, lt) in
            ap (is_fresh (λ d. get_or c.args.used.now d true) c.args.block.now) same
            ∙ fresh_by (λ d. get_or c.args.used.now d true) c.args.block.now c.loop-i.i (get_or c.loop-i.used (number_at c.args.block.now c.loop-i.i) true) (c.loop-i.invariant.1 (number_at c.args.block.now c.loop-i.i) low)
            ∙ sym c.is_free_number.ensures.value ∙ c.if-not-is_free_number.false
      ]),
      (λ d less.
          ap (λ (k : ℕ). get_or (slice_set c.loop-i.used k true) d true) c.from.ensures
          ∙ used_more c.args.used.now c.loop-i.used c.args.block.now c.loop-i.i (omega (arith, low, c.loop-i.invariant.2)) c.loop-i.invariant.1 d less),
      length-set c.loop-i.used c.from.result true ∙ c.loop-i.invariant.2,
    )

pub returns-clause-fault : goal.returns-clause-fault
returns-clause-fault c =
    let count : c.data_blocks-i-end.result ≡ data_blocks (size_in c.args.block.now) = c.data_blocks-i-end.ensures ∙ ap data_blocks c.size_in.ensures in
    sym (fresh_none (λ d. get_or c.args.used.now d true) c.args.block.now (λ k lt. c.loop-i.invariant.0 k (omega (arith, lt, count))))

pub returns-clause-used : goal.returns-clause-used
returns-clause-used c d lt =
    let count : c.data_blocks-i-end.result ≡ data_blocks (size_in c.args.block.now) = c.data_blocks-i-end.ensures ∙ ap data_blocks c.size_in.ensures in
    let whole : c.loop-i.i ≡ data_blocks (size_in c.args.block.now) = omega (arith, count) in
    c.loop-i.invariant.1 d lt
    ∙ ap (λ (n : ℕ). get_or c.args.used.now d true || list_any (λ j. number_at c.args.block.now j == d) (range_with_len 0 n)) whole
    ∙ ap (λ (x : Bool). get_or c.args.used.now d true || x) (sym (any_map (λ e. e == d) (number_at c.args.block.now) (range_with_len 0 (data_blocks (size_in c.args.block.now)))))
