-- A run through several lines of a script of the card.
use Rattle.std.proofs.Common.{◌≡◌, ◌+◌, ◌<◌, ℕ, suc, List, [], ◌∷◌, ◌++◌, length, take, drop, get_or, Option, refl, sym, ap, subst, ◌∙◌, append_assoc, arith}
use Rattle.std.proofs.lemmas.List.{append-nil, drop_more, length-take-le, take_more}
use Rattle.tee_ports.proofs.Streams.{Appends-none}
use Rattle.card_script.specs.declared.card_line.CardLine.{CardLine}
use Rattle.rpmb_files.specs.Stores.{StoreState}
use Rattle.script_runner.specs.Sending.{Sends}
use Rattle.script_runner.specs.CardRecords.{CardRecord, lines_text, record_text}
use Rattle.script_runner.specs.CardSteps.{DoesLine, GoesThrough}
use Rattle.script_runner.proofs.Sent.{Sends-append}

module _ (Reliable : Type 0) where
  -- one more line at the end
  pub GoesThrough-push : (lines : List CardLine) (records : List CardRecord) (line : CardLine) (done : CardRecord) (old between new : StoreState)
      → GoesThrough Reliable lines records old between → DoesLine Reliable line done between new → GoesThrough Reliable (lines ++ line ∷ []) (records ++ done ∷ []) old new
  unfolding GoesThrough
  GoesThrough-push [] [] line done old between new same does = (new, subst (λ s. DoesLine Reliable line done s new) same does, refl)
  GoesThrough-push [] (r ∷ records) line done old between new goes does = absurd goes
  GoesThrough-push (l ∷ lines) [] line done old between new goes does = absurd goes
  GoesThrough-push (l ∷ lines) (r ∷ records) line done old between new goes does =
      (goes.0, goes.1, GoesThrough-push lines records line done goes.0 between new goes.2 does)

  -- each line has a record
  pub GoesThrough-length : (lines : List CardLine) (records : List CardRecord) (old new : StoreState) → GoesThrough Reliable lines records old new → length records ≡ length lines
  unfolding GoesThrough
  GoesThrough-length [] [] old new goes = refl
  GoesThrough-length [] (r ∷ records) old new goes = absurd goes
  GoesThrough-length (l ∷ lines) [] old new goes = absurd goes
  GoesThrough-length (l ∷ lines) (r ∷ records) old new goes = ap suc (GoesThrough-length lines records goes.0 new goes.2)

-- the text of one more line
pub lines_text-push : (place : ℕ) (lines : List CardLine) (records : List CardRecord) (line : CardLine) (done : CardRecord) → length records ≡ length lines
    → lines_text place (lines ++ line ∷ []) (records ++ done ∷ []) ≡ lines_text place lines records ++ record_text (place + length lines) line done
unfolding lines_text
lines_text-push place [] [] line done same =
    let here : place ≡ place + 0 = omega arith in append-nil (record_text place line done) ∙ ap (λ p. record_text p line done) here
lines_text-push place [] (r ∷ records) line done same = absurd (omega (arith, same))
lines_text-push place (l ∷ lines) [] line done same = absurd (omega (arith, same))
lines_text-push place (l ∷ lines) (r ∷ records) line done same =
    let there : place + 1 + length lines ≡ place + suc (length lines) = omega arith in
    ap (λ t. record_text place l r ++ t) (lines_text-push (place + 1) lines records line done (omega (arith, same)))
    ∙ sym (append_assoc (record_text place l r) (lines_text (place + 1) lines records) _)
    ∙ ap (λ p. (record_text place l r ++ lines_text (place + 1) lines records) ++ record_text p line done) there

-- lines without a record have no text
pub lines_text-front : (place : ℕ) (lines more : List CardLine) (records : List CardRecord) → length records ≡ length lines → lines_text place (lines ++ more) records ≡ lines_text place lines records
unfolding lines_text
lines_text-front place [] [] [] same = refl
lines_text-front place [] (m ∷ more) [] same = refl
lines_text-front place [] more (r ∷ records) same = absurd (omega (arith, same))
lines_text-front place (l ∷ lines) more [] same = absurd (omega (arith, same))
lines_text-front place (l ∷ lines) more (r ∷ records) same = ap (λ t. record_text place l r ++ t) (lines_text-front (place + 1) lines more records (omega (arith, same)))

-- The first lines of a script were done, and their text was put or is kept.
pub record LinesDone (Reliable : Type 0) (lines : List CardLine) (held_old held : Option (List ℕ)) (first now : StoreState) (at : ℕ) (kept : List ℕ) : Type 0 where
  pub records : List CardRecord
  pub goes : GoesThrough Reliable (take at lines) records first now
  pub sends : Sends held_old held [] kept (lines_text 0 (take at lines) records)

pub LinesDone-none : (Reliable : Type 0) (lines : List CardLine) (held : Option (List ℕ)) (first : StoreState) (at : ℕ) (kept : List ℕ) → at ≡ 0 → kept ≡ [] → LinesDone Reliable lines held held first first at kept
unfolding GoesThrough lines_text
LinesDone-none Reliable lines held first at kept none nothing = subst (λ n. LinesDone Reliable lines held held first first n kept) (sym none) (record {
  records = [];
  goes = refl;
  sends = ([], Appends-none held, sym nothing);
})

module _ (Reliable : Type 0) (lines : List CardLine) (held_old held held_new : Option (List ℕ)) (first now next : StoreState) (at : ℕ) (kept : List ℕ) (line : CardLine) (within : at < length lines) (is : line ≡ get_or lines at line) (so_far : LinesDone Reliable lines held_old held first now at kept) where
  length-records : length so_far.records ≡ at
  length-records = GoesThrough-length Reliable (take at lines) so_far.records first now so_far.goes ∙ length-take-le at lines (omega arith)

  grown : take (at + 1) lines ≡ take at lines ++ line ∷ []
  grown = take_more lines at line within ∙ ap (λ l. take at lines ++ l ∷ []) (sym is)

  pub rest : drop at lines ≡ line ∷ drop (at + 1) lines
  rest = drop_more lines at line within ∙ ap (λ l. l ∷ drop (at + 1) lines) (sym is)

  pub goes-more : (done : CardRecord) → DoesLine Reliable line done now next → GoesThrough Reliable (take (at + 1) lines) (so_far.records ++ done ∷ []) first next
  goes-more done does = subst (λ ls. GoesThrough Reliable ls (so_far.records ++ done ∷ []) first next) (sym grown) (GoesThrough-push Reliable (take at lines) so_far.records line done first now next so_far.goes does)

  pub text-more : (done : CardRecord) → lines_text 0 (take (at + 1) lines) (so_far.records ++ done ∷ []) ≡ lines_text 0 (take at lines) so_far.records ++ record_text at line done
  text-more done =
      let long : length (take at lines) ≡ at = length-take-le at lines (omega arith) in
      let place : 0 + length (take at lines) ≡ at = omega (arith, long) in
      ap (λ ls. lines_text 0 ls (so_far.records ++ done ∷ [])) grown
      ∙ lines_text-push 0 (take at lines) so_far.records line done (length-records ∙ sym long)
      ∙ ap (λ p. lines_text 0 (take at lines) so_far.records ++ record_text p line done) place

  pub LinesDone-more : (done : CardRecord) (kept_new : List ℕ) (after : ℕ) → DoesLine Reliable line done now next → Sends held held_new kept kept_new (record_text at line done) → after ≡ at + 1 → LinesDone Reliable lines held_old held_new first next after kept_new
  LinesDone-more done kept_new after does sends is_after = subst (λ n. LinesDone Reliable lines held_old held_new first next n kept_new) (sym is_after) (record {
    records = so_far.records ++ done ∷ [];
    goes = goes-more done does;
    sends = subst (Sends held_old held_new [] kept_new) (sym (text-more done)) (Sends-append held_old held held_new [] kept kept_new _ _ so_far.sends sends);
  })
