use Rattle.std.proofs.Common.{◌∙◌, ◌∷◌, [], Option, is_none, refl, ap, arith}
use Rattle.tee_types.specs.declared.reply.Reply.TheVariants.{Refused}
use Rattle.tee_types.specs.declared.reply.Code.TheVariants.{NoSpace}
use Rattle.store_model.specs.Machine.{first_refusal}
use Rattle.call_rules.specs.declared.decision.NewPlace.{NewPlace}
use Rattle.call_rules.proofs.Creating.{rows_of, named_for, create_early, create_large, create_by_place}
use Rattle.call_rules.proofs.Refusals.{create_told, create_makes}
use Rattle.call_rules.proofs.Room.{place_new}
use Rattle.call_rules.proofs.create_call.create.Goals as goal

pub returns-in-Some-clause-rows : goal.returns-in-Some-clause-rows
returns-in-Some-clause-rows g c = λ s i m.
    create_early _ _ c.args.session.now c.look-found.ensures.entries c.args.id c.look-found.result (named_for _ c.args.session.now _ _ _ c.app.ensures c.look-found.ensures.named)
    c.args.flags c.args.attributes.now c.args.bytes.now s i m c.in-Some.reply (rows_of _ _ _ _ _ _ _ _ _ c.create_refusal.ensures.rows c.len.ensures c.is_some-held.ensures c.is_busy-busy.ensures ∙ c.in-Some.is)

pub returns-in-Some-clause-told : goal.returns-in-Some-clause-told
returns-in-Some-clause-told g c = λ s i m.
    create_told s i c.args.session.now m.session c.args.id c.args.flags c.args.attributes.now c.args.bytes.now _
    (create_early _ _ c.args.session.now c.look-found.ensures.entries c.args.id c.look-found.result (named_for _ c.args.session.now _ _ _ c.app.ensures c.look-found.ensures.named)
    c.args.flags c.args.attributes.now c.args.bytes.now s i m c.in-Some.reply (rows_of _ _ _ _ _ _ _ _ _ c.create_refusal.ensures.rows c.len.ensures c.is_some-held.ensures c.is_busy-busy.ensures ∙ c.in-Some.is)) c.in-Some.ensures.refused

pub returns-then-len-gt-MAX_DATA-clause-rows : goal.returns-then-len-gt-MAX_DATA-clause-rows
returns-then-len-gt-MAX_DATA-clause-rows g c = λ s i m.
    create_large _ _ c.args.session.now c.look-found.ensures.entries c.args.id c.look-found.result (named_for _ c.args.session.now _ _ _ c.app.ensures c.look-found.ensures.named)
    c.args.flags c.args.attributes.now c.args.bytes.now s i m (rows_of _ _ _ _ _ _ _ _ _ c.create_refusal.ensures.rows c.len.ensures c.is_some-held.ensures c.is_busy-busy.ensures ∙ c.in_default.is) (omega arith)

pub returns-then-len-gt-MAX_DATA-clause-told : goal.returns-then-len-gt-MAX_DATA-clause-told
returns-then-len-gt-MAX_DATA-clause-told g c = λ s i m.
    create_told s i c.args.session.now m.session c.args.id c.args.flags c.args.attributes.now c.args.bytes.now _
    (create_large _ _ c.args.session.now c.look-found.ensures.entries c.args.id c.look-found.result (named_for _ c.args.session.now _ _ _ c.app.ensures c.look-found.ensures.named)
    c.args.flags c.args.attributes.now c.args.bytes.now s i m (rows_of _ _ _ _ _ _ _ _ _ c.create_refusal.ensures.rows c.len.ensures c.is_some-held.ensures c.is_busy-busy.ensures ∙ c.in_default.is) (omega arith)) refl

pub returns-in-Some-new_place-clause-rows : goal.returns-in-Some-new_place-clause-rows
returns-in-Some-new_place-clause-rows g c = λ s i m.
    (create_by_place _ _ c.args.session.now c.look-found.ensures.entries c.args.id c.look-found.result (named_for _ c.args.session.now _ _ _ c.app.ensures c.look-found.ensures.named)
    c.args.flags c.args.attributes.now c.args.bytes.now s i m (rows_of _ _ _ _ _ _ _ _ _ c.create_refusal.ensures.rows c.len.ensures c.is_some-held.ensures c.is_busy-busy.ensures ∙ c.in_default.is) (omega arith) c.new_place.result c.new_place.ensures) ∙ ap (λ (p : Option NewPlace). first_refusal ((is_none p, Refused NoSpace) ∷ [])) c.in-Some-new_place.is

pub returns-in-None-clause-rows : goal.returns-in-None-clause-rows
returns-in-None-clause-rows g c = λ s i m.
    (create_by_place _ _ c.args.session.now c.look-found.ensures.entries c.args.id c.look-found.result (named_for _ c.args.session.now _ _ _ c.app.ensures c.look-found.ensures.named)
    c.args.flags c.args.attributes.now c.args.bytes.now s i m (rows_of _ _ _ _ _ _ _ _ _ c.create_refusal.ensures.rows c.len.ensures c.is_some-held.ensures c.is_busy-busy.ensures ∙ c.in_default.is) (omega arith) c.new_place.result c.new_place.ensures) ∙ ap (λ (p : Option NewPlace). first_refusal ((is_none p, Refused NoSpace) ∷ [])) c.in-None.is

pub returns-in-None-clause-told : goal.returns-in-None-clause-told
returns-in-None-clause-told g c = λ s i m.
    create_told s i c.args.session.now m.session c.args.id c.args.flags c.args.attributes.now c.args.bytes.now _
    ((create_by_place _ _ c.args.session.now c.look-found.ensures.entries c.args.id c.look-found.result (named_for _ c.args.session.now _ _ _ c.app.ensures c.look-found.ensures.named)
    c.args.flags c.args.attributes.now c.args.bytes.now s i m (rows_of _ _ _ _ _ _ _ _ _ c.create_refusal.ensures.rows c.len.ensures c.is_some-held.ensures c.is_busy-busy.ensures ∙ c.in_default.is) (omega arith) c.new_place.result c.new_place.ensures) ∙ ap (λ (p : Option NewPlace). first_refusal ((is_none p, Refused NoSpace) ∷ [])) c.in-None.is) refl

pub returns-in-Some-new_place-clause-place : goal.returns-in-Some-new_place-clause-place
returns-in-Some-new_place-clause-place g c = place_new _ _ c.look-found.result c.in-Some-new_place.place (named_for _ c.args.session.now _ _ _ c.app.ensures c.look-found.ensures.named)
    c.in-Some-new_place.ensures

pub returns-in-Some-new_place-clause-makes : goal.returns-in-Some-new_place-clause-makes
returns-in-Some-new_place-clause-makes g c = λ s i m.
    create_makes s i c.args.session.now m.session c.args.id c.args.flags c.args.attributes.now c.args.bytes.now
    ((create_by_place _ _ c.args.session.now c.look-found.ensures.entries c.args.id c.look-found.result (named_for _ c.args.session.now _ _ _ c.app.ensures c.look-found.ensures.named)
    c.args.flags c.args.attributes.now c.args.bytes.now s i m (rows_of _ _ _ _ _ _ _ _ _ c.create_refusal.ensures.rows c.len.ensures c.is_some-held.ensures c.is_busy-busy.ensures ∙ c.in_default.is) (omega arith) c.new_place.result c.new_place.ensures) ∙ ap (λ (p : Option NewPlace). first_refusal ((is_none p, Refused NoSpace) ∷ [])) c.in-Some-new_place.is)
