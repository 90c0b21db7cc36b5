use Rattle.std.proofs.Common.{rules}
use Rattle.std.proofs.lemmas.List.Sorted.{answers_always}
use Rattle.enumerators.proofs.Searches.{searched}
use Rattle.enumerators.proofs.places.search.Goals as goal

-- the closure gives an entry's number
pub returns-clause-found : goal.returns-clause-found
returns-clause-found g c =
    let facts = c.binary_search_by_key.ensures in
    let by_number = facts.position (λ e. e.0) (answers_always _ _ _ (λ f a r g called. search rules)) in
    (searched c.args.number c.args.entries.now c.requires c.binary_search_by_key.result facts.bound by_number).place

pub returns-clause-none : goal.returns-clause-none
returns-clause-none g c =
    let facts = c.binary_search_by_key.ensures in
    let by_number = facts.position (λ e. e.0) (answers_always _ _ _ (λ f a r g called. search rules)) in
    (searched c.args.number c.args.entries.now c.requires c.binary_search_by_key.result facts.bound by_number).none
