use Rattle.std.proofs.Common.{◌∙◌, ap, string_bytes}
use Rattle.tee_store.specs.Verbs.{folder_verb, object_verb, pair_verb}
use Rattle.tee_store.proofs.WordCounts.{of_four, of_three, of_two}
use Rattle.tee_store.proofs.words.verb_of.Goals as goal

pub returns-in-len2 : goal.returns-in-len2
returns-in-len2 c =
    c.folder_verb.ensures ∙ ap folder_verb c.as_str.ensures.value ∙ of_two string_bytes c.args.words.now c.verb-item.result c.in-len2.len_at_least c.in-len2.len_below c.verb-item.is

pub returns-in-len3 : goal.returns-in-len3
returns-in-len3 c =
    let verb = c.verb-item-then-words-lt4 in
    c.object_verb.ensures ∙ ap object_verb c.as_str-in-len3.ensures.value ∙ of_three string_bytes c.args.words.now verb.result c.in-len3.len_at_least c.in-len3.len_below verb.is

pub returns-in-len4 : goal.returns-in-len4
returns-in-len4 c =
    let verb = c.verb-item-then-words-lt5 in
    c.pair_verb.ensures ∙ ap pair_verb c.as_str-in-len4.ensures.value ∙ of_four string_bytes c.args.words.now verb.result c.in-len4.len_at_least c.in-len4.len_below verb.is
