use Rattle.std.proofs.Common.{◌≡◌, false, arith, ◌∙◌, Option, sym, subst}
use Rattle.store_model.specs.Name.{name_eq}
use Rattle.dir_records.specs.declared.entry.DirEntry.{DirEntry}
use Rattle.crash_core.specs.Entries.{name_of}
use Rattle.store_commit.specs.NameIndex.{PutsName, name_added}
use Rattle.store_commit.proofs.NameIndexes.{equal_is, not_not, not_true, other_still, same_added, put_free, put_other, put_same}
use Rattle.store_commit.proofs.names.put_name.Goals as goal

pub returns-then-ne-clause-names : goal.returns-then-ne-clause-names
returns-then-ne-clause-names c =
    subst (λ (b : Option DirEntry). PutsName c.args.index.now c.add_name.new.index b c.args.place c.args.entry.now) (sym c.in-Some.is)
    (put_other c.args.index.now c.forget_name.new.index c.add_name.new.index c.args.place c.in-Some.old c.args.entry.now c.forget_name.ensures.names c.add_name.ensures.names)

pub returns-else-ne-clause-names : goal.returns-else-ne-clause-names
returns-else-ne-clause-names c =
    subst (λ (b : Option DirEntry). PutsName c.args.index.now c.args.index.now b c.args.place c.args.entry.now) (sym c.in-Some.is)
    (put_same c.args.index.now c.args.place c.in-Some.old c.args.entry.now
    (sym c.name_of.ensures ∙ equal_is c.name_of.result c.name_of-in-Some.result (not_not (name_eq c.name_of.result c.name_of-in-Some.result) c.if-ne.ensures) ∙ c.name_of-in-Some.ensures))

pub returns-in-None-clause-names : goal.returns-in-None-clause-names
returns-in-None-clause-names c =
    subst (λ (b : Option DirEntry). PutsName c.args.index.now c.add_name-in-None.new.index b c.args.place c.args.entry.now) (sym c.in-None.is)
    (put_free c.args.index.now c.add_name-in-None.new.index c.args.place c.args.entry.now c.add_name-in-None.ensures.names)

pub add_name-requires : goal.add_name-requires
add_name-requires c =
    let s = c.args.index.now in
    let m = c.forget_name.new.index in
    let new = c.args.entry.now in
    let unlike : name_eq (name_of c.in-Some.old) (name_of new) ≡ false =
    sym (λ i. name_eq (c.name_of.ensures i) (c.name_of-in-Some.ensures i)) ∙ not_true (name_eq c.name_of.result c.name_of-in-Some.result) c.if-ne.ensures in
    let same : name_added m new ≡ name_added s new = same_added s m new (other_still s m c.in-Some.old new unlike c.forget_name.ensures.names) in
    record { room = omega (arith, same, c.requires.room, c.forget_name.ensures.room) }

pub returns-then-ne-clause-room : goal.returns-then-ne-clause-room
returns-then-ne-clause-room c =
    let s = c.args.index.now in
    let m = c.forget_name.new.index in
    let new = c.args.entry.now in
    let unlike : name_eq (name_of c.in-Some.old) (name_of new) ≡ false =
    sym (λ i. name_eq (c.name_of.ensures i) (c.name_of-in-Some.ensures i)) ∙ not_true (name_eq c.name_of.result c.name_of-in-Some.result) c.if-ne.ensures in
    let same : name_added m new ≡ name_added s new = same_added s m new (other_still s m c.in-Some.old new unlike c.forget_name.ensures.names) in
    omega (arith, same, c.forget_name.ensures.room, c.add_name.ensures.room)
