use Rattle.dir_file.proofs.Parsing.{double_else, double_then}
use Rattle.dir_file.proofs.records.is_double.Goals as goal

pub returns-then-has_name : goal.returns-then-has_name
returns-then-has_name c =
    double_then c.args.a.now c.args.b.now c.in-Some-Some.a c.in-Some-Some.b c.has_name.result (cc (c.in-Some-Some.is-0)) (cc (c.in-Some-Some.is-1)) c.has_name.ensures c.if-has_name.true

pub returns-else-has_name : goal.returns-else-has_name
returns-else-has_name c =
    double_else c.args.a.now c.args.b.now c.in-Some-Some.a c.in-Some-Some.b c.has_name.result (cc (c.in-Some-Some.is-0)) (cc (c.in-Some-Some.is-1)) c.has_name.ensures c.if-has_name.false
