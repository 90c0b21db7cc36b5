use Rattle.htree_file.specs.Changes.{changes_of}
use Rattle.std.proofs.Common.{arith}
use Rattle.htree_file.proofs.ChangeLists.{apart_of, few_of}
use Rattle.htree_file.proofs.staging.NewVersion.of_pages.Goals as goal

pub returns-clause-fits : goal.returns-clause-fits
returns-clause-fits c =
    let apart = apart_of c.args.before c.args.head.now.greatest (changes_of c.args.pages) c.requires.changes in
    let few = few_of c.args.head.now.greatest (changes_of c.args.pages) apart in
    record {
      few = (omega arith, omega arith);
      bits = (omega arith, omega arith);
      sized = c.requires.sized;
      changes = c.requires.changes;
      apart = apart;
      fits = omega (arith, few);
      closed = c.of_pages-set.ensures.closed;
      budget = c.of_pages-set.ensures.budget;
    }
