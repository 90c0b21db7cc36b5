-- The devices of a store, and what is presumed of them: the files are honest, and the card has our key.
use Rattle.hmac_keys.specs.declared.Keys.{Keys}
use Rattle.hmac_keys.specs.KeyTable.{rpmb_key}
use Rattle.rpmb_host.specs.Honest.{HadCard}
pub use Rattle.run_acts.specs.Benches.{BenchState, IsWhole}
pub use Rattle.run_acts.specs.Untainted.{AreUntainted}

-- Who trusts his devices presumes this: nothing but the calls of the service changes a file, no mask is armed on one, and the port tells a card
-- that has our key.
pub record IsTrusted (keys : Keys) (bench : BenchState) : Type 0 where
  pub files : AreUntainted bench.files
  pub card : HadCard bench.card (rpmb_key keys.huk)
