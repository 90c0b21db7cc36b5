-- What a host gets over a port that tells its card, and a card that has the host's key.
use Rattle.std.specs.Prelude.{ℕ, ◌≡◌, ◌==◌, ◌<◌, ◌+◌, not, if◌then◌else◌, nat_lt, List, [], slice_index_or, Option, Some, IfSome, Result, Ok, Err}
use Rattle.rpmb_card.specs.Protocol.{done_result, address_failure, counter_failure, write_failure, last_counter}
use Rattle.rpmb_card.specs.Card.{CardState, given_result, written}
use Rattle.rpmb_card.specs.Port.{PortState}
use Rattle.rpmb_host.specs.declared.fault.HostFault.{HostFault}
use Rattle.rpmb_host.specs.declared.fault.HostFault.TheVariants.{CardResult}
use Rattle.rpmb_host.specs.Requests.{write_fields}

-- the port tells this card, and its key is the host's
pub record HasCard (port : PortState) (key : List ℕ) (card : CardState) : Type 0 where
  pub told : port.card ≡ Some card
  pub keyed : card.key ≡ Some key

-- the port tells some card whose key is the host's
abbrev pub HadCard : PortState → (key : List ℕ) → Type 0
HadCard port key = (card : CardState) × HasCard port key card

-- what a read of a block gives
abbrev pub card_block : CardState → ℕ → Result (List ℕ) HostFault
card_block card address =
    if nat_lt 255 address then Err (CardResult (given_result card.counter address_failure))
    else Ok (slice_index_or card.blocks address [])

-- the card's result of a write
abbrev pub write_end : CardState → (address counter : ℕ) → ℕ
write_end card address counter =
    if card.counter == last_counter then write_failure
    else if nat_lt 255 address then address_failure
    else if not (counter == card.counter) then counter_failure
    else done_result

-- what a write gives
abbrev pub card_write : CardState → (address counter : ℕ) → Result ℕ HostFault
card_write card address counter =
    if write_end card address counter == done_result then Ok (counter + 1)
    else Err (CardResult (given_result card.counter (write_end card address counter)))

-- the card after a write
abbrev pub written_card : CardState → (address counter : ℕ) (block : List ℕ) → CardState
written_card card address counter block = written card (write_fields address counter block) (write_end card address counter)

-- a write was done: its block stands at its address, and the counter rose by one, to what was told
pub record IsWritten (old : CardState) (new : Option CardState) (address counter : ℕ) (block : List ℕ) (next : ℕ) : Type 0 where
  pub within : address < 256
  pub current : counter ≡ old.counter
  pub rose : next ≡ counter + 1
  pub stands : IfSome new (λ card. slice_index_or card.blocks address [] ≡ block)
  pub counted : IfSome new (λ card. card.counter ≡ next)
