-- The numbers of the card's protocol (JEDEC eMMC standard JESD84-B51, 6.6.22): the tables of requests and responses and
-- the table of results. All of the card's and the host's definitions stand on these, and the constants of the code are
-- compared with them by the proofs.
use Rattle.std.specs.Prelude.{ℕ}

-- kinds of requests
abbrev pub program_key_kind : ℕ
program_key_kind = 0x0001

abbrev pub read_counter_kind : ℕ
read_counter_kind = 0x0002

abbrev pub write_block_kind : ℕ
write_block_kind = 0x0003

abbrev pub read_block_kind : ℕ
read_block_kind = 0x0004

abbrev pub read_result_kind : ℕ
read_result_kind = 0x0005

-- kinds of responses
abbrev pub key_programmed_kind : ℕ
key_programmed_kind = 0x0100

abbrev pub counter_read_kind : ℕ
counter_read_kind = 0x0200

abbrev pub block_written_kind : ℕ
block_written_kind = 0x0300

abbrev pub block_read_kind : ℕ
block_read_kind = 0x0400

-- results. The standard's 6, a failure of a read, is one that this card never gives.
abbrev pub done_result : ℕ
done_result = 0

abbrev pub general_failure : ℕ
general_failure = 1

abbrev pub authentication_failure : ℕ
authentication_failure = 2

abbrev pub counter_failure : ℕ
counter_failure = 3

abbrev pub address_failure : ℕ
address_failure = 4

abbrev pub write_failure : ℕ
write_failure = 5

abbrev pub key_not_programmed : ℕ
key_not_programmed = 7

-- the bit of a result that says that the write counter has reached its end
abbrev pub counter_expired : ℕ
counter_expired = 0x80

-- the bits of a result without that one: its low seven bits
abbrev pub result_bits : ℕ
result_bits = 0x7f

-- the last value of the write counter
abbrev pub last_counter : ℕ
last_counter = 0xffffffff
