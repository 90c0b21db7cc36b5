-- The examples of FIPS 197, computed from the definitions alone.
use Rattle.std.proofs.Common.{◌≡◌, ℕ, ◌-◌, ◌/◌, ◌%◌, ◌^◌, List, [], ◌∷◌, refl, map}
use Rattle.std.specs.List.{range_with_len}
use Rattle.aes_block.specs.Cipher.{add_round_key, cipher, mix_columns, rounds, shift_rows, sub_bytes}
use Rattle.aes_block.specs.Field.{field_times, inverse, inverse_below, polynomial_times, remainder}
use Rattle.aes_block.specs.InverseCipher.{inv_cipher, inv_mix_columns, inv_rounds, inv_shift_rows, inv_sub_bytes}
use Rattle.aes_block.specs.KeySchedule.{round_key, schedule}
use Rattle.aes_block.specs.SBox.{from_bits_of, inv_s_box, s_box}

-- 4.2: {57} times {83}
product : field_times 0x57 0x83 ≡ 0xc1
unfolding polynomial_times remainder field_times
product = refl

-- 5.1.1: the S-box at 00, 01 and 53
substitutions : map s_box (0x00 ∷ 0x01 ∷ 0x53 ∷ []) ≡ 0x63 ∷ 0x7c ∷ 0xed ∷ []
unfolding polynomial_times remainder field_times inverse_below inverse from_bits_of s_box
substitutions = refl

-- the 16 bytes of a number, the greatest first
abbrev block : ℕ → List ℕ
block n = map (λ i. n / 256 ^ (15 - i) % 256) (range_with_len 0 16)

-- appendix A.1: the keys of rounds 0 to 10
expansion : map (round_key (block 0x2b7e151628aed2a6abf7158809cf4f3c)) (range_with_len 0 11)
    ≡ block 0x2b7e151628aed2a6abf7158809cf4f3c ∷ block 0xa0fafe1788542cb123a339392a6c7605
    ∷ block 0xf2c295f27a96b9435935807a7359f67f ∷ block 0x3d80477d4716fe3e1e237e446d7a883b
    ∷ block 0xef44a541a8525b7fb671253bdb0bad00 ∷ block 0xd4d1c6f87c839d87caf2b8bc11f915bc
    ∷ block 0x6d88a37a110b3efddbf98641ca0093fd ∷ block 0x4e54f70e5f5fc9f384a64fb24ea6dc4f
    ∷ block 0xead27321b58dbad2312bf5607f8d292f ∷ block 0xac7766f319fadc2128d12941575c006e
    ∷ block 0xd014f9a8c9ee2589e13f0cc8b6630ca6 ∷ []
unfolding polynomial_times remainder field_times inverse_below inverse from_bits_of s_box schedule round_key
expansion = refl

-- appendix B: the state at the start of rounds 1 to 10, and the output
example : map (rounds (block 0x2b7e151628aed2a6abf7158809cf4f3c) (block 0x3243f6a8885a308d313198a2e0370734)) (range_with_len 0 10)
    ≡ block 0x193de3bea0f4e22b9ac68d2ae9f84808 ∷ block 0xa49c7ff2689f352b6b5bea43026a5049
    ∷ block 0xaa8f5f0361dde3ef82d24ad26832469a ∷ block 0x486c4eee671d9d0d4de3b138d65f58e7
    ∷ block 0xe0927fe8c86363c0d9b1355085b8be01 ∷ block 0xf1006f55c1924cef7cc88b325db5d50c
    ∷ block 0x260e2e173d41b77de86472a9fdd28b25 ∷ block 0x5a4142b11949dc1fa3e019657a8c040c
    ∷ block 0xea835cf00445332d655d98ad8596b0c5 ∷ block 0xeb40f21e592e38848ba113e71bc342d2 ∷ []
unfolding polynomial_times remainder field_times inverse_below inverse from_bits_of s_box sub_bytes shift_rows mix_columns add_round_key schedule round_key rounds
example = refl

example-output : cipher (block 0x2b7e151628aed2a6abf7158809cf4f3c) (block 0x3243f6a8885a308d313198a2e0370734)
    ≡ block 0x3925841d02dc09fbdc118597196a0b32
unfolding polynomial_times remainder field_times inverse_below inverse from_bits_of s_box sub_bytes shift_rows mix_columns add_round_key schedule round_key rounds cipher
example-output = refl

-- appendix C.1, enciphered and deciphered
one_block : cipher (block 0x000102030405060708090a0b0c0d0e0f) (block 0x00112233445566778899aabbccddeeff)
    ≡ block 0x69c4e0d86a7b0430d8cdb78070b4c55a
unfolding polynomial_times remainder field_times inverse_below inverse from_bits_of s_box sub_bytes shift_rows mix_columns add_round_key schedule round_key rounds cipher
one_block = refl

one_block-inverse : inv_cipher (block 0x000102030405060708090a0b0c0d0e0f) (block 0x69c4e0d86a7b0430d8cdb78070b4c55a)
    ≡ block 0x00112233445566778899aabbccddeeff
unfolding polynomial_times remainder field_times inverse_below inverse from_bits_of s_box inv_s_box inv_sub_bytes inv_shift_rows inv_mix_columns add_round_key schedule round_key inv_rounds inv_cipher
one_block-inverse = refl
