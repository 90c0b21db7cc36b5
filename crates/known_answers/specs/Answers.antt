-- The lines that answer the questions.
use Rattle.std.specs.Prelude.{ℕ, ◌≡◌, ◌≢◌, List, [], ◌∷◌, ◌++◌, codes, map}
use Rattle.std.specs.Int.{w16, w32, w128, from_be_bytes, to_be_bytes}
use Rattle.aes_block.specs.Cipher.{cipher}
use Rattle.aes_block.specs.InverseCipher.{inv_cipher}
use Rattle.aes_block.specs.WrappedKey.{wrapped_of, unwrapped_of}
use Rattle.ghash_field.specs.Ghash.{ghash}
use Rattle.gcm_mode.specs.Gcm.{gcm_text, gcm_tag}
use Rattle.hmac_keys.specs.Hmac.{hmac}
use Rattle.hmac_keys.specs.KeyTable.{ssk, tsk, dir_tsk, rpmb_key}
use Rattle.rpmb_frame.specs.declared.frame.Frame.{Frame}
use Rattle.rpmb_frame.specs.Layout.{frame_of}
use Rattle.rpmb_frame.specs.Authentication.{mac_of}
use Rattle.rpmb_card.specs.Card.{CardState, blank, card_after, card_answer}
use Rattle.known_answers.specs.Lines.{hex_word, two_words, spaced}
use Rattle.known_answers.specs.Trees.{tree_line, IsMadeLine}
use Rattle.known_answers.specs.Entries.{entry_line}
use Rattle.known_answers.specs.Objects.{object_line}
use Rattle.known_answers.specs.declared.questions.Parts.{Parts}
use Rattle.known_answers.specs.declared.questions.Question.{Question}
use Rattle.known_answers.specs.declared.questions.Question.TheVariants.{Aes, AesInverse, Ghash, GcmSeal, GcmOpen, Hmac, Ssk, Tsk, DirTsk, RpmbKey, Wrap, Unwrap, FrameMac, FrameFields, Card, Worn, Tree, TreeMake, Entry, Object}

-- the fields of a frame, in their order
abbrev pub fields_line : Frame → List ℕ
fields_line f =
    spaced (f.stuff ∷ f.key_or_mac ∷ f.block ∷ f.nonce ∷ to_be_bytes w32 f.counter ∷ to_be_bytes w16 f.address
    ∷ to_be_bytes w16 f.count ∷ to_be_bytes w16 f.result ∷ to_be_bytes w16 f.kind ∷ [])

-- what a card answers to one frame after the other
abbrev pub card_answers : CardState → List (List ℕ) → List (List ℕ)
card_answers card [] = []
card_answers card (frame ∷ frames) = card_answer card frame ∷ card_answers (card_after card frame) frames

-- a blank card whose counter was moved on
abbrev pub worn_card : ℕ → CardState
worn_card counter = record blank { counter = counter }

-- GHASH of blocks, all as bytes
abbrev pub ghash_of : List ℕ → List (List ℕ) → List ℕ
ghash_of subkey blocks = to_be_bytes w128 (ghash (from_be_bytes w128 subkey) (map (from_be_bytes w128) blocks))

-- the ciphertext and the tag
abbrev pub sealed_line : Parts → List ℕ
sealed_line p =
    let ciphertext = gcm_text (cipher p.key) p.iv.items p.text.items in
    two_words ciphertext (gcm_tag (cipher p.key) p.iv.items p.aad.items ciphertext)

-- the plaintext where the tag is right, and else both tags
abbrev pub IsOpenedLine : Parts → List ℕ → List ℕ → Type 0
IsOpenedLine p tag line =
    let found = gcm_tag (cipher p.key) p.iv.items p.aad.items p.text.items in
    (tag ≡ found → line ≡ hex_word (gcm_text (cipher p.key) p.iv.items p.text.items))
    × (tag ≢ found → line ≡ codes "bad-tag " ++ two_words tag found)

-- the line answers the question
abbrev pub IsAnswer : Question → List ℕ → Type 0
IsAnswer (Aes key block) line = line ≡ hex_word (cipher key block)
IsAnswer (AesInverse key block) line = line ≡ hex_word (inv_cipher key block)
IsAnswer (Ghash subkey blocks) line = line ≡ hex_word (ghash_of subkey blocks.items)
IsAnswer (GcmSeal parts) line = line ≡ sealed_line parts
IsAnswer (GcmOpen parts tag) line = IsOpenedLine parts tag line
IsAnswer (Hmac key text) line = line ≡ hex_word (hmac key.bytes.items text.bytes.items)
IsAnswer (Ssk huk chip) line = line ≡ hex_word (ssk huk chip)
IsAnswer (Tsk ssk app) line = line ≡ hex_word (tsk ssk app)
IsAnswer (DirTsk ssk) line = line ≡ hex_word (dir_tsk ssk)
IsAnswer (RpmbKey huk) line = line ≡ hex_word (rpmb_key huk)
IsAnswer (Wrap tsk fek) line = line ≡ hex_word (wrapped_of tsk fek)
IsAnswer (Unwrap tsk wrapped) line = line ≡ hex_word (unwrapped_of tsk wrapped)
IsAnswer (FrameMac key frame) line = line ≡ hex_word (mac_of key frame)
IsAnswer (FrameFields frame) line = line ≡ fields_line (frame_of frame)
IsAnswer (Card first rest) line = line ≡ spaced (card_answers blank (first ∷ rest.items))
IsAnswer (Worn card) line = line ≡ spaced (card_answers (worn_card card.counter) (card.first ∷ card.rest.items))
IsAnswer (Tree tree) line = line ≡ tree_line tree
IsAnswer (TreeMake tree) line = IsMadeLine tree line
IsAnswer (Entry bytes) line = line ≡ entry_line bytes
IsAnswer (Object object) line = line ≡ object_line object
