-- Which question the words of a line ask.
use Rattle.std.specs.Prelude.{ℕ, ◌≡◌, ◌<◌, List, [], ◌∷◌, codes, drop, length, slice_index_or}
use Rattle.known_answers.specs.Words.{IsArray, IsArgument, IsNumber}
use Rattle.known_answers.specs.declared.questions.Parts.{Parts}
use Rattle.known_answers.specs.declared.questions.ObjectImage.{ObjectImage}
use Rattle.known_answers.specs.declared.questions.TreeImage.{TreeImage}
use Rattle.known_answers.specs.declared.questions.TreePages.{TreePages}
use Rattle.known_answers.specs.declared.questions.WornCard.{WornCard}
use Rattle.known_answers.specs.declared.questions.Question.{Question}
use Rattle.known_answers.specs.declared.questions.Question.TheVariants.{Aes, AesInverse, Ghash, GcmSeal, GcmOpen, Hmac, Ssk, Tsk, DirTsk, RpmbKey, Wrap, Unwrap, FrameMac, FrameFields, Card, Worn, Tree, TreeMake, Entry, Object}

-- a word, by its place in the line
abbrev pub word_at : List (List ℕ) → ℕ → List ℕ
word_at words i = slice_index_or words i []

-- each word is the array at its place
abbrev pub AreArrays : List (List ℕ) → List (List ℕ) → Type 0
AreArrays words arrays =
    (length words ≡ length arrays) × ((k : ℕ) → k < length arrays → IsArray (word_at words k) (word_at arrays k))

-- the four words are the parts
unfoldable pub AreParts : List ℕ → List ℕ → List ℕ → List ℕ → Parts → Type 0
AreParts key iv aad text p =
    IsArray key p.key × IsArgument iv p.iv.items × IsArgument aad p.aad.items × IsArgument text p.text.items

-- the five words are the key, the reference and the image
unfoldable pub IsTreeImage : (tsk hash version format image : List ℕ) → TreeImage → Type 0
IsTreeImage tsk hash version format image t =
    IsArray tsk t.tsk × IsArray hash t.root.hash × IsNumber version t.root.version × IsNumber format t.root.format × IsArgument image t.image.items

-- the three words are the key, the entry and the image
unfoldable pub IsObjectImage : List ℕ → List ℕ → List ℕ → ObjectImage → Type 0
IsObjectImage tsk entry image o = IsArray tsk o.tsk × IsArray entry o.entry × IsArgument image o.image.items

-- the words are the key, the format, the length and the pages
unfoldable pub AreTreePages : (tsk format bytes : List ℕ) → List (List ℕ) → TreePages → Type 0
AreTreePages tsk format bytes pages t =
    IsArray tsk t.tsk × IsNumber format t.format × IsNumber bytes t.bytes × AreArrays pages t.pages.items

-- the words behind the first word of a line, by their shape

abbrev pub IsOneArray : List (List ℕ) → List ℕ → Type 0
IsOneArray words bytes = (words ≡ word_at words 0 ∷ []) × IsArray (word_at words 0) bytes

abbrev pub AreTwoArrays : List (List ℕ) → List ℕ → List ℕ → Type 0
AreTwoArrays words first second =
    (words ≡ word_at words 0 ∷ word_at words 1 ∷ []) × IsArray (word_at words 0) first × IsArray (word_at words 1) second

abbrev pub IsArrayAndMore : List (List ℕ) → List ℕ → List (List ℕ) → Type 0
IsArrayAndMore words first rest =
    (words ≡ word_at words 0 ∷ drop 1 words) × IsArray (word_at words 0) first × AreArrays (drop 1 words) rest

abbrev pub AreArguments : List (List ℕ) → List ℕ → List ℕ → Type 0
AreArguments words first second =
    (words ≡ word_at words 0 ∷ word_at words 1 ∷ []) × IsArgument (word_at words 0) first × IsArgument (word_at words 1) second

abbrev pub PartsAlone : List (List ℕ) → Parts → Type 0
PartsAlone words parts =
    (words ≡ word_at words 0 ∷ word_at words 1 ∷ word_at words 2 ∷ word_at words 3 ∷ [])
    × AreParts (word_at words 0) (word_at words 1) (word_at words 2) (word_at words 3) parts

abbrev pub ArePartsAndTag : List (List ℕ) → Parts → List ℕ → Type 0
ArePartsAndTag words parts tag =
    (words ≡ word_at words 0 ∷ word_at words 1 ∷ word_at words 2 ∷ word_at words 3 ∷ word_at words 4 ∷ [])
    × AreParts (word_at words 0) (word_at words 1) (word_at words 2) (word_at words 3) parts
    × IsArray (word_at words 4) tag

abbrev pub TreeAlone : List (List ℕ) → TreeImage → Type 0
TreeAlone words tree =
    (words ≡ word_at words 0 ∷ word_at words 1 ∷ word_at words 2 ∷ word_at words 3 ∷ word_at words 4 ∷ [])
    × IsTreeImage (word_at words 0) (word_at words 1) (word_at words 2) (word_at words 3) (word_at words 4) tree

abbrev pub ObjectAlone : List (List ℕ) → ObjectImage → Type 0
ObjectAlone words object =
    (words ≡ word_at words 0 ∷ word_at words 1 ∷ word_at words 2 ∷ [])
    × IsObjectImage (word_at words 0) (word_at words 1) (word_at words 2) object

abbrev pub ArePages : List (List ℕ) → TreePages → Type 0
ArePages words tree =
    (words ≡ word_at words 0 ∷ word_at words 1 ∷ word_at words 2 ∷ drop 3 words)
    × AreTreePages (word_at words 0) (word_at words 1) (word_at words 2) (drop 3 words) tree

abbrev pub IsWornCard : List (List ℕ) → WornCard → Type 0
IsWornCard words card =
    (words ≡ word_at words 0 ∷ word_at words 1 ∷ drop 2 words)
    × IsNumber (word_at words 0) card.counter × IsArray (word_at words 1) card.first × AreArrays (drop 2 words) card.rest.items

-- the words behind the first
abbrev pub arguments : List (List ℕ) → List (List ℕ)
arguments words = drop 1 words

-- the first word is this one
abbrev pub IsNamed : List (List ℕ) → List ℕ → Type 0
IsNamed words name = words ≡ name ∷ arguments words

-- the words ask the question
abbrev pub Asks : List (List ℕ) → Question → Type 0
Asks words (Aes key block) = IsNamed words (codes "aes") × AreTwoArrays (arguments words) key block
Asks words (AesInverse key block) = IsNamed words (codes "aes-inverse") × AreTwoArrays (arguments words) key block
Asks words (Ghash subkey blocks) = IsNamed words (codes "ghash") × IsArrayAndMore (arguments words) subkey blocks.items
Asks words (GcmSeal parts) = IsNamed words (codes "gcm-seal") × PartsAlone (arguments words) parts
Asks words (GcmOpen parts tag) = IsNamed words (codes "gcm-open") × ArePartsAndTag (arguments words) parts tag
Asks words (Hmac key text) = IsNamed words (codes "hmac") × AreArguments (arguments words) key.bytes.items text.bytes.items
Asks words (Ssk huk chip) = IsNamed words (codes "ssk") × AreTwoArrays (arguments words) huk chip
Asks words (Tsk ssk app) = IsNamed words (codes "tsk") × AreTwoArrays (arguments words) ssk app
Asks words (DirTsk ssk) = IsNamed words (codes "dir-tsk") × IsOneArray (arguments words) ssk
Asks words (RpmbKey huk) = IsNamed words (codes "rpmb-key") × IsOneArray (arguments words) huk
Asks words (Wrap tsk fek) = IsNamed words (codes "wrap") × AreTwoArrays (arguments words) tsk fek
Asks words (Unwrap tsk wrapped) = IsNamed words (codes "unwrap") × AreTwoArrays (arguments words) tsk wrapped
Asks words (FrameMac key frame) = IsNamed words (codes "frame-mac") × AreTwoArrays (arguments words) key frame
Asks words (FrameFields frame) = IsNamed words (codes "frame-fields") × IsOneArray (arguments words) frame
Asks words (Card first rest) = IsNamed words (codes "card") × IsArrayAndMore (arguments words) first rest.items
Asks words (Worn card) = IsNamed words (codes "worn-card") × IsWornCard (arguments words) card
Asks words (Tree tree) = IsNamed words (codes "tree") × TreeAlone (arguments words) tree
Asks words (TreeMake tree) = IsNamed words (codes "tree-make") × ArePages (arguments words) tree
Asks words (Entry bytes) = IsNamed words (codes "entry") × IsOneArray (arguments words) bytes
Asks words (Object object) = IsNamed words (codes "object") × ObjectAlone (arguments words) object
