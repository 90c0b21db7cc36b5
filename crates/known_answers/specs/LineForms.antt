-- Which lines are questions: by the first word, what the words behind it must be.
use Rattle.std.specs.Prelude.{ℕ, ◌&&◌, Bool, false, List, [], ◌∷◌, Option, Some, None}
use Rattle.known_answers.specs.declared.subjects.Subject.{Subject}
use Rattle.known_answers.specs.declared.subjects.Subject.TheVariants.{Aes, AesInverse, Ghash, GcmSeal, GcmOpen, Hmac, Ssk, Tsk, DirTsk, RpmbKey, Wrap, Unwrap, FrameMac, FrameFields, Card, WornCard, Tree, TreeMake, Entry, Object}
use Rattle.known_answers.specs.Subjects.{subject_named}
use Rattle.known_answers.specs.Forms.{are_arrays, are_parts, has_its_pages, is_argument, is_array, is_counter, is_format, is_object_image, is_tree_image}

-- a word of so many bytes in hex
abbrev pub is_one_array : ℕ → List (List ℕ) → Bool
is_one_array n (word ∷ []) = is_array n word
is_one_array n words = false

-- two of them
abbrev pub are_two_arrays : (m n : ℕ) → List (List ℕ) → Bool
are_two_arrays m n (first ∷ second ∷ []) = is_array m first && is_array n second
are_two_arrays m n words = false

-- one, and any number of further ones of one length
abbrev pub is_array_and_more : (m n : ℕ) → List (List ℕ) → Bool
is_array_and_more m n (first ∷ rest) = is_array m first && are_arrays n rest
is_array_and_more m n [] = false

-- two arguments of any length
abbrev pub are_arguments : List (List ℕ) → Bool
are_arguments (first ∷ second ∷ []) = is_argument first && is_argument second
are_arguments words = false

-- the parts of a cipher
abbrev pub parts_alone : List (List ℕ) → Bool
parts_alone (key ∷ iv ∷ aad ∷ text ∷ []) = are_parts key iv aad text
parts_alone words = false

-- these, and a tag
abbrev pub are_parts_and_tag : List (List ℕ) → Bool
are_parts_and_tag (key ∷ iv ∷ aad ∷ text ∷ tag ∷ []) = are_parts key iv aad text && is_array 16 tag
are_parts_and_tag words = false

-- the image of a tree
abbrev pub tree_alone : List (List ℕ) → Bool
tree_alone (tsk ∷ hash ∷ version ∷ format ∷ image ∷ []) = is_tree_image tsk hash version format image
tree_alone words = false

-- the image of an object
abbrev pub object_alone : List (List ℕ) → Bool
object_alone (tsk ∷ entry ∷ image ∷ []) = is_object_image tsk entry image
object_alone words = false

-- a key, a format, a length, and the pages of a tree
abbrev pub are_pages : List (List ℕ) → Bool
are_pages (tsk ∷ format ∷ bytes ∷ pages) = is_array 32 tsk && is_format format && has_its_pages bytes pages
are_pages words = false

-- a card's counter, and one frame or more
abbrev pub is_worn_card : List (List ℕ) → Bool
is_worn_card (counter ∷ first ∷ rest) = is_counter counter && is_array 512 first && are_arrays 512 rest
is_worn_card words = false

-- what the words behind the first must be
abbrev pub behind : Subject → List (List ℕ) → Bool
behind Aes words = are_two_arrays 16 16 words
behind AesInverse words = are_two_arrays 16 16 words
behind Ghash words = is_array_and_more 16 16 words
behind GcmSeal words = parts_alone words
behind GcmOpen words = are_parts_and_tag words
behind Hmac words = are_arguments words
behind Ssk words = are_two_arrays 16 32 words
behind Tsk words = are_two_arrays 32 16 words
behind DirTsk words = is_one_array 32 words
behind RpmbKey words = is_one_array 16 words
behind Wrap words = are_two_arrays 32 16 words
behind Unwrap words = are_two_arrays 32 16 words
behind FrameMac words = are_two_arrays 32 512 words
behind FrameFields words = is_one_array 512 words
behind Card words = is_array_and_more 512 512 words
behind WornCard words = is_worn_card words
behind Tree words = tree_alone words
behind TreeMake words = are_pages words
behind Entry words = is_one_array 128 words
behind Object words = object_alone words

abbrev pub behind_named : Option Subject → List (List ℕ) → Bool
behind_named None words = false
behind_named (Some subject) words = behind subject words

-- the words of a line are a question
abbrev pub has_form : List (List ℕ) → Bool
has_form (name ∷ words) = behind_named (subject_named name) words
has_form [] = false
