-- RULES 4.1: what the numbers of a book's records, of two bytes and of four, have in common. Assumes nothing.
use Rattle.std.specs.Prelude.{◌≡◌, List, [], ◌∷◌, ◌++◌, ℕ, length, refl}
use Rattle.rules.specs.Books.Bytes.{two, four, word_bytes, long_bytes}

pub size_of_two : (w : ℕ) → length (two w) ≡ 2
size_of_two w = refl

pub size_of_four : (w : ℕ) → length (four w) ≡ 4
size_of_four w = refl

pub word_bytes_none : word_bytes [] ≡ []
unfolding word_bytes
word_bytes_none = refl

pub word_bytes_more : (w : ℕ) (ws : List ℕ) → word_bytes (w ∷ ws) ≡ two w ++ word_bytes ws
unfolding word_bytes
word_bytes_more w ws = refl

pub long_bytes_none : long_bytes [] ≡ []
unfolding long_bytes
long_bytes_none = refl

pub long_bytes_more : (w : ℕ) (ws : List ℕ) → long_bytes (w ∷ ws) ≡ four w ++ long_bytes ws
unfolding long_bytes
long_bytes_more w ws = refl
