-- Document 01, 'The table file': numbers are big-endian.
-- n is a number, w a width in bytes; a byte is a number below 256.
use Rattle.std.specs.Prelude.{ℕ, zero, suc, ◌+◌, ◌*◌, ◌/◌, ◌%◌, ◌^◌, ◌<◌, List, [], ◌∷◌, length, get_or, take, drop}

-- how many values a byte has
abbrev pub byte_values : ℕ
byte_values = 256

-- the w bytes of n, the most significant first: each is the digit of its place, to the base 256
unfoldable pub big_endian : ℕ → ℕ → List ℕ
big_endian zero n = []
big_endian (suc w) n = n / byte_values ^ w % byte_values ∷ big_endian w n

-- the number that bytes stand for: each byte times the worth of its place
unfoldable pub number : List ℕ → ℕ
number [] = 0
number (b ∷ bs) = b * byte_values ^ length bs + number bs

-- the number in the w bytes from a place on
unfoldable pub number_at : List ℕ → ℕ → ℕ → ℕ
number_at bytes place w = number (take w (drop place bytes))

-- each number of the list is a byte
abbrev pub AreBytes : List ℕ → Type 0
AreBytes l = (i : ℕ) → get_or l i 0 < byte_values
