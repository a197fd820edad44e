-- The numbers that a program is given are decimal. No sentence of document 01 stands here.
-- b is a byte, l a list of bytes, v the number that the digits before them say.
use Rattle.std.specs.Prelude.{ℕ, ◌+◌, ◌-◌, ◌*◌, min, Bool, cond, true, ◌&&◌, List, [], ◌∷◌, Option, None, Some, leb}

-- the largest number of 64 bits
abbrev pub most : ℕ
most = 18_446_744_073_709_551_615

-- the characters 0 to 9 are 48 to 57
unfoldable pub is_digit : ℕ → Bool
is_digit b = leb 48 b && leb b 57

unfoldable pub are_digits : List ℕ → Bool
are_digits [] = true
are_digits (b ∷ l) = is_digit b && are_digits l

-- the number that v becomes with these digits after it
unfoldable pub value_from : ℕ → List ℕ → ℕ
value_from v [] = v
value_from v (b ∷ l) = value_from (v * 10 + (b - 48)) l

-- digits alone, and at least one, are a number; one above the largest of 64 bits is taken as that
unfoldable pub numeral_of : List ℕ → Option ℕ
numeral_of [] = None
numeral_of (b ∷ l) = cond (are_digits (b ∷ l)) (Some (min (value_from 0 (b ∷ l)) most)) None
