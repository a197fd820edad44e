-- Numbers in decimal, as the example of document 01's section 'The table file' has them.
-- n is a number of 64 bits, k a count of digits, j the power of ten that a digit stands for.
use Rattle.std.specs.Prelude.{ℕ, zero, suc, ◌+◌, ◌/◌, ◌%◌, ◌^◌, cond, List, [], ◌∷◌, ltb}

-- the digit of 10 to the power j, as a character; 48 is the character 0
unfoldable pub digit : ℕ → ℕ → ℕ
digit n j = 48 + n / 10 ^ j % 10

-- the last k digits, the most significant first
unfoldable pub last_digits : ℕ → ℕ → List ℕ
last_digits zero n = []
last_digits (suc k) n = digit n k ∷ last_digits k n

-- the fewest digits, from k on and at most so many more, that hold n
unfoldable pub fewest : ℕ → ℕ → ℕ → ℕ
fewest zero k n = k
fewest (suc more) k n = cond (ltb n (10 ^ k)) k (fewest more (k + 1) n)

-- how many digits n has: at least one, and no more than 20 for 64 bits
unfoldable pub digit_count : ℕ → ℕ
digit_count n = fewest 19 1 n

unfoldable pub decimal : ℕ → List ℕ
decimal n = last_digits (digit_count n) n
