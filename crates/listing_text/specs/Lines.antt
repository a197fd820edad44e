-- Document 01, 'The table file': the lines of the listing.
-- n is the number of a line or a count of lines, e the number that ended the reading, T an eligibility time; a text is a list of characters.
use Rattle.std.specs.Prelude.{ℕ, ◌+◌, cond, List, [], ◌∷◌, ◌++◌, Option, None, Some, ltb}
use Rattle.quantity.specs.Numbers.{least_refusal}
use Rattle.text.specs.Decimal.{decimal}
use Rattle.quantity.specs.declared.Ticks.{Ticks}

abbrev pub space : ℕ
space = 32

abbrev pub dash : ℕ
dash = 45

abbrev pub newline : ℕ
newline = 10

-- ---- a line

-- what the last column shows: T, or nothing
unfoldable pub values_of : Option Ticks → List ℕ
values_of (Some T) = T.0 ∷ []
values_of None = []

-- T, or `-` where there is none
unfoldable pub column : List ℕ → List ℕ
column [] = dash ∷ []
column (T ∷ more) = decimal T

-- the number of the line, two letters, the number returned, T or `-`
unfoldable pub line_of : ℕ → List ℕ → ℕ → List ℕ → List ℕ
line_of n letters number values =
    decimal n ++ (space ∷ (letters ++ (space ∷ (decimal number ++ (space ∷ (column values ++ (newline ∷ [])))))))

-- ---- the end

-- the last line: `end` and the count of lines before it
unfoldable pub end_line : ℕ → List ℕ
end_line n = 101 ∷ 110 ∷ 100 ∷ space ∷ (decimal n ++ (newline ∷ []))

-- a refusal that ends the reading, 24 or 25, has a line with two dashes for letters; nothing left to read has none
unfoldable pub ending : ℕ → ℕ → List ℕ
ending n e = cond (ltb e least_refusal) (end_line n) (line_of (n + 1) (dash ∷ dash ∷ []) e [] ++ end_line (n + 1))
