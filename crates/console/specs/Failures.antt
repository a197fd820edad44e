-- The line that says what failed: `failed: reading after N records, M bytes`, and then the system's own words for it.
-- A text is a list of characters.
use Rattle.std.specs.Prelude.{ℕ, List, [], ◌∷◌}
use Rattle.text.specs.Decimal.{decimal}
use Rattle.console.specs.declared.Edge.{Edge}
use Rattle.console.specs.declared.Edge.TheVariants.{Reading, Writing}
use Rattle.console.specs.declared.Failure.{Failure}

-- `failed: reading after ` and `failed: writing after `
unfoldable pub edge_word : Edge → List ℕ
edge_word Reading = 102 ∷ 97 ∷ 105 ∷ 108 ∷ 101 ∷ 100 ∷ 58 ∷ 32 ∷ 114 ∷ 101 ∷ 97 ∷ 100 ∷ 105 ∷ 110 ∷ 103 ∷ 32 ∷ 97 ∷ 102 ∷ 116 ∷ 101 ∷ 114 ∷ 32 ∷ []
edge_word Writing = 102 ∷ 97 ∷ 105 ∷ 108 ∷ 101 ∷ 100 ∷ 58 ∷ 32 ∷ 119 ∷ 114 ∷ 105 ∷ 116 ∷ 105 ∷ 110 ∷ 103 ∷ 32 ∷ 97 ∷ 102 ∷ 116 ∷ 101 ∷ 114 ∷ 32 ∷ []

-- ` records, `
abbrev pub records_word : List ℕ
records_word = 32 ∷ 114 ∷ 101 ∷ 99 ∷ 111 ∷ 114 ∷ 100 ∷ 115 ∷ 44 ∷ 32 ∷ []

-- ` bytes`
abbrev pub bytes_word : List ℕ
bytes_word = 32 ∷ 98 ∷ 121 ∷ 116 ∷ 101 ∷ 115 ∷ []

unfoldable pub failure_parts : Failure → List (List ℕ)
failure_parts f = edge_word f.edge ∷ decimal f.records ∷ records_word ∷ decimal f.bytes ∷ bytes_word ∷ []
