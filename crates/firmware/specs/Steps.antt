-- Words of the code's steps. No sentence of document 01 stands here.
use Rattle.std.specs.Prelude.{ℕ}

-- the largest number that a field for ids and classes holds, and one for octets
abbrev pub most_of_byte : ℕ
most_of_byte = 255

abbrev pub most_of_half : ℕ
most_of_half = 65_535
