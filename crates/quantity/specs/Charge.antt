-- Document 01, 'Quantities': charged bits.
-- n is a frame's octets, header to check sequence.
use Rattle.std.specs.Prelude.{ℕ, ◌+◌, ◌*◌}

-- preamble, start mark and gap, in octets
abbrev pub ordinary_overhead : ℕ
ordinary_overhead = 20

-- the charged bits of a frame of n octets on a line that adds so many octets to each
unfoldable pub charged_bits : ℕ → ℕ → ℕ
charged_bits overhead n = 8 * (n + overhead)

-- the charged bits of a frame of n octets
abbrev pub charged : ℕ → ℕ
charged n = charged_bits ordinary_overhead n
