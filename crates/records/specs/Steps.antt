-- A word that the laws of exact time use. No sentence of document 01 stands here.
use Rattle.std.specs.Prelude.{ℕ, suc, ℤ, pos, negsuc}

-- how far a whole number is below 0: z is orZero z − shortfall z, and one of the two is 0
abbrev pub shortfall : ℤ → ℕ
shortfall (pos n) = 0
shortfall (negsuc n) = suc n
