-- Document 01, 'Numbers returned': the number of each refusal.
use Rattle.std.specs.Prelude.{ℕ}
use Rattle.quantity.specs.declared.Refusal.{Refusal}
use Rattle.quantity.specs.declared.Refusal.TheVariants.{Unsound, NoStream, LengthRange, AboveBurst, TooLate, BeforeLast, IdRange, SetUpBefore, NoGroup, RateRange, BurstRange, ResidenceRange, ClassRange, ClassFull, UnknownMark, CutShort, NoRoom, ListsUnfit, LineUnfit}

-- a number from 9 up is a refusal's, but for 27, which ends a run
abbrev pub least_refusal : ℕ
least_refusal = 9

-- the number of each
abbrev pub number_of : Refusal → ℕ
number_of Unsound = 9
number_of NoStream = 10
number_of LengthRange = 11
number_of AboveBurst = 12
number_of TooLate = 13
number_of BeforeLast = 14
number_of IdRange = 15
number_of SetUpBefore = 16
number_of NoGroup = 17
number_of RateRange = 18
number_of BurstRange = 19
number_of ResidenceRange = 20
number_of ClassRange = 21
number_of ClassFull = 22
number_of UnknownMark = 24
number_of CutShort = 25
number_of NoRoom = 26
number_of ListsUnfit = 28
number_of LineUnfit = 29
