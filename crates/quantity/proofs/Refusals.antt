-- The law of the refusals' numbers. Assumes nothing.
use mathlib.Core.Path.{◌≡◌, refl, sym, ap, ◌∙◌}
use mathlib.Core.List.{[], ◌∷◌}
use Prim.Native.Nat.{ℕ, ◌-◌, ◌≤◌, ◌<◌}
use lib.ListN.{get_or}
use native.Mathlib.Omega.{arith}
use Rattle.quantity.specs.Numbers.{least_refusal, number_of}
use Rattle.quantity.specs.declared.Refusal.{Refusal}
use Rattle.quantity.specs.declared.Refusal.TheVariants.{Unsound, NoStream, LengthRange, AboveBurst, TooLate, BeforeLast, IdRange, SetUpBefore, NoGroup, RateRange, BurstRange, ResidenceRange, ClassRange, ClassFull, UnknownMark, CutShort, NoRoom, ListsUnfit, LineUnfit}

-- a refusal's number is from 9 up, and fits a byte
pub refusal_number : (why : Refusal) → (least_refusal ≤ number_of why) × (number_of why < 256)
refusal_number Unsound = (omega arith, omega arith)
refusal_number NoStream = (omega arith, omega arith)
refusal_number LengthRange = (omega arith, omega arith)
refusal_number AboveBurst = (omega arith, omega arith)
refusal_number TooLate = (omega arith, omega arith)
refusal_number BeforeLast = (omega arith, omega arith)
refusal_number IdRange = (omega arith, omega arith)
refusal_number SetUpBefore = (omega arith, omega arith)
refusal_number NoGroup = (omega arith, omega arith)
refusal_number RateRange = (omega arith, omega arith)
refusal_number BurstRange = (omega arith, omega arith)
refusal_number ResidenceRange = (omega arith, omega arith)
refusal_number ClassRange = (omega arith, omega arith)
refusal_number ClassFull = (omega arith, omega arith)
refusal_number UnknownMark = (omega arith, omega arith)
refusal_number CutShort = (omega arith, omega arith)
refusal_number NoRoom = (omega arith, omega arith)
refusal_number ListsUnfit = (omega arith, omega arith)
refusal_number LineUnfit = (omega arith, omega arith)

-- a refusal is known by its number; 23 and 27 are none's
named : ℕ → Refusal
named n =
    get_or
    (Unsound
    ∷ NoStream
    ∷ LengthRange
    ∷ AboveBurst
    ∷ TooLate
    ∷ BeforeLast
    ∷ IdRange
    ∷ SetUpBefore
    ∷ NoGroup
    ∷ RateRange
    ∷ BurstRange
    ∷ ResidenceRange
    ∷ ClassRange
    ∷ ClassFull
    ∷ Unsound
    ∷ UnknownMark
    ∷ CutShort
    ∷ NoRoom
    ∷ Unsound
    ∷ ListsUnfit
    ∷ LineUnfit
    ∷ [])
    (n - least_refusal)
    Unsound

named_is : (why : Refusal) → named (number_of why) ≡ why
unfolding named
named_is Unsound = refl
named_is NoStream = refl
named_is LengthRange = refl
named_is AboveBurst = refl
named_is TooLate = refl
named_is BeforeLast = refl
named_is IdRange = refl
named_is SetUpBefore = refl
named_is NoGroup = refl
named_is RateRange = refl
named_is BurstRange = refl
named_is ResidenceRange = refl
named_is ClassRange = refl
named_is ClassFull = refl
named_is UnknownMark = refl
named_is CutShort = refl
named_is NoRoom = refl
named_is ListsUnfit = refl
named_is LineUnfit = refl

pub same_refusal : (a b : Refusal) → number_of a ≡ number_of b → a ≡ b
same_refusal a b e = sym (named_is a) ∙ ap named e ∙ named_is b
