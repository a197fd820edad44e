-- Document 01, 'Figures to hold it to': the rows marked P, as one table under one theorem.
-- M is the residence limit of group 0; r, b the rate and burst of a stream; n a frame's octets, A its arrival.
use Rattle.std.specs.Prelude.{◌≡◌, ℕ, zero, suc, List, [], ◌∷◌, ℤ, pos, neg_ℤ, refl}
use Rattle.quantity.specs.Ranges.{in_range}
use Rattle.quantity.specs.Charge.{charged_bits}
use Rattle.records.specs.ExactTime.{exactly, moment_of, rounded_up, E_first}
use Rattle.shaper.specs.Frame.{S, F, E_after, earliest, after_release, eligibility_time, discarded, released, settled, process_frame}
use Rattle.records.specs.Sound.{sound_group, sound_regulator, sound}
use Rattle.setup.specs.SetUp.{fresh_group, fresh_stream}
use Rattle.shaper.specs.Numbers.{after_tests, judged}
use Rattle.admission.specs.Tests.{above_burst, tested}
use Rattle.records.specs.Numbers.{answer_number, answer_values}
use Rattle.records.specs.declared.Moment.{Moment}
use Rattle.records.specs.declared.Stream.{Stream}
use Rattle.records.specs.declared.Regulator.{Regulator}
use Rattle.records.specs.declared.Regulator.TheVariants.{Unset, Bucket}
use Rattle.records.specs.Judged.{Judged}

-- a row: the answer's number and values, and the bucket empty time after it; a blank of the document is an empty list
pub record Row : Type 0 where
  pub answer : List ℕ
  pub empty : List Moment

-- ---- what the definitions give

-- the bucket empty time of a stream
unfoldable pub empty_of : Regulator → List Moment
empty_of Unset = []
empty_of (Bucket b e) = e ∷ []

unfoldable pub answer_of : Judged → List ℕ
answer_of j = answer_number j.answer ∷ answer_values j.answer

-- a frame's row, and one whose bucket empty time the document leaves blank
unfoldable pub row_of : Judged → Row
row_of j = record { answer = answer_of j; empty = empty_of j.stream.regulator }

unfoldable pub answer_row : Judged → Row
answer_row j = record { answer = answer_of j; empty = [] }

-- the row of a stream that no frame has come to
unfoldable pub start_row : Stream → Row
start_row s = record { answer = []; empty = empty_of s.regulator }

-- the next frame on the records that the last one left
unfoldable pub next : Judged → ℕ → ℕ → Judged
next j n A = judged j.stream j.group n A

-- the next frame of another stream of the same group
unfoldable pub next_of : Stream → Judged → ℕ → ℕ → Judged
next_of s j n A = judged s j.group n A

-- a first frame, at 0, of stream 0 with burst b
unfoldable pub first_frame : ℕ → ℕ → ℕ → Judged
first_frame M b n = judged (fresh_stream 0 9_000_000 b) (fresh_group 0 M) n 0

-- frames of 64 octets at 0 on a burst of 1,344: one, and so many more
unfoldable pub frames : ℕ → ℕ → Judged
frames M zero = first_frame M 1_344 64
frames M (suc more) = next (frames M more) 64 0

unfoldable pub given : List Row
given =
    start_row (fresh_stream 0 9_000_000 1_344)
    ∷ row_of (frames 224_000 0)
    ∷ row_of (frames 224_000 1)
    ∷ row_of (frames 224_000 2)
    ∷ row_of (frames 224_000 3)
    ∷ row_of (frames 224_000 4)
    ∷ row_of (frames 223_999 4)
    ∷ row_of (next (frames 224_000 4) 64 1_000_000)
    ∷ row_of (next (frames 223_999 4) 64 1_000_000)
    ∷ row_of (next_of (fresh_stream 0 1_000_000_000 12_336) (frames 224_000 4) 1_522 0)
    ∷ answer_row (first_frame 224_000 672 64)
    ∷ answer_row (first_frame 224_000 671 64)
    ∷ answer_row (first_frame 224_000 16_160 2_000)
    ∷ answer_row (first_frame 224_000 16_160 2_001)
    ∷ answer_row (first_frame 224_000 16_160 0)
    ∷ []

-- ---- what the document expects

abbrev pub minus : ℕ → ℤ
minus n = neg_ℤ (pos n)

abbrev pub E : ℤ → ℕ → List Moment
E t p = record { ticks = t; part = p } ∷ []

abbrev pub row : List ℕ → List Moment → Row
row a e = record { answer = a; empty = e }

unfoldable pub expected : List Row
expected =
    row [] (E (minus 149_334) 6_000_000)
    ∷ row (0 ∷ 0 ∷ []) (E (minus 74_667) 3_000_000)
    ∷ row (0 ∷ 0 ∷ []) (E (pos 0) 0)
    ∷ row (0 ∷ 74_667 ∷ []) (E (pos 74_666) 6_000_000)
    ∷ row (0 ∷ 149_334 ∷ []) (E (pos 149_333) 3_000_000)
    ∷ row (0 ∷ 224_000 ∷ []) (E (pos 224_000) 0)
    ∷ row (1 ∷ 224_000 ∷ []) (E (pos 149_333) 3_000_000)
    ∷ row (0 ∷ 1_000_000 ∷ []) (E (pos 925_333) 3_000_000)
    ∷ row (0 ∷ 1_000_000 ∷ []) (E (pos 925_333) 3_000_000)
    ∷ row (0 ∷ 224_000 ∷ []) (E (pos 224_000) 0)
    ∷ row (0 ∷ 0 ∷ []) []
    ∷ row (12 ∷ []) []
    ∷ row (0 ∷ 0 ∷ []) []
    ∷ row (11 ∷ []) []
    ∷ row (11 ∷ []) []
    ∷ []

-- the definitions give every P row
pub figures : given ≡ expected
unfolding given expected start_row row_of answer_row answer_of empty_of next next_of first_frame frames fresh_stream fresh_group judged after_tests tested answer_number answer_values above_burst sound sound_group sound_regulator in_range process_frame settled discarded released eligibility_time earliest after_release E_first S F E_after exactly moment_of rounded_up charged_bits
figures = refl
