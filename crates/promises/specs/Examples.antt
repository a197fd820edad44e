-- Histories that meet the premises of the promises, and histories that do not, where the conclusion fails.
-- A yard of one group and one stream with document 01's figures, and one of two groups with a stream each.
use Rattle.std.specs.Prelude.{ℕ, List, [], ◌∷◌}
use Rattle.bridge.specs.History.{Call, group, stream, frame, Outcome, released}

-- group 0 of class 6 with a residence limit of 224,000, stream 0 in it with rate 9,000,000 and burst 1,344
abbrev pub yard : List Call → List Call
yard xs = group 0 6 224_000 ∷ stream 0 0 9_000_000 1_344 ∷ xs

-- two frames of 64 octets at 0 fit the burst; a third does not
abbrev pub two : List Call
two = yard (frame 0 64 0 ∷ frame 0 64 0 ∷ [])

abbrev pub three : List Call
three = yard (frame 0 64 0 ∷ frame 0 64 0 ∷ frame 0 64 0 ∷ [])

-- a frame of 672 charged bits of stream i in group g, arriving at A and eligible at T
abbrev pub at : ℕ → ℕ → ℕ → ℕ → Outcome
at i g A T = released (record { stream = i; group = g; bits = 672; arrival = A; time = T })

-- what becomes of them
abbrev pub two_judged : List Outcome
two_judged = at 0 0 0 0 ∷ at 0 0 0 0 ∷ []

abbrev pub three_judged : List Outcome
three_judged = at 0 0 0 0 ∷ at 0 0 0 0 ∷ at 0 0 0 74_667 ∷ []

-- two groups: a frame of the second at tick 0 comes after one of the first at 1,000,000
abbrev pub apart : List Call
apart =
    group 0 6 224_000
    ∷ group 1 5 224_000
    ∷ stream 0 0 9_000_000 1_344
    ∷ stream 1 1 9_000_000 1_344
    ∷ frame 0 64 1_000_000
    ∷ frame 1 64 0
    ∷ []

-- each group has its own last arrival: the second frame is not refused for the first group's clock
abbrev pub apart_judged : List Outcome
apart_judged = at 0 0 1_000_000 1_000_000 ∷ at 1 1 0 0 ∷ []
