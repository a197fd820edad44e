-- Document 01's figures in calls from C that meet the premises of the promises for C: a set-up, frames with their stream's group, and one with another.
-- A yard of one group and one stream with document 01's figures; xs is what follows its set-up. The caller's time is 7 before each frame.
use Rattle.std.specs.Prelude.{◌≤◌, true, false, ◌≡◌, List, [], ◌∷◌}
use Rattle.quantity.specs.Numbers.{least_refusal}
use Rattle.promises.specs.Examples.{two, three, three_judged}
use Rattle.promises_for_c.specs.Lent.{zeroed, CCall, set_up_group, set_up_stream, receive, number, mislent, memory_after, calls_in, history_in_c}
use Rattle.promises_for_c.specs.DemandsForC.{Conforming}

-- group 0 of class 6 with a residence limit of 224,000, stream 0 in it with rate 9,000,000 and burst 1,344
abbrev pub yard_in_c : List CCall → List CCall
yard_in_c xs = set_up_group 0 6 224_000 ∷ set_up_stream 0 0 9_000_000 1_344 ∷ xs

-- 64 octets of stream 0 at tick 0, with its group, and with another
abbrev pub own : CCall
own = receive 0 0 64 0 7

abbrev pub foreign : CCall
foreign = receive 1 0 64 0 7

abbrev pub two_in_c : List CCall
two_in_c = yard_in_c (own ∷ own ∷ [])

abbrev pub three_in_c : List CCall
three_in_c = yard_in_c (own ∷ foreign ∷ own ∷ own ∷ [])

pub record CExamples : Type 0 where
  -- the calls that they stand for are the set-up and the frames that come with their group, and C sees the bridge's judged frames
  pub two_calls : calls_in two_in_c ≡ two
  pub three_calls : calls_in three_in_c ≡ three
  pub three_judged_is : history_in_c three_in_c ≡ three_judged
  -- where two arrive, they arrive within burst and rate
  pub conforming : Conforming two_in_c 0
  -- a frame with its stream's group, one with another, and one that is refused
  pub with_its_group : mislent (memory_after (yard_in_c [])) own ≡ false
  pub with_another : mislent (memory_after (yard_in_c [])) foreign ≡ true
  pub refused : least_refusal ≤ number zeroed own
