-- Document 01, 'The interrupt side' and 'Numbers returned', as C sees them: records of plain fields, a number back, T behind a lent number.
-- g and s are a group's and a stream's record as C lends them, ss the lent run of them, t the caller's eligibility time before the call; the other letters are those of InPlace.
use Rattle.std.specs.Prelude.{ℕ, true, cond, List, [], ◌∷◌, map}
use Rattle.quantity.specs.Kinds.{ticks, bits, per_second}
use Rattle.quantity.specs.declared.Rate.{Rate}
use Rattle.records.specs.Numbers.{answer_number}
use Rattle.records.specs.declared.Group.{Group}
use Rattle.records.specs.declared.Stream.{Stream}
use Rattle.records.specs.declared.Regulator.{Regulator}
use Rattle.records.specs.declared.Regulator.TheVariants.{Unset, Bucket}
use Rattle.records.specs.Judged.{Judged}
use Rattle.records.specs.declared.Answer.{Answer}
use Rattle.records.specs.declared.Answer.TheVariants.{Released, Discarded, Refused}
use Rattle.calls.specs.Numbers.{set_up_number}
use Rattle.calls.specs.declared.Placed.{Placed}
use Rattle.lent.specs.InPlace.{received, Received}
use Rattle.firmware.specs.declared.GroupRecord.{GroupRecord}
use Rattle.firmware.specs.declared.StreamRecord.{StreamRecord}
use Rattle.firmware.specs.declared.GroupTold.{GroupTold}
use Rattle.firmware.specs.declared.StreamTold.{StreamTold}
use Rattle.firmware.specs.declared.FrameTold.{FrameTold}

-- ---- the records that C lends

-- the group that a lent record holds, and the record that holds a group
unfoldable pub group_of : GroupRecord → Group
group_of g = record { used = g.used; class = g.class; residence = ticks g.residence; time = ticks g.time; last = ticks g.last; discards = g.discards }

unfoldable pub group_record : Group → GroupRecord
group_record g = record { used = g.used; class = g.class; discards = g.discards; residence = g.residence.0; time = g.time.0; last = g.last.0 }

-- the stream that a lent record holds
unfoldable pub stream_of : StreamRecord → Stream
stream_of s = record {
  group = s.group;
  rate = per_second s.rate;
  regulator = cond s.used (Bucket (bits s.burst) (record { ticks = s.empty; part = s.part })) Unset;
}

-- the record s where a stream of group i, rate r and some regulator is to stand; one that is not set up leaves s
unfoldable pub rewritten : StreamRecord → ℕ → Rate → Regulator → StreamRecord
rewritten s i r Unset = s
rewritten s i r (Bucket b e) = record { used = true; group = i; rate = r.0; burst = b.0; empty = e.ticks; part = e.part }

unfoldable pub stream_record : StreamRecord → Stream → StreamRecord
stream_record s x = rewritten s x.group x.rate x.regulator

-- the lent run where these streams are to stand, place by place
unfoldable pub stream_records : List StreamRecord → List Stream → List StreamRecord
stream_records [] xs = []
stream_records (s ∷ ss) [] = s ∷ ss
stream_records (s ∷ ss) (x ∷ xs) = stream_record s x ∷ stream_records ss xs

-- ---- what the calls tell

-- a judged frame's T takes the place of the caller's time; a refused frame leaves it
unfoldable pub time_after : Answer → ℕ → ℕ
time_after (Released T) t = T.0
time_after (Discarded T) t = T.0
time_after (Refused why) t = t

-- a set-up's number, and the record after it
unfoldable pub group_told : Placed Group → GroupTold
group_told p = record { number = set_up_number p.answer; group = group_record p.after }

unfoldable pub stream_told : StreamRecord → Placed Stream → StreamTold
stream_told s p = record { number = set_up_number p.answer; stream = stream_record s p.after }

-- a frame's number, the caller's time, and the records after it
unfoldable pub frame_told : StreamRecord → ℕ → Judged → FrameTold
frame_told s t j = record { number = answer_number j.answer; time = time_after j.answer t; stream = stream_record s j.stream; group = group_record j.group }

-- the same of a frame in lent records, and all that was lent after it
pub record FrameReceived : Type 0 where
  pub number : ℕ
  pub time : ℕ
  pub group : GroupRecord
  pub streams : List StreamRecord

unfoldable pub lent_after : List StreamRecord → ℕ → Received → FrameReceived
lent_after ss t r = record { number = answer_number r.answer; time = time_after r.answer t; group = group_record r.group; streams = stream_records ss r.streams }

unfoldable pub frame_received : ℕ → GroupRecord → List StreamRecord → ℕ → ℕ → ℕ → ℕ → FrameReceived
frame_received i g ss k n A t = lent_after ss t (received i (group_of g) (map stream_of ss) k n A)
