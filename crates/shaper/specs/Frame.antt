-- Document 01, 'One frame through a scheduler'.
-- L is the frame's charged bits, A its arrival, r the stream's rate, b its burst, E its bucket empty time, M the group's residence limit, G its group time.
-- E, S and F are whole numbers of r-ths of a tick; A, M, G and T are whole ticks.
use Rattle.std.specs.Prelude.{ℕ, ◌+◌, ◌%◌, ◌^◌, max, cond, ℤ, pos, ◌+ℤ◌, ◌-ℤ◌, int_lt, nat_lt}
use Rattle.quantity.specs.Kinds.{ticks}
use Rattle.records.specs.ExactTime.{bit_time, tick_time, exactly, moment_of, rounded_up, or_zero}
use Rattle.records.specs.declared.Group.{Group}
use Rattle.records.specs.declared.Stream.{Stream}
use Rattle.records.specs.declared.Regulator.{Regulator}
use Rattle.records.specs.declared.Regulator.TheVariants.{Unset, Bucket}
use Rattle.records.specs.Judged.{Judged}
use Rattle.records.specs.declared.Answer.TheVariants.{Released, Discarded}

-- ---- the bucket

-- S = E + L·10⁹/r
unfoldable pub S : ℤ → ℕ → ℤ
S E L = E +ℤ pos (bit_time L)

-- F = E + b·10⁹/r
unfoldable pub F : ℤ → ℕ → ℤ
F E b = E +ℤ pos (bit_time b)

-- released at T: E becomes S if T < F, else S + T − F
unfoldable pub E_after : ℕ → ℤ → ℕ → ℕ → ℕ → ℤ
E_after r E b L T = cond (int_lt (tick_time r T) (F E b)) (S E L) (S E L +ℤ tick_time r T -ℤ F E b)

-- ---- what is particular to a regulator

-- its burst
unfoldable pub burst_of : Regulator → ℕ
burst_of Unset = 0
burst_of (Bucket b e) = b.0

-- the smallest whole tick, from 0 on, at which it lets the frame go: of a bucket, the smallest not below S
unfoldable pub earliest : ℕ → Regulator → ℕ → ℕ
earliest r Unset L = 0
earliest r (Bucket b e) L = or_zero (rounded_up r (S (exactly r e) L))

-- the regulator after a release at T
unfoldable pub after_release : ℕ → Regulator → ℕ → ℕ → Regulator
after_release r Unset L T = Unset
after_release r (Bucket b e) L T = Bucket b (moment_of r (E_after r (exactly r e) b.0 L T))

-- ---- what all streams have in common

-- T = the largest of A, G and the smallest whole tick that the regulator allows
unfoldable pub eligibility_time : Stream → Group → ℕ → ℕ → ℕ
eligibility_time s g L A = max (max A g.time.0) (earliest s.rate.0 s.regulator L)

-- discarded: E and G stay; the last arrival becomes A; the discard count goes up by one, and 4,294,967,295 is followed by 0
unfoldable pub discarded : Stream → Group → ℕ → ℕ → Judged
discarded s g A T = record {
  answer = Discarded (ticks T);
  stream = s;
  group = record { used = g.used; class = g.class; residence = g.residence; time = g.time; last = ticks A; discards = (g.discards + 1) % 2 ^ 32 };
}

-- released at T: G becomes T, the last arrival A, and the regulator moves on
unfoldable pub released : Stream → Group → ℕ → ℕ → ℕ → Judged
released s g L A T = record {
  answer = Released (ticks T);
  stream = record { group = s.group; rate = s.rate; regulator = after_release s.rate.0 s.regulator L T };
  group = record { used = g.used; class = g.class; residence = g.residence; time = ticks T; last = ticks A; discards = g.discards };
}

-- T > A + M: discarded; otherwise released at T
unfoldable pub settled : Stream → Group → ℕ → ℕ → ℕ → Judged
settled s g L A T = cond (nat_lt (A + g.residence.0) T) (discarded s g A T) (released s g L A T)

-- a frame of L charged bits arriving at A
unfoldable pub process_frame : Stream → Group → ℕ → ℕ → Judged
process_frame s g L A = settled s g L A (eligibility_time s g L A)
