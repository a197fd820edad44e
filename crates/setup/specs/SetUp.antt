-- Document 01, 'One frame through a scheduler' and 'Numbers returned': a group and a stream start as they are first; order 21, 20 of a group, and 17, 9, 18, 19 of a stream.
-- c is a class, M a residence limit, r a rate, b a burst. That an id is out of range or already set up (15, 16) is for the calls by id to say.
use Rattle.std.specs.Prelude.{ℕ, true, not, cond, ◌&&◌, Ok, Err}
use Rattle.quantity.specs.Kinds.{ticks, bits, per_second}
use Rattle.quantity.specs.Ranges.{in_range}
use Rattle.quantity.specs.declared.Item.TheVariants.{GroupId, Class, StreamRate, Burst, Residence}
use Rattle.quantity.specs.declared.Refusal.TheVariants.{Unsound, NoGroup, RateRange, BurstRange, ResidenceRange, ClassRange}
use Rattle.records.specs.ExactTime.{moment_of, E_first}
use Rattle.records.specs.Sound.{sound_group}
use Rattle.records.specs.declared.Group.{Group}
use Rattle.records.specs.declared.Stream.{Stream}
use Rattle.records.specs.declared.Regulator.TheVariants.{Bucket}
use Rattle.std.specs.declared.result.Result.{Result}
use Rattle.quantity.specs.declared.Refusal.{Refusal}

-- a group first: G 0, last arrival 0, nothing discarded
unfoldable pub fresh_group : ℕ → ℕ → Group
fresh_group c M = record { used = true; class = c; residence = ticks M; time = ticks 0; last = ticks 0; discards = 0 }

-- a stream first: its bucket is full, E = −b·10⁹/r
unfoldable pub fresh_stream : ℕ → ℕ → ℕ → Stream
fresh_stream i r b = record { group = i; rate = per_second r; regulator = Bucket (bits b) (moment_of r (E_first b)) }

-- a group of class c and residence limit M
unfoldable pub group_set_up : ℕ → ℕ → Result Group Refusal
group_set_up c M =
    cond (not (in_range Class c)) (Err ClassRange)
    (cond (not (in_range Residence M)) (Err ResidenceRange)
    (Ok (fresh_group c M)))

-- a stream of rate r and burst b in the group of id i, whose record is g
unfoldable pub stream_set_up : ℕ → Group → ℕ → ℕ → Result Stream Refusal
stream_set_up i g r b =
    cond (not (in_range GroupId i && g.used)) (Err NoGroup)
    (cond (not (sound_group g)) (Err Unsound)
    (cond (not (in_range StreamRate r)) (Err RateRange)
    (cond (not (in_range Burst b)) (Err BurstRange)
    (Ok (fresh_stream i r b)))))
