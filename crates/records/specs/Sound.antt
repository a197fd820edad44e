-- Document 01, 'Numbers returned': what is sound.
-- The letters are those of 'One frame through a scheduler'.
use Rattle.std.specs.Prelude.{ℕ, ◌+◌, Bool, false, ◌&&◌, ltb, leb}
use Rattle.std.specs.Int.Signed.{le_z}
use Rattle.quantity.specs.Ranges.{in_range}
use Rattle.quantity.specs.declared.Item.TheVariants.{GroupId, Class, StreamRate, Burst, Residence, Arrival}
use Rattle.records.specs.ExactTime.{tick_time, exactly, E_first}
use Rattle.records.specs.declared.Group.{Group}
use Rattle.records.specs.declared.Stream.{Stream}
use Rattle.records.specs.declared.Regulator.{Regulator}
use Rattle.records.specs.declared.Regulator.TheVariants.{Unset, Bucket}

-- a group: set up, its fields in range, G ≤ last arrival + M
unfoldable pub sound_group : Group → Bool
sound_group g =
    g.used && in_range Class g.class && in_range Residence g.residence.0 && in_range Arrival g.last.0
    && leb g.time.0 (g.last.0 + g.residence.0)

-- a regulator of rate r in a group of group time G; of a bucket: the burst in range, remainder < r, −b·10⁹/r ≤ E ≤ G
unfoldable pub sound_regulator : ℕ → ℕ → Regulator → Bool
sound_regulator r G Unset = false
sound_regulator r G (Bucket b e) =
    in_range Burst b.0 && ltb e.part r && le_z (E_first b.0) (exactly r e) && le_z (exactly r e) (tick_time r G)

-- a stream, with its group's record: its fields in range, its group sound
unfoldable pub sound : Stream → Group → Bool
sound s g =
    sound_group g && in_range GroupId s.group && in_range StreamRate s.rate.0
    && sound_regulator s.rate.0 g.time.0 s.regulator
