-- Document 01, 'Quantities' and 'One frame through a scheduler': the tables of 16 groups and 64 streams.
-- b is a bridge, i an id. A place that is not set up holds an empty record.
use Rattle.std.specs.Prelude.{ℕ, false, get_or, set, replicate}
use Rattle.quantity.specs.Kinds.{ticks, per_second}
use Rattle.records.specs.declared.Group.{Group}
use Rattle.records.specs.declared.Stream.{Stream}
use Rattle.records.specs.declared.Regulator.TheVariants.{Unset}
use Rattle.bridge.specs.declared.Bridge.{Bridge}

-- a group and a stream that are not set up
abbrev pub no_group : Group
no_group = record { used = false; class = 0; residence = ticks 0; time = ticks 0; last = ticks 0; discards = 0 }

abbrev pub no_stream : Stream
no_stream = record { group = 0; rate = per_second 0; regulator = Unset }

-- nothing is set up at the start
unfoldable pub fresh_bridge : Bridge
fresh_bridge = record { groups = replicate 16 no_group; streams = replicate 64 no_stream }

-- the record of an id; for an id out of range an empty one
unfoldable pub group_at : Bridge → ℕ → Group
group_at b i = get_or b.groups i no_group

unfoldable pub stream_at : Bridge → ℕ → Stream
stream_at b i = get_or b.streams i no_stream

-- the tables with one record changed
unfoldable pub with_group : Bridge → ℕ → Group → Bridge
with_group b i g = record { groups = set b.groups i g; streams = b.streams }

unfoldable pub with_stream : Bridge → ℕ → Stream → Bridge
with_stream b i s = record { groups = b.groups; streams = set b.streams i s }
