-- Document 01, 'The table file': what a GD record stands for.
-- m is a residence in ticks.
use Rattle.std.specs.Prelude.{ℕ}
use Rattle.quantity.specs.Kinds.{ticks}
use Rattle.tablefile.specs.declared.Record.{Record}
use Rattle.tablefile.specs.declared.Record.TheVariants.{Group, GroupDefault, Stream, Frame}

-- the residence of a group whose record has none
abbrev pub default_residence : ℕ
default_residence = 10_000_000

-- the record in full, under a default residence: a group without a residence has the default, and any other record is
-- in full already
abbrev pub in_full : ℕ → Record → Record
in_full m (Group group class residence) = Group group class residence
in_full m (GroupDefault group class) = Group group class (ticks m)
in_full m (Stream stream group rate burst) = Stream stream group rate burst
in_full m (Frame stream octets arrival) = Frame stream octets arrival
