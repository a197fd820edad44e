-- Document 01, 'The table file': the call that a record stands for, and its line in the listing.
-- b is the bridge, n a count of lines, i an id, c a class, M a residence limit, k a stream's group, r a rate, u a burst, A an arrival.
use Rattle.std.specs.Prelude.{ℕ, ◌+◌, List}
use Rattle.tablefile.specs.Layout.{mark, kind_of}
use Rattle.tablefile.specs.Meaning.{default_residence}
use Rattle.tablefile.specs.declared.Record.{Record}
use Rattle.tablefile.specs.declared.Record.TheVariants.{Group, GroupDefault, Stream, Frame}
use Rattle.bridge.specs.History.{Call, group, stream, frame, reply}
use Rattle.bridge.specs.declared.Bridge.{Bridge}
use Rattle.listing_text.specs.Lines.{line_of}

-- ---- what a record does

-- GR and GD set up a group, ST sets up a stream, FR is a frame
unfoldable pub call_of : Record → Call
call_of (Group i c M) = group i c M.0
call_of (GroupDefault i c) = group i c default_residence
call_of (Stream i k r u) = stream i k r.0 u
call_of (Frame i n A) = frame i n A.0

-- ---- its line

-- the line of a record after n lines: the mark's letters, and what its call on the tables b answers
unfoldable pub record_line : Bridge → ℕ → Record → List ℕ
record_line b n r = line_of (n + 1) (mark (kind_of r)) (reply b (call_of r)).number (reply b (call_of r)).values
