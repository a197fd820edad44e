-- Document 01, 'The table file': the listing of a whole file.
-- b is the bridge, n a count of lines.
use Rattle.std.specs.Prelude.{ℕ, ◌+◌, List, [], ◌∷◌, ◌++◌, length}
use Rattle.reader.specs.File.{Contents, contents}
use Rattle.tablefile.specs.declared.Record.{Record}
use Rattle.bridge.specs.Tables.{fresh_bridge}
use Rattle.bridge.specs.History.{after_call}
use Rattle.bridge.specs.declared.Bridge.{Bridge}
use Rattle.listing_text.specs.Lines.{ending}
use Rattle.listing_part.specs.Records.{call_of, record_line}

-- one line per record, each after the calls of those before it
unfoldable pub record_lines : Bridge → ℕ → List Record → List ℕ
record_lines b n [] = []
record_lines b n (r ∷ rs) = record_line b n r ++ record_lines (after_call b (call_of r)) (n + 1) rs

-- what a file holds, listed on tables b after n lines
unfoldable pub listing_of : Bridge → ℕ → Contents → List ℕ
listing_of b n c = record_lines b n c.records ++ ending (n + length c.records) c.ended

abbrev pub listing_from : Bridge → ℕ → List ℕ → List ℕ
listing_from b n bytes = listing_of b n (contents bytes)

-- the listing of a file: from a fresh start
abbrev pub listing : List ℕ → List ℕ
listing bytes = listing_from fresh_bridge 0 bytes
