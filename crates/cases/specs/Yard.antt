-- Files at which the premises of the promises of `replay_gathering` hold: document 01's example, from its second record on, in two parts, and one with a group that is set up twice.
-- Each field of the record is a premise at these values, or what comes of it. Places and counts are plain numbers.
use Rattle.std.specs.Prelude.{ℕ, ◌≤◌, ◌≡◌, List, [], ◌∷◌, ◌++◌, length, drop}
use Rattle.quantity.specs.Kinds.{ticks}
use Rattle.quantity.specs.declared.Refusal.TheVariants.{SetUpBefore}
use Rattle.tablefile.specs.BigEndian.{AreBytes}
use Rattle.reader.specs.Figures.{group_line, stream_line, example_file}
use Rattle.bridge.specs.Tables.{fresh_bridge, group_at}
use Rattle.bridge.specs.History.{group, bridge_after}
use Rattle.bridge.specs.declared.Bridge.{Bridge}
use Rattle.replay_gathering.specs.declared.End.TheVariants.{NotSetUp}
use Rattle.replay_gathering.specs.Gathering.{State, gather_from, begun}
use Rattle.replay_gathering.specs.Promises.{WantsMore, next}
use Rattle.cases.specs.TableFile.{lent}
use Rattle.cases.specs.Listing.{cut_file}

-- a gathering into three lists of three places begins
abbrev pub beginning : Bridge → State
beginning bridge = begun bridge (lent 3) (lent 3) (lent 3) 0

-- the tables after the example's first record
abbrev pub one_group : Bridge
one_group = bridge_after (group 0 6 224_000 ∷ [])

-- the group and the stream, and then nothing; and the group twice
abbrev pub set_ups : List ℕ
set_ups = group_line ++ stream_line

abbrev pub group_twice : List ℕ
group_twice = group_line ++ group_line

-- a group without a residence
abbrev pub default_group : List ℕ
default_group = 0x47 ∷ 0x44 ∷ 0x00 ∷ 0x06 ∷ []

pub record YardExamples : Type 0 where
  -- a GD is gathered with its default residence
  pub default_residence : (group_at (gather_from default_group (beginning fresh_bridge)).gathered.bridge 0).residence ≡ ticks 10_000_000
  -- FromAnyPlace: the example from place 12 on, with the group set up: four records are taken
  pub place_in_file : 12 ≤ length example_file
  pub at_front : (beginning one_group).at ≤ length (drop 12 example_file)
  pub four_records : (gather_from (drop 12 example_file) (beginning one_group)).gathered.records ≡ 4
  -- PartsAreOne: the example, cut in the middle of its first frame, wants more; what is left of it, with what follows, gives three arrivals
  pub are_bytes : AreBytes cut_file
  pub begins_in_it : (beginning fresh_bridge).at ≤ length cut_file
  pub wants_more : WantsMore (gather_from cut_file (beginning fresh_bridge)).gathered.why
  pub three_arrivals : (gather_from (drop 28 cut_file ++ drop 33 example_file) (next (gather_from cut_file (beginning fresh_bridge)))).gathered.count ≡ 3
  -- and so does a part that ends after a record
  pub set_ups_are_bytes : AreBytes set_ups
  pub begins_in_set_ups : (beginning fresh_bridge).at ≤ length set_ups
  pub set_ups_want_more : WantsMore (gather_from set_ups (beginning fresh_bridge)).gathered.why
  -- EndsForGood: a group that is set up twice ends the gathering, whatever follows
  pub twice_are_bytes : AreBytes group_twice
  pub begins_in_twice : (beginning fresh_bridge).at ≤ length group_twice
  pub not_set_up : (gather_from group_twice (beginning fresh_bridge)).gathered.why ≡ NotSetUp SetUpBefore
  pub wants_no_more : WantsMore (gather_from group_twice (beginning fresh_bridge)).gathered.why → ⊥
