-- The examples of gatherings, proved. Assumes nothing.
use mathlib.Core.Path.{◌≡◌, refl}
use lib.Dec.{lit≤}
use lib.ListN.{drop}
use Prim.Native.Nat.{ℕ}
use native.Mathlib.Omega.{arith}
use Rattle.reader.specs.Figures.{example_file}
use Rattle.quantity.specs.Ranges.{in_range}
use Rattle.quantity.specs.declared.Refusal.{Refusal}
use Rattle.quantity.specs.declared.Refusal.TheVariants.{SetUpBefore}
use Rattle.records.specs.Sound.{sound_group}
use Rattle.setup.specs.SetUp.{group_set_up, stream_set_up, fresh_stream, fresh_group}
use Rattle.calls.specs.Calls.{group_placed, taken, stream_placed}
use Rattle.bridge.specs.Calls.{group_called, group_stored, stream_called, stream_stored}
use Rattle.bridge.specs.History.{after, after_call}
use Rattle.bridge.specs.Tables.{group_at, stream_at, with_group, with_stream, fresh_bridge}
use Rattle.tablefile.specs.BigEndian.{number}
use Rattle.tablefile.specs.Layout.{kinds, field_numbers, total, size}
use Rattle.reader.specs.Reader.{read_at, read_left, read_marked, marked_among, is_mark, read_fields}
use Rattle.replay_gathering.specs.declared.End.{End}
use Rattle.replay_gathering.specs.declared.End.TheVariants.{NotSetUp}
use Rattle.replay_gathering.specs.Gathering.{ended, has_room, task_of, task_for, room_in, task_at, called, set_up_taken, after_set_up, setting_up, frame_taken, onward, gather_for, gather_from, begun}
use Rattle.replay_gathering.specs.Promises.{WantsMore, nothing_left, cut_short, next}
use Rattle.replay_gathering.proofs.Promises.{from_any_place, parts_are_one, ends_for_good}
use Rattle.cases.specs.Listing.{cut_file}
use Rattle.cases.specs.Yard.{beginning, one_group, set_ups, group_twice, YardExamples}
use Rattle.cases.proofs.Bytes.{are_bytes}

-- a set-up that is refused wants no more
no_more : {e : End} (why : Refusal) → WantsMore e → e ≡ NotSetUp why → ⊥
no_more why nothing_left p =
    let z : ◌≡◌ {A = ℕ} 0 1 = cc in
    omega arith
no_more why cut_short p =
    let z : ◌≡◌ {A = ℕ} 0 1 = cc in
    omega arith

pub yard_examples : YardExamples
unfolding gather_from gather_for begun next onward frame_taken setting_up after_set_up set_up_taken called task_at room_in task_for task_of has_room ended after after_call group_called group_stored group_placed taken stream_called stream_stored stream_placed group_at stream_at with_group with_stream fresh_bridge group_set_up stream_set_up fresh_stream fresh_group sound_group in_range read_at read_left read_marked marked_among kinds is_mark read_fields field_numbers number total size
yard_examples = record {
  default_residence = refl;
  place_in_file = lit≤ tt;
  at_front = lit≤ tt;
  four_records = refl;
  are_bytes = are_bytes cut_file refl;
  begins_in_it = lit≤ tt;
  wants_more = cut_short;
  three_arrivals = refl;
  set_ups_are_bytes = are_bytes set_ups refl;
  begins_in_set_ups = lit≤ tt;
  set_ups_want_more = nothing_left;
  twice_are_bytes = are_bytes group_twice refl;
  begins_in_twice = lit≤ tt;
  not_set_up = refl;
  wants_no_more = λ w. no_more SetUpBefore w refl;
}

-- ---- each promise at these values: its premises are all among the examples
pub yard_premises : YardExamples → Unit {0}
yard_premises x =
    let from_there = from_any_place example_file 12 1 x.place_in_file (beginning one_group) x.at_front in
    let one = parts_are_one cut_file (drop 33 example_file) x.are_bytes (beginning fresh_bridge) x.begins_in_it x.wants_more in
    let one-too = parts_are_one set_ups (drop 28 example_file) x.set_ups_are_bytes (beginning fresh_bridge) x.begins_in_set_ups x.set_ups_want_more in
    let for_good = ends_for_good group_twice (drop 12 example_file) x.twice_are_bytes (beginning fresh_bridge) x.begins_in_twice x.wants_no_more in
    tt
