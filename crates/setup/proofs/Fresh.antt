-- A record that is set up: its test returns, one law each, and that it is sound. Assumes nothing.
use mathlib.Core.Path.{◌≡◌, refl}
use mathlib.Core.Bool.{true, false}
use Prim.Native.Nat.{ℕ, ◌<◌}
use native.Mathlib.Omega.{arith}
use lib.IntN.{pos}
use Rattle.quantity.specs.Ranges.{in_range}
use Rattle.quantity.specs.declared.Item.TheVariants.{GroupId, Class, StreamRate, Burst, Residence}
use Rattle.quantity.specs.declared.Refusal.TheVariants.{Unsound, NoGroup, RateRange, BurstRange, ResidenceRange, ClassRange}
use Rattle.quantity.proofs.Booleans.{and_false}
use Rattle.quantity.proofs.Ranges.{at_least, at_most}
use Rattle.records.specs.ExactTime.{bit_time, exactly, moment_of, E_first}
use Rattle.records.specs.Sound.{sound_group, sound}
use Rattle.setup.specs.SetUp.{fresh_group, fresh_stream, group_set_up, stream_set_up}
use Rattle.records.specs.declared.Group.{Group}
use Rattle.records.proofs.Integers.{opposite_above, opposite_below}
use Rattle.records.proofs.ExactTime.{exactly_of, part_of}
use Rattle.records.proofs.Soundness.{group_ok, group_sound, bucket_sound, sound_of}
use Rattle.std.proofs.Common.{Ok, Err}

-- ---- a group
module _ (c M : ℕ) where
  pub class_out : in_range Class c ≡ false → group_set_up c M ≡ Err ClassRange
  unfolding group_set_up
  class_out e = simp e

  module _ (h : in_range Class c ≡ true) where
    pub residence_out : in_range Residence M ≡ false → group_set_up c M ≡ Err ResidenceRange
    unfolding group_set_up
    residence_out e = simp (h, e)

    pub group_done : in_range Residence M ≡ true → group_set_up c M ≡ Ok (fresh_group c M)
    unfolding group_set_up
    group_done e = simp (h, e)

    pub fresh_group_sound : in_range Residence M ≡ true → sound_group (fresh_group c M) ≡ true
    unfolding fresh_group
    fresh_group_sound e =
        group_sound _ (
        record {
          used = refl;
          class = at_most Class c h;
          residence = at_most Residence M e;
          last = omega arith;
          time = omega arith;
        }
        )

-- ---- a stream in the group i, whose record is g
module _ (i : ℕ) (g : Group) (r b : ℕ) where
  pub group_out : in_range GroupId i ≡ false → stream_set_up i g r b ≡ Err NoGroup
  unfolding stream_set_up
  group_out e = simp e

  pub group_unused : g.used ≡ false → stream_set_up i g r b ≡ Err NoGroup
  unfolding stream_set_up
  group_unused e = simp (e, and_false)

  module _ (k : in_range GroupId i ≡ true) (u : g.used ≡ true) where
    pub group_unsound : sound_group g ≡ false → stream_set_up i g r b ≡ Err Unsound
    unfolding stream_set_up
    group_unsound e = simp (k, u, e)

    module _ (s : sound_group g ≡ true) where
      pub rate_out : in_range StreamRate r ≡ false → stream_set_up i g r b ≡ Err RateRange
      unfolding stream_set_up
      rate_out e = simp (k, u, s, e)

      module _ (f : in_range StreamRate r ≡ true) where
        pub burst_out : in_range Burst b ≡ false → stream_set_up i g r b ≡ Err BurstRange
        unfolding stream_set_up
        burst_out e = simp (k, u, s, f, e)

        pub stream_done : in_range Burst b ≡ true → stream_set_up i g r b ≡ Ok (fresh_stream i r b)
        unfolding stream_set_up
        stream_done e = simp (k, u, s, f, e)

        pub fresh_stream_sound : in_range Burst b ≡ true → sound (fresh_stream i r b) g ≡ true
        unfolding fresh_stream E_first
        fresh_stream_sound e =
            let p : 0 < r = omega (arith, at_least StreamRate r f) in
            let z = E_first b in
            let is : exactly r (moment_of r z) ≡ z = exactly_of r p z in
            let ok = group_ok g s in
            sound_of (fresh_stream i r b) g (
            record {
              group = ok;
              id = at_most GroupId i k;
              slow = at_least StreamRate r f;
              fast = at_most StreamRate r f;
              regulator = bucket_sound r g.time.0 (record { 0 = b }) (moment_of r z) (
                  record {
                    some = at_least Burst b e;
                    most = at_most Burst b e;
                    part = part_of r p z;
                    low = rw is (omega (arith, opposite_above (pos (bit_time b)), opposite_below (pos (bit_time b))));
                    high = rw is (omega (arith, opposite_above (pos (bit_time b))));
                  }
                  );
            }
            )
