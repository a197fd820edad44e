-- What the tests of soundness say, as facts on numbers, and the tests' values from such facts. Assumes nothing.
use mathlib.Core.Path.{◌≡◌}
use mathlib.Core.Bool.{true, false}
use Prim.Native.Nat.{ℕ, ◌+◌, ◌*◌, ◌≤◌, ◌<◌}
use native.Mathlib.Omega.{arith}
use lib.IntN.{ℤ, pos}
use lib.Dec.{ltb, leb}
use lib.Signed.{le_z}
use borrow.Author.Tests.{leb-true, ltb-true, le-leb, lt-ltb, le-ltb}
use Rattle.quantity.specs.Ranges.{in_range, most_of, least_of}
use Rattle.quantity.specs.declared.Item.TheVariants.{GroupId, Class, StreamRate, Burst, Residence, Arrival}
use Rattle.quantity.proofs.Booleans.{both, and_false}
use Rattle.quantity.proofs.Ranges.{within, at_least, at_most}
use Rattle.records.specs.ExactTime.{bit_time, tick_time, exactly, or_zero, E_first}
use Rattle.records.specs.Sound.{sound_group, sound_regulator, sound}
use Rattle.records.specs.Steps.{shortfall}
use Rattle.records.specs.declared.Moment.{Moment}
use Rattle.records.specs.declared.Group.{Group}
use Rattle.records.specs.declared.Stream.{Stream}
use Rattle.records.specs.declared.Regulator.TheVariants.{Bucket}
use Rattle.quantity.specs.declared.Bits.{Bits}
use Rattle.records.proofs.Integers.{opposite_above, opposite_below, is_le, is_not_le, of_le}

-- ---- a group
pub record GroupOk (g : Group) : Type 0 where
  pub used : g.used ≡ true
  pub class : g.class ≤ most_of Class
  pub residence : g.residence.0 ≤ most_of Residence
  pub last : g.last.0 ≤ most_of Arrival
  pub time : g.time.0 ≤ g.last.0 + g.residence.0

pub group_ok : (g : Group) → sound_group g ≡ true → GroupOk g
unfolding sound_group
group_ok g e =
    let a = both _ (leb g.time.0 (g.last.0 + g.residence.0)) e in
    let b = both _ (in_range Arrival g.last.0) a.0 in
    let c = both _ (in_range Residence g.residence.0) b.0 in
    let d = both g.used (in_range Class g.class) c.0 in
    record {
      used = d.0;
      class = at_most Class g.class d.1;
      residence = at_most Residence g.residence.0 c.1;
      last = at_most Arrival g.last.0 b.1;
      time = leb-true _ _ a.1;
    }

pub group_sound : (g : Group) → GroupOk g → sound_group g ≡ true
unfolding sound_group
group_sound g ok =
    simp (
      ok.used,
      within Class g.class (omega arith) ok.class,
      within Residence g.residence.0 (omega arith) ok.residence,
      within Arrival g.last.0 (omega arith) ok.last,
      le-leb _ _ ok.time,
    )

-- ---- a bucket, in ℕ: −b·10⁹ ≤ E ≤ G·r
pub record BucketOk (r G : ℕ) (b : ℕ) (e : Moment) : Type 0 where
  pub some : least_of Burst ≤ b
  pub most : b ≤ most_of Burst
  pub part : e.part < r
  pub low : shortfall (exactly r e) ≤ or_zero (exactly r e) + bit_time b
  pub high : or_zero (exactly r e) ≤ G * r + shortfall (exactly r e)

low_is : (z : ℤ) (b : ℕ) → le_z (E_first b) z ≡ true → shortfall z ≤ or_zero z + bit_time b
unfolding E_first
low_is z b e = omega (arith, of_le (E_first b) z e, opposite_above (pos (bit_time b)), opposite_below (pos (bit_time b)))

pub is_low : (z : ℤ) (b : ℕ) → shortfall z ≤ or_zero z + bit_time b → le_z (E_first b) z ≡ true
unfolding E_first
is_low z b h = is_le (E_first b) z (omega (arith, opposite_above (pos (bit_time b)), opposite_below (pos (bit_time b))))

pub is_not_low : (z : ℤ) (b : ℕ) → or_zero z + bit_time b < shortfall z → le_z (E_first b) z ≡ false
unfolding E_first
is_not_low z b h = is_not_le (E_first b) z (omega (arith, opposite_above (pos (bit_time b)), opposite_below (pos (bit_time b))))

module _ (r G : ℕ) (b : Bits) (e : Moment) where
  pub bucket_ok : sound_regulator r G (Bucket b e) ≡ true → BucketOk r G b.0 e
  unfolding sound_regulator
  bucket_ok h =
      let x = both _ (le_z (exactly r e) (tick_time r G)) h in
      let y = both _ (le_z (E_first b.0) (exactly r e)) x.0 in
      let z = both (in_range Burst b.0) (ltb e.part r) y.0 in
      record {
        some = at_least Burst b.0 z.0;
        most = at_most Burst b.0 z.0;
        part = ltb-true _ _ z.1;
        low = low_is (exactly r e) b.0 y.1;
        high = omega (arith, of_le (exactly r e) (tick_time r G) x.1);
      }

  pub bucket_sound : BucketOk r G b.0 e → sound_regulator r G (Bucket b e) ≡ true
  unfolding sound_regulator
  bucket_sound ok =
      simp (
        within Burst b.0 ok.some ok.most,
        lt-ltb _ _ ok.part,
        is_low (exactly r e) b.0 ok.low,
        is_le (exactly r e) (tick_time r G) (omega (arith, ok.high)),
      )

  -- ---- the returns of the bucket's test
  pub burst_out : in_range Burst b.0 ≡ false → sound_regulator r G (Bucket b e) ≡ false
  unfolding sound_regulator
  burst_out h = simp h

  pub part_out : r ≤ e.part → sound_regulator r G (Bucket b e) ≡ false
  unfolding sound_regulator
  part_out h = rw (le-ltb _ _ h, and_false (in_range Burst b.0))

-- ---- a stream with its group
pub record SoundOk (s : Stream) (g : Group) : Type 0 where
  pub group : GroupOk g
  pub id : s.group ≤ most_of GroupId
  pub slow : least_of StreamRate ≤ s.rate.0
  pub fast : s.rate.0 ≤ most_of StreamRate
  pub regulator : sound_regulator s.rate.0 g.time.0 s.regulator ≡ true

pub sound_ok : (s : Stream) (g : Group) → sound s g ≡ true → SoundOk s g
unfolding sound
sound_ok s g e =
    let a = both _ (sound_regulator s.rate.0 g.time.0 s.regulator) e in
    let b = both _ (in_range StreamRate s.rate.0) a.0 in
    let c = both (sound_group g) (in_range GroupId s.group) b.0 in
    record {
      group = group_ok g c.0;
      id = at_most GroupId s.group c.1;
      slow = at_least StreamRate s.rate.0 b.1;
      fast = at_most StreamRate s.rate.0 b.1;
      regulator = a.1;
    }

pub sound_of : (s : Stream) (g : Group) → SoundOk s g → sound s g ≡ true
unfolding sound
sound_of s g ok =
    simp (
      group_sound g ok.group,
      within GroupId s.group (omega arith) ok.id,
      within StreamRate s.rate.0 ok.slow ok.fast,
      ok.regulator,
    )
