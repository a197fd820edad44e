-- A number that does not fit its field is as far out of range as the field's largest: a call on the narrowed number refuses as the call on the wide one. Assumes nothing.
use mathlib.Core.Path.{◌≡◌, refl, sym, ap, ◌∙◌}
use mathlib.Core.Bool.{Bool, true, false}
use Prim.Native.Nat.{ℕ, ◌≤◌, min}
use native.Mathlib.Omega.{arith}
use lib.Dec.{leb, eqb}
use borrow.Author.Tests.{leb-true, leb-false, eqb-true}
use Rattle.quantity.specs.declared.Item.TheVariants.{StreamId, GroupId, Class, Octets}
use Rattle.quantity.specs.declared.Refusal.TheVariants.{Unsound}
use Rattle.quantity.proofs.Ranges.{too_high}
use Rattle.quantity.proofs.Booleans.{and_false}
use Rattle.records.specs.Numbers.{is_set_up}
use Rattle.admission.specs.Tests.{tested}
use Rattle.shaper.specs.Numbers.{judged, refused}
use Rattle.setup.specs.SetUp.{group_set_up, stream_set_up}
use Rattle.records.specs.Sound.{sound, sound_group}
use Rattle.records.specs.declared.Group.{Group}
use Rattle.records.specs.declared.Stream.{Stream}
use Rattle.shaper.proofs.Judging.{unsound}
use Rattle.calls.specs.Calls.{group_placed, stream_placed}
use Rattle.lent.specs.InPlace.{judged_in}
use Rattle.firmware.specs.Steps.{most_of_byte, most_of_half}
use Rattle.lent.proofs.InPlaceLaws.{unset, elsewhere, at_home}

-- a law that holds where the number fits, and where two numbers are too large, holds of the number and what narrows it
module _ {A : Type 0} (f : ℕ → A) (most : ℕ) (beyond : (m n : ℕ) → most ≤ m → most ≤ n → f m ≡ f n) where
  pub narrows : (n : ℕ) → f (min n most) ≡ f n
  narrows n = go (leb n most) refl
    where
      go : (t : Bool) → leb n most ≡ t → f (min n most) ≡ f n
      go true e = ap f (omega (arith, leb-true n most e))
      go false e = beyond (min n most) n (omega (arith, leb-false n most e)) (omega (arith, leb-false n most e))

-- a group's set-up
module _ (g : Group) (M : ℕ) where
  group_id : (c m n : ℕ) → most_of_byte ≤ m → most_of_byte ≤ n → group_placed m g c M ≡ group_placed n g c M
  unfolding group_placed
  group_id c m n a b = simp (too_high GroupId m (omega (arith, a)), too_high GroupId n (omega (arith, b)))

  class_out : (m n : ℕ) → most_of_byte ≤ m → most_of_byte ≤ n → group_set_up m M ≡ group_set_up n M
  unfolding group_set_up
  class_out m n a b = simp (too_high Class m (omega (arith, a)), too_high Class n (omega (arith, b)))

  group_class : (i m n : ℕ) → most_of_byte ≤ m → most_of_byte ≤ n → group_placed i g m M ≡ group_placed i g n M
  unfolding group_placed
  group_class i m n a b = rw (class_out m n a b)

  pub wide_group : (i c : ℕ) → group_placed (min i most_of_byte) g (min c most_of_byte) M ≡ group_placed i g c M
  wide_group i c =
      narrows (λ (m : ℕ). group_placed m g (min c most_of_byte) M) most_of_byte (group_id (min c most_of_byte)) i
      ∙ narrows (λ (m : ℕ). group_placed i g m M) most_of_byte (group_class i) c

-- a stream's set-up
module _ (s : Stream) (g : Group) (r u : ℕ) where
  stream_id : (k m n : ℕ) → most_of_byte ≤ m → most_of_byte ≤ n → stream_placed m s k g r u ≡ stream_placed n s k g r u
  unfolding stream_placed
  stream_id k m n a b = simp (too_high StreamId m (omega (arith, a)), too_high StreamId n (omega (arith, b)))

  home_out : (m n : ℕ) → most_of_byte ≤ m → most_of_byte ≤ n → stream_set_up m g r u ≡ stream_set_up n g r u
  unfolding stream_set_up
  home_out m n a b = simp (too_high GroupId m (omega (arith, a)), too_high GroupId n (omega (arith, b)))

  stream_home : (i m n : ℕ) → most_of_byte ≤ m → most_of_byte ≤ n → stream_placed i s m g r u ≡ stream_placed i s n g r u
  unfolding stream_placed
  stream_home i m n a b = rw (home_out m n a b)

  pub wide_stream : (i k : ℕ) → stream_placed (min i most_of_byte) s (min k most_of_byte) g r u ≡ stream_placed i s k g r u
  wide_stream i k =
      narrows (λ (m : ℕ). stream_placed m s (min k most_of_byte) g r u) most_of_byte (stream_id (min k most_of_byte)) i
      ∙ narrows (λ (m : ℕ). stream_placed i s m g r u) most_of_byte (stream_home i) k

-- a frame
module _ (s : Stream) (g : Group) (A : ℕ) where
  homeless : most_of_byte ≤ s.group → sound s g ≡ false
  unfolding sound
  homeless h = rw (too_high GroupId s.group (omega (arith, h)), and_false (sound_group g))

  -- a stream whose group is out of range is unsound, so it does not matter whether it is compared with an id there
  far : (n m : ℕ) → most_of_byte ≤ m → is_set_up s.regulator ≡ true → judged_in m s g n A ≡ refused s g Unsound
  far n m a u = go (eqb s.group m) refl
    where
      go : (t : Bool) → eqb s.group m ≡ t → judged_in m s g n A ≡ refused s g Unsound
      go true e = at_home m s g n A u e ∙ unsound s g n A u (homeless (omega (arith, a, eqb-true s.group m e)))
      go false e = elsewhere m s g n A u e

  frame_id : (o m n : ℕ) → most_of_byte ≤ m → most_of_byte ≤ n → judged_in m s g o A ≡ judged_in n s g o A
  frame_id o m n a b = go (is_set_up s.regulator) refl
    where
      go : (t : Bool) → is_set_up s.regulator ≡ t → judged_in m s g o A ≡ judged_in n s g o A
      go true u = far o m a u ∙ sym (far o n b u)
      go false u = unset m s g o A u ∙ sym (unset n s g o A u)

  octets_out : (m n : ℕ) → most_of_half ≤ m → most_of_half ≤ n → judged s g m A ≡ judged s g n A
  unfolding judged tested
  octets_out m n a b = simp (too_high Octets m (omega (arith, a)), too_high Octets n (omega (arith, b)))

  frame_octets : (i m n : ℕ) → most_of_half ≤ m → most_of_half ≤ n → judged_in i s g m A ≡ judged_in i s g n A
  unfolding judged_in
  frame_octets i m n a b = rw (octets_out m n a b)

  pub wide_frame : (i n : ℕ) → judged_in (min i most_of_byte) s g (min n most_of_half) A ≡ judged_in i s g n A
  wide_frame i n =
      narrows (λ (m : ℕ). judged_in m s g (min n most_of_half) A) most_of_byte (frame_id (min n most_of_half)) i
      ∙ narrows (λ (m : ℕ). judged_in i s g m A) most_of_half (frame_octets i) n
