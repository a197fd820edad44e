-- Document 01, 'One frame through a scheduler', in natural numbers: the form in which theorems about many frames are proved.
-- In r-ths of a tick X is F, that is E·r + b·10⁹: 0 at the start, and never below. Each statement has a name here, and its proof under the same name in the file Promises of proofs/.
use Rattle.std.specs.Prelude.{◌≡◌, ℕ, ◌+◌, ◌*◌, ◌<◌, ◌≤◌, max, true}
use Rattle.records.specs.ExactTime.{bit_time, exactly, or_zero}
use Rattle.records.specs.Sound.{sound_regulator, sound}
use Rattle.records.specs.declared.Group.{Group}
use Rattle.records.specs.declared.Stream.{Stream}
use Rattle.records.specs.declared.Regulator.{Regulator}
use Rattle.records.specs.declared.Regulator.TheVariants.{Unset, Bucket}
use Rattle.setup.specs.SetUp.{fresh_stream}
use Rattle.shaper.specs.Frame.{burst_of, F, after_release, eligibility_time}

-- X of a regulator
unfoldable pub X : ℕ → Regulator → ℕ
X r Unset = 0
X r (Bucket b e) = or_zero (F (exactly r e) b.0)

-- a whole tick t at which a frame of L bits that arrives at A may be eligible: from A and G on, and not before the bucket has L bits
pub record Eligible (s : Stream) (g : Group) (L A t : ℕ) : Type 0 where
  pub arrived : A ≤ t
  pub in_order : g.time.0 ≤ t
  pub filled : X s.rate.0 s.regulator + bit_time L ≤ t * s.rate.0 + bit_time (burst_of s.regulator)

-- T is one
abbrev pub TIsEligible : Type 0
TIsEligible = (s : Stream) (g : Group) → sound s g ≡ true → (L A : ℕ) → Eligible s g L A (eligibility_time s g L A)

-- and the least
abbrev pub TIsLeast : Type 0
TIsLeast = (s : Stream) (g : Group) → sound s g ≡ true → (L A t : ℕ) → Eligible s g L A t → eligibility_time s g L A ≤ t

-- after a release at T
abbrev pub XAfter : Type 0
XAfter = (r G : ℕ) → 0 < r → (L T : ℕ) (k : Regulator) → sound_regulator r G k ≡ true → X r (after_release r k L T) ≡ max (X r k) (T * r) + bit_time L

-- and at the start
abbrev pub XFresh : Type 0
XFresh = (i r b : ℕ) → 0 < r → X r (fresh_stream i r b).regulator ≡ 0
