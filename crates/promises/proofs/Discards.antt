-- The discard count, proved: forward over the calls, from whatever the count is. Assumes nothing.
use mathlib.Core.Path.{◌≡◌, refl, sym, ◌∙◌}
use mathlib.Core.Bool.{Bool, true, false}
use mathlib.Core.List.{List, [], ◌∷◌, ◌++◌}
use Prim.Native.Nat.{ℕ, ◌+◌, ◌%◌, ◌^◌, ◌<◌}
use native.Mathlib.Decide.{ℕ_discrete}
use native.Mathlib.Omega.{arith}
use borrow.Author.Tests.{eq-eqb, ne_eqb}
use Rattle.quantity.specs.Ranges.{in_range}
use Rattle.quantity.specs.declared.Item.TheVariants.{GroupId}
use Rattle.setup.specs.SetUp.{fresh_group, fresh_stream}
use Rattle.records.specs.declared.Group.{Group}
use Rattle.records.specs.declared.Stream.{Stream}
use Rattle.bridge.specs.Tables.{fresh_bridge, group_at, stream_at, with_group, with_stream}
use Rattle.bridge.specs.History.{Call, group, stream, frame, after_call, after, Outcome, released, discarded, outcome, outcomes}
use Rattle.bridge.specs.declared.Bridge.{Bridge}
use Rattle.promises.specs.Discards.{discards_of, DiscardCount}
use Rattle.promises.proofs.Places.{Sized, sized_fresh, sized_stream, groups_stay, group_case, fresh_group_law}
use Rattle.promises.proofs.Calls.{frame_at, Step, stays, group_made, stream_made, let_go, dropped, step}
use Rattle.promises.proofs.Steady.{home_in, home_used, sized_call}

-- the count that a group's record holds is n, which fits, and a group that is not set up has none
pub record Holds (n : ℕ) (g : Group) : Type 0 where
  pub count : g.discards ≡ n
  pub fits : n < 2 ^ 32
  pub unused : g.used ≡ false → n ≡ 0

never : {A : Type 0} (t : Bool) → t ≡ true → t ≡ false → A
never t p q = let z : true ≡ false = sym p ∙ q in let n : ◌≡◌ {A = ℕ} 0 1 = cc in absurd (omega arith)

-- what one call adds to the count of group g
module _ (b : Bridge) (z : Sized b) (g n : ℕ) (h : Holds n (group_at b g)) where
  Counts : Call → Type 0
  Counts x = (m : ℕ) × (Holds m (group_at (after_call b x) g)) × ((os : List Outcome) → (m + discards_of g os) % 2 ^ 32 ≡ (n + discards_of g (outcome b x ++ os)) % 2 ^ 32)

  -- nothing, where the record stays as far as the count goes
  adds_none : (x : Call) → outcome b x ≡ [] → Holds n (group_at (after_call b x) g) → Counts x
  unfolding Counts
  adds_none x o k = (n, k, λ os. rw o)

  module _ (i l A T : ℕ) where
    adds_release : (x : Call) → outcome b x ≡ released (frame_at b i l A T) ∷ [] → Holds n (group_at (after_call b x) g) → Counts x
    unfolding Counts discards_of
    adds_release x o k = (n, k, λ os. rw o)

    adds_other : (x : Call) → outcome b x ≡ discarded (frame_at b i l A T) ∷ [] → ((stream_at b i).group ≡ g → ⊥) → Holds n (group_at (after_call b x) g) → Counts x
    unfolding Counts discards_of
    adds_other x o d k = (n, k, λ os. rw (o, ne_eqb _ _ d) (omega arith))

    adds_one : (x : Call) → outcome b x ≡ discarded (frame_at b i l A T) ∷ [] → (stream_at b i).group ≡ g → Holds ((n + 1) % 2 ^ 32) (group_at (after_call b x) g) → Counts x
    unfolding Counts discards_of
    adds_one x o d k = ((n + 1) % 2 ^ 32, k, λ os. rw (o, eq-eqb _ _ d) (omega arith))

  -- the record of group g after a frame's two records were stored
  stored : (i : ℕ) (s : Stream) (f : Group) (m : ℕ) → in_range GroupId (stream_at b i).group ≡ true → ((stream_at b i).group ≡ g → Holds m f) → (((stream_at b i).group ≡ g → ⊥) → Holds m (group_at b g)) → Holds m (group_at (with_group (with_stream b i s) (stream_at b i).group f) g)
  stored i s f m k own rest =
      group_case (with_stream b i s) (sized_stream b i s z) (stream_at b i).group k f g (λ x. Holds m x) own (λ d. rw (groups_stay b i s g) (rest d))

  -- a group that is made had no discards, and has none
  made : (i c M : ℕ) → i ≡ g → (group_at b i).used ≡ false → Holds n (fresh_group c M)
  unfolding fresh_group
  made i c M p u =
      let e : n ≡ 0 = h.unused (rw p at u) in
      record { count = sym e; fits = h.fits; unused = λ y. e }

  counts : (x : Call) → Step b x → Counts x
  counts x (stays e o) = adds_none x o (rw e h)
  counts (group i c M) (group_made v e o) = adds_none (group i c M) o (rw e (group_case b z i v.id (fresh_group c M) g (λ x. Holds n x) (λ p. made i c M p v.unused) (λ d. h)))
  counts (stream i k r u) (stream_made v e o) = adds_none (stream i k r u) o (rw e (rw (groups_stay b i (fresh_stream k r u) g) h))
  counts (frame i l A) (let_go T s p t m e o) =
      adds_release i l A T (frame i l A) o
      (rw e (stored i _ _ n (home_in b i l A p) (λ q. record { count = rw q h.count; fits = h.fits; unused = λ y. never _ (home_used b i l A p) y }) (λ d. h)))
  counts (frame i l A) (dropped T s p t m e o) = by (ℕ_discrete (stream_at b i).group g)
    where
      by : Dec ((stream_at b i).group ≡ g) → Counts (frame i l A)
      by (yes q) = adds_one i l A T (frame i l A) o q (rw e (stored i _ _ _ (home_in b i l A p) (λ y. record { count = rw (q, h.count); fits = omega arith; unused = λ v. never _ (home_used b i l A p) v }) (λ d. absurd (d q))))
      by (no d) = adds_other i l A T (frame i l A) o d (rw e (stored i _ _ n (home_in b i l A p) (λ q. absurd (d q)) (λ y. h)))

count_from : (g : ℕ) (xs : List Call) (b : Bridge) → Sized b → (n : ℕ) → Holds n (group_at b g) → (group_at (after b xs) g).discards ≡ (n + discards_of g (outcomes b xs)) % 2 ^ 32
unfolding after outcomes discards_of Counts
count_from g [] b z n h = omega (arith, h.count, h.fits)
count_from g (x ∷ xs) b z n h =
    let k = counts b z g n h x (step b x) in
    count_from g xs (after_call b x) (sized_call b z x) k.0 k.1 ∙ k.2 (outcomes (after_call b x) xs)

pub discard_count : DiscardCount
unfolding DiscardCount
discard_count xs g =
    omega (arith, count_from g xs fresh_bridge sized_fresh 0 (rw (fresh_group_law g) (record { count = refl; fits = omega arith; unused = λ y. refl })))
