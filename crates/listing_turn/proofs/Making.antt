-- Laws of a turn over lent buffers: what its calls leave is what its definition says. Assumes nothing.
use Rattle.std.proofs.Common.{◌≡◌, ℕ, ◌+◌, ◌-◌, ◌%◌, ◌^◌, ◌<◌, ◌≤◌, Bool, true, false, cond, List, [], ◌++◌, length, take, drop, sym, refl, ap, ◌∙◌, subst, append-nil, zero-add, arith, length-append, length-take-le}
use Rattle.quantity.proofs.Booleans.{cond_true, cond_false}
use Rattle.tablefile.specs.Layout.{size}
use lib.Seq.{sets, length-sets}
use Rattle.text.specs.Places.{Placed}
use Rattle.text.proofs.Putting.{sets_append}
use Rattle.tablefile.specs.Answers.{reading_number}
use Rattle.tablefile.specs.declared.Reading.{Reading}
use Rattle.bridge.specs.declared.Bridge.{Bridge}
use Rattle.listing_text.specs.Lines.{ending}
use Rattle.listing_text.specs.Places.{may_end, put_where, end_put}
use Rattle.listing_part.specs.Parts.{part_of, ListedPart, listed_of, part_put, part_listed}
use Rattle.listing_part.specs.declared.Listed.{Listed}
use Rattle.listing_part.proofs.Promises.{part_within}
use Rattle.intake.specs.Holding.{Within, is_within, held_in, Kept, kept_for}
use Rattle.intake.specs.declared.Held.{Held}
use Rattle.intake.specs.declared.Next.{Next}
use Rattle.intake.specs.declared.Next.TheVariants.{GoesOn, Reads, Ends, Fails}
use Rattle.listing_text.proofs.Promises.{end_within}
use Rattle.intake.proofs.Promises.{within_is, kept_within, kept_same, held_after_use, room_to_read}
use Rattle.listing_turn.specs.Promises.{TurnWithin, TurnLeaves, TurnMakesRoom}
use Rattle.intake.proofs.Keeping.{length_part}
use Rattle.listing_turn.specs.Turns.{next_of, end_if, end_put_if, turn_of, list_turn, reached_by, left_held, Made, made_of, held_listed, nothing_listed, turn_made}
use Rattle.listing_turn.specs.declared.Standing.{Standing}
use Rattle.intake.specs.declared.Turned.{Turned}
use Rattle.listing_turn.proofs.Nexts.{end_may}
use Rattle.listing_turn.proofs.Moving.{kept_is_short}

-- ---- the end behind the lines

-- a text behind the lines
text_put : List ℕ → List ℕ → Placed
text_put out ts = record { next = length ts; bytes = sets out 0 ts }

nothing_more : (out text : List ℕ) → record { next = length text; bytes = sets out 0 text } ≡ text_put out (text ++ [])
unfolding text_put
nothing_more out text = ap (λ (ts : List ℕ). record { next = length ts; bytes = sets out 0 ts }) (sym (append-nil text))

end_put_law : (x : Next) (out text : List ℕ) (n : ℕ) (r : Reading) → (x ≡ Ends → may_end n (length text) (length out) ≡ true)
    → end_put_if x (sets out 0 text) (length text) n r ≡ text_put out (text ++ end_if x n r)
unfolding end_put_if end_if end_put put_where text_put
end_put_law GoesOn out text n r h = nothing_more out text
end_put_law Reads out text n r h = nothing_more out text
end_put_law Ends out text n r h =
    let ts = ending n (reading_number r) in
    let l = sets out 0 text in
    let may : may_end n (length text) (length l) ≡ true = ap (may_end n (length text)) (length-sets out 0 text) ∙ h refl in
    ap (λ (t : Bool). cond {A = Placed} t (record { next = length text + length ts; bytes = sets l (length text) ts }) (record { next = length text; bytes = l })) may
    ∙ ap (λ (k : ℕ). record { next = k; bytes = sets l (length text) ts }) (sym (length-append text ts))
    ∙ ap (λ (m : List ℕ). record { next = length (text ++ ts); bytes = m }) (ap (λ (k : ℕ). sets l k ts) (sym (zero-add (length text))) ∙ sets_append text ts out 0)
end_put_law Fails out text n r h = nothing_more out text

-- ---- the whole

-- the answer and the buffers, by what the calls gave
made : ListedPart → ℕ → Next → Placed → Kept → Made
made l bytes next p k = record {
  turned = record {
    standing = record { bridge = l.listed.bridge; count = l.listed.count; bytes = bytes; held = k.held };
    written = p.next;
    next = next;
  };
  input = k.bytes;
  output = p.bytes;
}

module _ (x : Standing) (input output : List ℕ) where
  -- what came next, where the lines stand in a buffer of so many bytes
  next_by : ListedPart → ℕ → Next
  next_by l size = next_of l.listed.reading x.held.told l.listed.count l.listed.written size

  by_next : ListedPart → Next → Made
  by_next l next =
      made l ((x.bytes + l.listed.place) % 2 ^ 64) next
      (end_put_if next l.out l.listed.written l.listed.count l.listed.reading)
      (kept_for next (left_held x.held l.listed.place) input)

  by_listed : ListedPart → Made
  by_listed l = by_next l (next_by l (length l.out))

  as_defined : by_listed (part_listed (held_in x.held input) x.bridge x.count output) ≡ held_listed x input output
  unfolding by_listed by_next next_by made part_listed part_put listed_of held_listed made_of list_turn turn_of reached_by text_put
  as_defined =
      let P = part_of (held_in x.held input) (length output) x.bridge x.count in
      let N = next_of P.reading x.held.told P.count (length P.text) (length output) in
      let l = part_listed (held_in x.held input) x.bridge x.count output in
      ap (λ (size : ℕ). by_next l (next_by l size)) (length-sets output 0 P.text)
      ∙ ap (λ (p : Placed). made l ((x.bytes + P.place) % 2 ^ 64) N p (kept_for N (left_held x.held P.place) input))
      (end_put_law N output P.text P.count P.reading (end_may P.reading x.held.told P.count (length P.text) (length output)))

  pub turn_made_law : (listed : Listed) (out : List ℕ) (bytes : ℕ) (next : Next) (written : ℕ) (out₂ : List ℕ) (kept : Held) (in₂ : List ℕ)
      → record { listed = listed; out = out } ≡ part_listed (held_in x.held input) x.bridge x.count output
      → bytes ≡ (x.bytes + listed.place) % 2 ^ 64
      → next ≡ next_of listed.reading x.held.told listed.count listed.written (length out)
      → record { next = written; bytes = out₂ } ≡ end_put_if next out listed.written listed.count listed.reading
      → record { held = kept; bytes = in₂ } ≡ kept_for next (left_held x.held listed.place) input
      → record {
        turned = record { standing = record { bridge = listed.bridge; count = listed.count; bytes = bytes; held = kept }; written = written; next = next };
        input = in₂;
        output = out₂;
      } ≡ held_listed x input output
  unfolding by_listed by_next next_by made
  turn_made_law listed out bytes next written out₂ kept in₂ e b n p k =
      let l : ListedPart = record { listed = listed; out = out } in
      ap (λ (v : Placed). made l bytes next v (record { held = kept; bytes = in₂ })) p
      ∙ ap (λ (v : Kept). made l bytes next (end_put_if next out listed.written listed.count listed.reading) v) k
      ∙ ap (λ (v : ℕ). made l v next (end_put_if next out listed.written listed.count listed.reading) (kept_for next (left_held x.held listed.place) input)) b
      ∙ ap (by_next l) n
      ∙ ap by_listed e
      ∙ as_defined

-- ---- within

-- what was listed is in the bytes that were held
pub part_used : (h : Held) (input out o : List ℕ) (b : Bridge) (n : ℕ) (r : Listed) → Within h (length input)
    → record { listed = r; out = o } ≡ part_listed (held_in h input) b n out → r.place ≤ h.filled - h.place
unfolding part_listed part_put listed_of held_in
part_used h input out o b n r i e =
    let w = part_within (held_in h input) (length out) b n in
    let place : r.place ≡ (part_of (held_in h input) (length out) b n).place = ap (λ (p : ListedPart). p.listed.place) e in
    omega (arith, w.0, length_part input h.place h.filled i.ahead i.inside)

-- the lines and the end are in the output buffer
text_within : (x : Next) (out text : List ℕ) (n : ℕ) (r : Reading) → (x ≡ Ends → may_end n (length text) (length out) ≡ true) → length text ≤ length out → length (text ++ end_if x n r) ≤ length out
unfolding end_put_if text_put
text_within GoesOn out text n r h i = omega (arith, i, ap (λ (p : Placed). p.next) (end_put_law GoesOn out text n r h))
text_within Reads out text n r h i = omega (arith, i, ap (λ (p : Placed). p.next) (end_put_law Reads out text n r h))
text_within Ends out text n r h i =
    let w = end_within (sets out 0 text) (length text) n r (omega (arith, i, length-sets out 0 text)) in
    omega (arith, w.0, length-sets out 0 text, ap (λ (p : Placed). p.next) (end_put_law Ends out text n r h))
text_within Fails out text n r h i = omega (arith, i, ap (λ (p : Placed). p.next) (end_put_law Fails out text n r h))

KeptWell : List ℕ → List ℕ → Made → Type 0
KeptWell input output m =
    Within m.turned.standing.held (length m.input) × (m.turned.written ≤ length m.output) × (length m.input ≡ length input) × (length m.output ≡ length output)

listed_within : (x : Standing) (input output : List ℕ) → Within x.held (length input) → KeptWell input output (held_listed x input output)
unfolding KeptWell held_listed made_of list_turn turn_of reached_by left_held held_in
listed_within x input output w =
    let bytes = take (x.held.filled - x.held.place) (drop x.held.place input) in
    let P = part_of bytes (length output) x.bridge x.count in
    let N = next_of P.reading x.held.told P.count (length P.text) (length output) in
    let i = part_within bytes (length output) x.bridge x.count in
    let long = length_part input x.held.place x.held.filled w.ahead w.inside in
    let k = kept_within N (record { place = x.held.place + P.place; filled = x.held.filled; told = x.held.told }) input
    (record { ahead = omega (arith, i.0, long, w.ahead); inside = w.inside }) in
    let t = P.text ++ end_if N P.count P.reading in
    let wide = length-sets output 0 t in
    let most = text_within N output P.text P.count P.reading (end_may P.reading x.held.told P.count (length P.text) (length output)) i.1 in
    (k.0, omega (arith, most, wide), k.1, wide)

-- the turn, where what is held is in the buffer, and where it is not
pub is_listed : (x : Standing) (input output : List ℕ) → is_within x.held (length input) ≡ true → held_listed x input output ≡ turn_made x input output
unfolding turn_made
is_listed x input output e = sym (cond_true (is_within x.held (length input)) (held_listed x input output) (nothing_listed x input output) e)

pub not_listed : (x : Standing) (input output : List ℕ) → is_within x.held (length input) ≡ false → nothing_listed x input output ≡ turn_made x input output
unfolding turn_made
not_listed x input output e = sym (cond_false (is_within x.held (length input)) (held_listed x input output) (nothing_listed x input output) e)

pub listed : (x : Standing) (input output : List ℕ) → Within x.held (length input) → held_listed x input output ≡ turn_made x input output
listed x input output w = is_listed x input output (within_is x.held (length input) w)

pub turn_within : TurnWithin
unfolding KeptWell
turn_within x input output w = subst (KeptWell input output) (listed x input output w) (listed_within x input output w)

pub counts : (n : ℕ) (l : List ℕ) → n ≤ length l → n ≡ length (take n l)
counts n l h = sym (length-take-le n l h)

-- and so does the call
pub turned_within : (x : Standing) (i o i₂ o₂ : List ℕ) (r : Turned Standing) → Within x.held (length i) → record { turned = r; input = i₂; output = o₂ } ≡ turn_made x i o
    → Within r.standing.held (length i₂) × (r.written ≤ length o₂) × (length i₂ ≡ length i) × (length o₂ ≡ length o)
unfolding KeptWell
turned_within x i o i₂ o₂ r w e = subst (KeptWell i o) (sym e) (turn_within x i o w)

used_within : (x : Standing) (input output : List ℕ) → Within x.held (length input)
    → (part_of (held_in x.held input) (length output) x.bridge x.count).place ≤ x.held.filled - x.held.place
unfolding held_in
used_within x input output w =
    omega (arith, (part_within (held_in x.held input) (length output) x.bridge x.count).0, length_part input x.held.place x.held.filled w.ahead w.inside)

-- what the turn left, before it is kept for a reading, is in the buffer, and is what it left of what was held
module _ (x : Standing) (input output : List ℕ) (w : Within x.held (length input)) where
  abbrev left : Held
  left = left_held x.held (list_turn (length output) (reached_by x) (held_in x.held input) x.held.told).used

  left_within : Within left (length input)
  unfolding list_turn turn_of reached_by left_held
  left_within = record { ahead = omega (arith, used_within x input output w, w.ahead); inside = w.inside }

  left_is : held_in left input ≡ drop (list_turn (length output) (reached_by x) (held_in x.held input) x.held.told).used (held_in x.held input)
  unfolding list_turn turn_of reached_by left_held
  left_is = held_after_use x.held _ input (used_within x input output w)

pub turn_leaves : TurnLeaves
unfolding held_listed made_of
turn_leaves x input output w =
    let T = list_turn (length output) (reached_by x) (held_in x.held input) x.held.told in
    ap (λ (m : Made). held_in m.turned.standing.held m.input) (sym (listed x input output w))
    ∙ kept_same T.next (left x input output w) input (left_within x input output w)
    ∙ left_is x input output w

pub turn_makes_room : TurnMakesRoom
unfolding held_listed made_of
turn_makes_room x input output w long e =
    subst (λ (m : Made). m.turned.standing.held.filled < length m.input) (listed x input output w) (go (ap (λ (m : Made). m.turned.next) (listed x input output w) ∙ e))
  where
    go : (held_listed x input output).turned.next ≡ Reads → (held_listed x input output).turned.standing.held.filled < length (held_listed x input output).input
    go q =
        let h = left x input output w in
        let short = kept_is_short (length output) (reached_by x) (held_in x.held input) x.held.told q in
        let few : length (held_in h input) < length input = omega (arith, short, ap length (left_is x input output w)) in
        subst (λ (n : Next). (kept_for n h input).held.filled < length (kept_for n h input).bytes) (sym q) (room_to_read h input (left_within x input output w) few)
