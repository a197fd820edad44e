-- Laws of a listing under way: it starts, a record's line is put and it goes on, and it stops. Assumes nothing.
use mathlib.Core.Path.{◌≡◌, refl, sym, ap, ◌∙◌}
use mathlib.Core.List.{List, [], ◌∷◌, ◌++◌, append-nil, append_assoc}
use Prim.Native.Nat.{ℕ, zero, suc, ◌+◌, ◌-◌, ◌≤◌, ◌<◌}
use native.Mathlib.Nat.{sub-zero}
use native.Mathlib.Omega.{arith}
use lib.ListN.{length, get_or}
use lib.Seq.{sets}
use Rattle.tablefile.specs.Layout.{mark, kind_of}
use Rattle.reader.specs.Reader.{read_at}
use Rattle.tablefile.specs.declared.Record.{Record}
use Rattle.tablefile.specs.declared.Reading.{Reading}
use Rattle.tablefile.specs.declared.Reading.TheVariants.{Found}
use Rattle.tablefile.proofs.Fields.{mark_width_law}
use Rattle.reader.proofs.Further.{found_further}
use Rattle.bridge.specs.History.{Reply, reply, after_call}
use Rattle.bridge.specs.declared.Bridge.{Bridge}
use Rattle.listing_text.specs.Lines.{values_of, line_of}
use Rattle.listing_text.specs.Places.{line_room, most_lines, line_put}
use Rattle.listing_text.specs.Steps.{Put}
use Rattle.listing_part.specs.Records.{call_of, record_line}
use Rattle.listing_part.specs.Parts.{Part, onto, may_go_on, going_on, stops_at, part_for, part_of, listed_of, part_put, part_listed}
use Rattle.listing_part.specs.Steps.{reply_of, next_step}
use Rattle.listing_text.specs.declared.Answered.{Answered}
use Rattle.listing_part.specs.declared.Step.TheVariants.{Ends}
use Rattle.listing_text.proofs.Texts.{put_then, put_length, line_short}
use Rattle.listing_text.proofs.Placing.{line_is_put}
use Rattle.listing_part.proofs.Stepping.{Going, ended, goes_on, mark_letters}
use Rattle.listing_part.proofs.Calls.{reply_small}

-- ---- one record

-- a record that is found has its line, where it may, and what follows is listed behind it
pub one_more : (more : ℕ) (bytes : List ℕ) (room : ℕ) (b : Bridge) (n p : ℕ) (r : Record) (next : ℕ) → read_at bytes p ≡ Found r next → line_room ≤ room → n < most_lines
    → part_for (suc more) bytes room b n p ≡ onto (record_line b n r) (part_for more bytes (room - length (record_line b n r)) (after_call b (call_of r)) (n + 1) next)
unfolding part_for
one_more more bytes room b n p r next e h k =
    let go : Record → ℕ → Part =
    λ q to. onto (record_line b n q) (part_for more bytes (room - length (record_line b n q)) (after_call b (call_of q)) (n + 1) to) in
    ap (λ (x : Reading). going_on x (may_go_on n room) (stops_at bytes b n p) go) e
    ∙ goes_on n room r next h k (stops_at bytes b n p) go

onto_onto : (a b : List ℕ) (x : Part) → onto a (onto b x) ≡ onto (a ++ b) x
unfolding onto
onto_onto a b x = rw (append_assoc a b x.text)

pub line_within : (b : Bridge) (n : ℕ) (r : Record) → length (record_line b n r) ≤ line_room
unfolding record_line
line_within b n r = let a = reply b (call_of r) in line_short (n + 1) (mark (kind_of r)) a.number a.values (mark_width_law (kind_of r)) (reply_small b (call_of r))

-- the line that an answer and two letters make
own_line : ℕ → List ℕ → Answered → List ℕ
own_line n letters a = line_of n (get_or letters 0 0 ∷ get_or letters 1 0 ∷ []) a.number (values_of a.time)

-- is the record's
own_line_law : (b : Bridge) (n : ℕ) (r : Record) (letters : List ℕ) (a : Answered)
    → letters ≡ mark (kind_of r) → reply_of a ≡ reply b (call_of r) → own_line (n + 1) letters a ≡ record_line b n r
unfolding own_line record_line reply_of
own_line_law b n r letters a g h =
    ap (λ (l : List ℕ). own_line (n + 1) l a) g
    ∙ ap (λ (m : List ℕ). line_of (n + 1) m a.number (values_of a.time)) (mark_letters r)
    ∙ ap (λ (x : Reply). line_of (n + 1) (mark (kind_of r)) x.number x.values) h

-- ---- under way

-- from tables b₀ after n₀ lines to tables b after n lines, the place p and w bytes written: the text that stands at the front, with what is still to be listed, is the whole
pub record Underway (bytes out₀ : List ℕ) (b₀ : Bridge) (n₀ : ℕ) (b : Bridge) (n p w : ℕ) (out : List ℕ) : Type 0 where
  pub more : ℕ
  pub enough : length bytes < p + more
  pub text : List ℕ
  pub put : Put out₀ 0 text w out
  pub within : w ≤ length out₀
  pub long : length out ≡ length out₀
  pub inside : p ≤ length bytes
  pub total : part_of bytes (length out₀) b₀ n₀ ≡ onto text (part_for more bytes (length out₀ - w) b n p)

pub starts : (bytes out : List ℕ) (b : Bridge) (n : ℕ) → Underway bytes out b n b n 0 0 out
unfolding part_of onto
starts bytes out b n = record {
  more = suc (length bytes);
  enough = omega arith;
  text = [];
  put = record { ends = refl; stands = refl };
  within = omega arith;
  long = refl;
  inside = omega arith;
  total = rw (sub-zero (length out));
}

module _ (bytes out₀ : List ℕ) (b₀ : Bridge) (n₀ : ℕ) (b : Bridge) (n p w : ℕ) (out : List ℕ) (u : Underway bytes out₀ b₀ n₀ b n p w out) where
  room_left : length out - w ≡ length out₀ - w
  room_left = omega (arith, u.long)

  -- where the reader's answer does not let it go on, nothing is left to list
  nothing_more : (more : ℕ) (y x : Reading) → x ≡ read_at bytes p → Ends y ≡ next_step x n (length out - w) → part_for more bytes (length out₀ - w) b n p ≡ stops_at bytes b n p
  unfolding part_for
  nothing_more zero y x e s = refl
  nothing_more (suc more) y x e s =
      let go : Record → ℕ → Part =
      λ q to. onto (record_line b n q) (part_for more bytes (length out₀ - w - length (record_line b n q)) (after_call b (call_of q)) (n + 1) to) in
      ap (λ (z : Reading). going_on z (may_go_on n (length out₀ - w)) (stops_at bytes b n p) go) (sym e)
      ∙ ap (λ (k : ℕ). going_on x (may_go_on n k) (stops_at bytes b n p) go) (sym room_left)
      ∙ (ended n (length out - w) x y s).1 (stops_at bytes b n p) go

  pub stops : (y x : Reading) → x ≡ read_at bytes p → Ends y ≡ next_step x n (length out - w)
      → record { listed = record { bridge = b; count = n; place = p; reading = y; written = w }; out = out } ≡ part_listed bytes b₀ n₀ out₀
  unfolding part_listed part_put listed_of onto stops_at
  stops y x e s =
      let done = u.total ∙ ap (onto u.text) (nothing_more u.more y x e s) in
      let read : y ≡ read_at bytes p = (ended n (length out - w) x y s).0 ∙ e in
      let full : u.text ++ [] ≡ u.text = append-nil u.text in
      let count : w ≡ length (u.text ++ []) = omega (arith, u.put.ends, ap length full) in
      ap (λ (z : Reading). record { listed = record { bridge = b; count = n; place = p; reading = z; written = w }; out = out }) read
      ∙ ap (λ (k : ℕ). record { listed = record { bridge = b; count = n; place = p; reading = read_at bytes p; written = k }; out = out }) count
      ∙ ap (λ (o : List ℕ). record { listed = record { bridge = b; count = n; place = p; reading = read_at bytes p; written = length (u.text ++ []) }; out = o }) (u.put.stands ∙ ap (sets out₀ 0) (sym full))
      ∙ sym (ap (part_put out₀) done)

  -- a record's line was put, and its call made
  module _ (x : Reading) (at_place : x ≡ read_at bytes p) (r : Record) (next : ℕ) (g : Going x n (length out - w) r next) where
    pub goes_further : (p < next) × (next ≤ length bytes)
    goes_further = found_further bytes p r next (sym at_place ∙ g.found)

    turned : (more : ℕ) → length bytes < p + more → (b' : Bridge) → b' ≡ after_call b (call_of r) → (line : List ℕ) → line ≡ record_line b n r → (w' : ℕ) → w' ≡ w + length line
        → (k : ℕ) × (length bytes < next + k) × (part_for more bytes (length out₀ - w) b n p ≡ onto line (part_for k bytes (length out₀ - w') b' (n + 1) next))
    turned zero h b' e line f w' i = absurd (omega (arith, goes_further.0, goes_further.1))
    turned (suc more) h b' e line f w' i =
        let left : length out₀ - w - length line ≡ length out₀ - w' = omega arith in (
          more,
          omega (arith, goes_further.0),
          one_more more bytes (length out₀ - w) b n p r next (sym at_place ∙ g.found) (omega (arith, g.roomy, room_left)) g.counts
              ∙ ap (λ (l : List ℕ). onto l (part_for more bytes (length out₀ - w - length l) (after_call b (call_of r)) (n + 1) next)) (sym f)
              ∙ ap (λ (q : Bridge). onto line (part_for more bytes (length out₀ - w - length line) q (n + 1) next)) (sym e)
              ∙ ap (λ (k : ℕ). onto line (part_for more bytes k b' (n + 1) next)) left,
        )

    pub turns : (b' : Bridge) → b' ≡ after_call b (call_of r) → (letters : List ℕ) → letters ≡ mark (kind_of r) → (a : Answered) → reply_of a ≡ reply b (call_of r)
        → {w' : ℕ} {out' : List ℕ} → record { next = w'; bytes = out' } ≡ line_put out w (n + 1) letters a
        → Underway bytes out₀ b₀ n₀ b' (n + 1) next w' out'
    unfolding own_line
    turns b' e letters f a h {w'} {out'} q =
        let line = own_line (n + 1) letters a in
        let own = own_line_law b n r letters a f h in
        let put = line_is_put out w (n + 1) letters a (omega (arith, g.roomy)) q in
        let t = turned u.more u.enough b' e line own w' put.ends in
        let p' = put_then u.text line u.put put in
        record {
          more = t.0;
          enough = t.1;
          text = u.text ++ line;
          put = p';
          within = omega (arith, put.ends, ap length own, line_within b n r, g.roomy, room_left);
          long = put_length (u.text ++ line) p';
          inside = goes_further.1;
          total = u.total ∙ ap (onto u.text) t.2 ∙ onto_onto u.text line (part_for t.0 bytes (length out₀ - w') b' (n + 1) next);
        }
