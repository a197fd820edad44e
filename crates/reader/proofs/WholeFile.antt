-- Laws of a whole file: it unfolds one record at a time, and holds the bytes of its records. Assumes nothing.
use mathlib.Core.Path.{◌≡◌, refl, ap, ◌∙◌}
use mathlib.Core.List.{List, [], ◌++◌, append-nil, append_assoc}
use Prim.Native.Nat.{ℕ, zero, suc, ◌+◌, ◌-◌, ◌≤◌, ◌<◌}
use native.Mathlib.Nat.{zero-add, add-zero, add_assoc, sub_self, sub-zero}
use native.Mathlib.Omega.{arith}
use lib.ListN.{length, take, drop, length-append, length-drop}
use lib.Seq.{take-add, drop-drop, take_all}
use Rattle.tablefile.specs.declared.Record.{Record}
use Rattle.tablefile.specs.BigEndian.{AreBytes}
use Rattle.tablefile.specs.Layout.{bytes_of, size}
use Rattle.tablefile.specs.declared.Reading.{Reading}
use Rattle.reader.specs.Reader.{read_at}
use Rattle.tablefile.specs.Answers.{nothing_left}
use Rattle.reader.specs.File.{file_of, AllFit, no_record, and_record, Contents, onwards, answers, contents_from, contents}
use Rattle.reader.specs.RoundTrip.{Copied}
use Rattle.reader.proofs.Marks.{none_left}
use Rattle.reader.proofs.OneRecord.{Front, empty, cut, strange, whole, front, read_back, found_whole}

-- ---- one record at a time

-- what the answer at a place says of the bytes from there on
front_at : (bytes : List ℕ) (p : ℕ) → Front (drop p bytes) p (read_at bytes p)
unfolding read_at
front_at bytes p = front (drop p bytes) p

-- from an answer the reading goes on at a later place only
later : {l : List ℕ} (p : ℕ) {x : Reading} → Front l p x → (f g : ℕ → Contents) → ((next : ℕ) → p < next → f next ≡ g next)
    → onwards x p f ≡ onwards x p g
unfolding onwards size
later p (empty e) f g h = refl
later p cut f g h = refl
later p strange f g h = refl
later p (whole k left is long) f g h = rw (h (p + size k) (omega arith))

module _ (bytes : List ℕ) where
  -- as many answers as there are places left, and one more, are enough
  enough : (n p : ℕ) → length bytes < p + n → answers n bytes p ≡ answers (suc n) bytes p
  unfolding answers onwards
  enough zero p h = rw (← none_left bytes p (omega arith))
  enough (suc n) p h =
      later p (front_at bytes p) (answers n bytes) (answers (suc n) bytes) (λ next l. enough n next (omega arith))

  pub unfolds : (p : ℕ) → contents_from bytes p ≡ onwards (read_at bytes p) p (contents_from bytes)
  unfolding contents_from answers
  unfolds p =
      let n = length bytes in
      later p (front_at bytes p) (answers n bytes) (answers (suc n) bytes) (λ next l. enough n next (omega arith))

-- ---- from the records to the file and back

file_after : {rs : List Record} → AllFit rs → (before : List ℕ)
    → contents_from (before ++ file_of rs) (length before)
    ≡ record { records = rs; ended = nothing_left; place = length before + length (file_of rs) }
unfolding file_of onwards
file_after no_record before =
    unfolds (before ++ []) (length before)
    ∙ rw (← none_left (before ++ []) (length before) (rw append-nil (omega arith)), add-zero (length before))
file_after (and_record {r} {rs} h rest) before =
    let l = before ++ (bytes_of r ++ file_of rs) in
    let next = length before + length (bytes_of r) in
    let after : contents_from l next ≡ record { records = rs; ended = nothing_left; place = next + length (file_of rs) } =
    rw (append_assoc before (bytes_of r) (file_of rs), length-append before (bytes_of r)) at (file_after rest (before ++ bytes_of r)) in
    unfolds l (length before)
    ∙ rw (read_back r h before (file_of rs), after, length-append (bytes_of r) (file_of rs), add_assoc (length before))

pub file_back : (rs : List Record) → AllFit rs → contents (file_of rs) ≡ record { records = rs; ended = nothing_left; place = length (file_of rs) }
file_back rs h = rw zero-add at (file_after h [])

-- ---- from the file to its records and back

-- two parts that meet are one
parts_meet : (l : List ℕ) (a b c : ℕ) → a ≤ b → b ≤ c → take (b - a) (drop a l) ++ take (c - b) (drop b l) ≡ take (c - a) (drop a l)
parts_meet l a b c h k =
    let whole-way : c - a ≡ (b - a) + (c - b) = omega arith in
    let first_way : a + (b - a) ≡ b = omega arith in
    rw (whole-way, take-add (b - a) (c - b) (drop a l), drop-drop (b - a) a l, first_way)

-- what is true of the contents from a place on
record Kept (bytes : List ℕ) (p : ℕ) (c : Contents) : Type 0 where
  fit : AllFit c.records
  front_part : file_of c.records ≡ take (c.place - p) (drop p bytes)
  onward : p ≤ c.place
  to_end : c.ended ≡ nothing_left → c.place ≡ length bytes

module _ (bytes : List ℕ) (h : AreBytes bytes) where
  kept_on : (p : ℕ) {x : Reading} → Front (drop p bytes) p x → p ≤ length bytes → (f : ℕ → Contents)
      → ((next : ℕ) → p < next → next ≤ length bytes → Kept bytes next (f next)) → Kept bytes p (onwards x p f)
  unfolding onwards file_of
  kept_on p (empty e) i f k = record {
    fit = no_record;
    front_part = rw sub_self;
    onward = omega arith;
    to_end = λ five. omega (arith, ap length e, length-drop p bytes);
  }
  kept_on p cut i f k = record { fit = no_record; front_part = rw sub_self; onward = omega arith; to_end = λ five. absurd (omega arith) }
  kept_on p strange i f k = record { fit = no_record; front_part = rw sub_self; onward = omega arith; to_end = λ five. absurd (omega arith) }
  kept_on p (whole k left is long) i f ih =
      let w = found_whole bytes h p (whole k left is long) in
      let next = p + size k in
      let rest = ih next w.later w.inside in
      record {
        fit = and_record w.fits rest.fit;
        front_part =
            rw (w.same, rest.front_part)
            (parts_meet bytes p next (f next).place (omega (arith, w.later)) rest.onward);
        onward = omega (arith, w.later, rest.onward);
        to_end = rest.to_end;
      }

  kept : (n p : ℕ) → p ≤ length bytes → length bytes < p + n → Kept bytes p (answers n bytes p)
  unfolding answers
  kept zero p i e = absurd (omega arith)
  kept (suc n) p i e =
      kept_on p (front_at bytes p) i (answers n bytes) (λ next l j. kept n next j (omega arith))

  pub file_kept : Copied bytes (contents bytes)
  unfolding contents_from
  file_kept =
      let k = kept (suc (length bytes)) 0 (omega arith) (omega arith) in
      let front_part : file_of (contents bytes).records ≡ take (contents bytes).place bytes = rw sub-zero at k.front_part in
      record {
        fit = k.fit;
        front = front_part;
        whole = λ five. front_part ∙ take_all (contents bytes).place bytes (omega (arith, k.to_end five));
      }
