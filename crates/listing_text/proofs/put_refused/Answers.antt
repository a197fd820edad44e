-- `listing_text::put_refused` meets its contract: the line has room, and the end line behind it. Assumes nothing.
use mathlib.Core.Path.{refl}
use mathlib.Core.List.{[], ◌∷◌}
use Prim.Native.Nat.{◌+◌}
use native.Mathlib.Omega.{arith}
use Rattle.listing_text.specs.Lines.{dash, values_of, line_of}
use Rattle.listing_text.specs.Steps.{Put}
use Rattle.listing_text.proofs.Texts.{put_then, put_text, put_length, line_short}
use Rattle.listing_text.proofs.Placing.{line_is_put}
use Rattle.listing_text.proofs.Endings.{refused_ending}
use Rattle.listing_text.proofs.put_refused.Goals as goal

pub put_count-requires : goal.put_count-requires
unfolding values_of
put_count-requires c =
    let line : let a = c.args in Put a.out.now a.at (line_of (a.count + 1) (dash ∷ dash ∷ []) c.refusal_number.result []) c.put_line-last.result c.put_line-last.new.out = let a = c.args in line_is_put a.out.now a.at (a.count + 1) (dash ∷ dash ∷ []) _ (omega arith) c.put_line-last.ensures in
    let a = c.args in
    omega (arith, line.ends, put_length _ line, line_short (a.count + 1) (dash ∷ dash ∷ []) c.refusal_number.result [] refl (omega (arith, c.refusal_number.type_inv)))

pub returns : goal.returns
unfolding values_of
returns c =
    let line : let a = c.args in Put a.out.now a.at (line_of (a.count + 1) (dash ∷ dash ∷ []) c.refusal_number.result []) c.put_line-last.result c.put_line-last.new.out = let a = c.args in line_is_put a.out.now a.at (a.count + 1) (dash ∷ dash ∷ []) _ (omega arith) c.put_line-last.ensures in
    let a = c.args in
    put_text (refused_ending a.count c.refusal_number.result a.why c.refusal_number.ensures) (put_then _ _ line c.put_count.ensures)
