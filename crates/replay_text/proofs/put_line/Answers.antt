-- `replay_text::put_line` meets its contract: there is no room, or the line is put by its kind. Assumes nothing.
use native.Mathlib.Omega.{arith}
use mathlib.Core.Path.{◌∙◌}
use mathlib.Core.List.{[], ◌∷◌}
use Rattle.quantity.proofs.Booleans.{refuted, confirmed}
use Rattle.replay_text.specs.Lines.{space, line_end, pick_word}
use Rattle.text.specs.Puts.{puts}
use Rattle.text.proofs.Putting.{and_then}
use Rattle.replay_text.proofs.Texts.{no_room, room}
use Rattle.replay_text.proofs.put_line.Goals as goal

pub returns-then-not-has_room : goal.returns-then-not-has_room
returns-then-not-has_room c = let a = c.args in no_room a.out.now a.at a.line (refuted c.has_room.ensures c.if-not-has_room.true)

pub returns-in-Answer : goal.returns-in-Answer
returns-in-Answer c =
    let a = c.args in
    room a.out.now a.at a.line _ _ (confirmed c.has_room.ensures c.if-not-has_room.false) c.in-Answer.is (omega arith) c.put_pair.ensures

pub returns-in-Pick : goal.returns-in-Pick
unfolding puts
returns-in-Pick c =
    let a = c.args in
    room a.out.now a.at a.line _ _ (confirmed c.has_room.ensures c.if-not-has_room.false) c.in-Pick.is (omega arith) (c.put_pair-in-Pick.ensures ∙ and_then (pick_word ∷ []) (_ ∷ space ∷ _ ∷ line_end ∷ []) _ _ _ _ c.put_text-after.ensures)

pub returns-in-Refused : goal.returns-in-Refused
returns-in-Refused c =
    let a = c.args in
    room a.out.now a.at a.line _ _ (confirmed c.has_room.ensures c.if-not-has_room.false) c.in-Refused.is (omega arith) c.put_last.ensures

pub returns-in-Stop : goal.returns-in-Stop
returns-in-Stop c =
    let a = c.args in
    room a.out.now a.at a.line _ _ (confirmed c.has_room.ensures c.if-not-has_room.false) c.in-Stop.is (omega arith) c.put_stop.ensures
