-- `replay_text::put_note` meets its contract: there is no room, or no note, or the note is put by its kind. Assumes nothing.
use native.Mathlib.Omega.{arith}
use Rattle.quantity.proofs.Booleans.{refuted, confirmed}
use Rattle.text.specs.Puts.{puts}
use Rattle.replay_text.proofs.Texts.{no_room_noted, noted, none_noted}
use Rattle.replay_text.proofs.put_note.Goals as goal

pub returns-then-not-has_room : goal.returns-then-not-has_room
returns-then-not-has_room c = let a = c.args in no_room_noted a.out.now a.at a.note (refuted c.has_room.ensures c.if-not-has_room.true)

pub returns-in_default : goal.returns-in_default
returns-in_default c = let a = c.args in none_noted a.out.now a.at a.note (confirmed c.has_room.ensures c.if-not-has_room.false) c.in_default.is

pub returns-in-NotSetUp : goal.returns-in-NotSetUp
returns-in-NotSetUp c =
    let a = c.args in
    noted a.out.now a.at a.note _ _ _ (confirmed c.has_room.ensures c.if-not-has_room.false) c.in-Some.is c.in-NotSetUp.is (omega arith) c.put_refused_set_up.ensures

pub returns-in-Unreadable : goal.returns-in-Unreadable
returns-in-Unreadable c =
    let a = c.args in
    noted a.out.now a.at a.note _ _ _ (confirmed c.has_room.ensures c.if-not-has_room.false) c.in-Some.is c.in-Unreadable.is (omega arith) c.put_unreadable.ensures

pub returns-in-TooManyFrames : goal.returns-in-TooManyFrames
unfolding puts
returns-in-TooManyFrames c =
    let a = c.args in
    noted a.out.now a.at a.note _ _ _ (confirmed c.has_room.ensures c.if-not-has_room.false) c.in-Some.is c.in-TooManyFrames.is (omega arith) c.put_text.ensures
