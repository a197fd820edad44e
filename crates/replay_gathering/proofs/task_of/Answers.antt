-- `replay_gathering::task_of` meets its contract: each arm has the record that led there. Assumes nothing.
use mathlib.Core.Path.{sym, ap}
use Rattle.tablefile.specs.declared.Record.{Record}
use Rattle.replay_gathering.specs.Gathering.{task_of}
use Rattle.replay_gathering.proofs.Turns.{frame_waits, frame_goes}
use Rattle.replay_gathering.proofs.task_of.Goals as goal

pub returns-then-not-room : goal.returns-then-not-room
returns-then-not-room c = frame_waits _ _ _ _ _ _ c.in-Frame.is c.if-not-room.true

pub returns-in-Group : goal.returns-in-Group
unfolding task_of
returns-in-Group c = let a = c.args in sym (ap (λ (x : Record). task_of a.room x a.next) c.in-Group.is)

pub returns-in-GroupDefault : goal.returns-in-GroupDefault
unfolding task_of
returns-in-GroupDefault c = let a = c.args in sym (ap (λ (x : Record). task_of a.room x a.next) c.in-GroupDefault.is)

pub returns-in-Stream : goal.returns-in-Stream
unfolding task_of
returns-in-Stream c = let a = c.args in sym (ap (λ (x : Record). task_of a.room x a.next) c.in-Stream.is)

pub returns-else-not-room : goal.returns-else-not-room
returns-else-not-room c = frame_goes _ _ _ _ _ _ c.in-Frame.is c.if-not-room.false
