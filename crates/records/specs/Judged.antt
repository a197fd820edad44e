-- Document 01, 'One frame through a scheduler': what becomes of a frame, with the records after it.
use Rattle.records.specs.declared.Answer.{Answer}
use Rattle.records.specs.declared.WithRecords.{WithRecords}

-- the answer, and its stream's and its group's record after it
abbrev pub Judged : Type 0
Judged = WithRecords Answer
