-- `listing_part::carry_out` meets its contract: in each arm the call is the arm's. Assumes nothing.
use mathlib.Core.Path.{ap}
use Rattle.listing_part.specs.Records.{call_of}
use Rattle.listing_part.proofs.Calls.{group_made, stream_made, frame_made}
use Rattle.listing_part.proofs.carry_out.Goals as goal

pub returns-in-Group-clause-after : goal.returns-in-Group-clause-after
unfolding call_of
returns-in-Group-clause-after c = (group_made _ _ _ _ _ _ (ap call_of c.in-Group.is) _ c.set_up_group.ensures c.set_up_answer.ensures).after

pub returns-in-Group-clause-replies : goal.returns-in-Group-clause-replies
unfolding call_of
returns-in-Group-clause-replies c = (group_made _ _ _ _ _ _ (ap call_of c.in-Group.is) _ c.set_up_group.ensures c.set_up_answer.ensures).replies

pub returns-in-GroupDefault-clause-after : goal.returns-in-GroupDefault-clause-after
unfolding call_of
returns-in-GroupDefault-clause-after c = (group_made _ _ _ _ _ _ (ap call_of c.in-GroupDefault.is) _ c.set_up_group-in-GroupDefault.ensures c.set_up_answer-in-GroupDefault.ensures).after

pub returns-in-GroupDefault-clause-replies : goal.returns-in-GroupDefault-clause-replies
unfolding call_of
returns-in-GroupDefault-clause-replies c = (group_made _ _ _ _ _ _ (ap call_of c.in-GroupDefault.is) _ c.set_up_group-in-GroupDefault.ensures c.set_up_answer-in-GroupDefault.ensures).replies

pub returns-in-Stream-clause-after : goal.returns-in-Stream-clause-after
unfolding call_of
returns-in-Stream-clause-after c = (stream_made _ _ _ _ _ _ _ (ap call_of c.in-Stream.is) _ c.set_up_stream.ensures c.set_up_answer-in-Stream.ensures).after

pub returns-in-Stream-clause-replies : goal.returns-in-Stream-clause-replies
unfolding call_of
returns-in-Stream-clause-replies c = (stream_made _ _ _ _ _ _ _ (ap call_of c.in-Stream.is) _ c.set_up_stream.ensures c.set_up_answer-in-Stream.ensures).replies

pub returns-in-Frame-clause-after : goal.returns-in-Frame-clause-after
unfolding call_of
returns-in-Frame-clause-after c = (frame_made _ _ _ _ _ _ (ap call_of c.in-Frame.is) _ c.frame.ensures c.frame_answer.ensures).after

pub returns-in-Frame-clause-replies : goal.returns-in-Frame-clause-replies
unfolding call_of
returns-in-Frame-clause-replies c = (frame_made _ _ _ _ _ _ (ap call_of c.in-Frame.is) _ c.frame.ensures c.frame_answer.ensures).replies
