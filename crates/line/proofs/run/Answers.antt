-- `line::run` meets its contract: refused by the tests, or event by event. Assumes nothing.
use mathlib.Core.Path.{sym, ◌∙◌}
use Rattle.line.specs.Run.{begun, start_at}
use Rattle.line.proofs.Turns.{gives_started, gives_refused, refuses, told, all_fit}
use Rattle.line.proofs.run.Goals as goal

pub run_events-requires : goal.run_events-requires
run_events-requires c = all_fit _ _ _ (told _ _ _ _ _ _ c.lists_fit-lists.ensures c.line_fits-line.ensures c.start_of.ensures ∙ c.in-Ok.is)

pub returns-in-Err : goal.returns-in-Err
unfolding begun start_at
returns-in-Err c = refuses _ _ _ _ _ (gives_refused _ _ _ _ (told _ _ _ _ _ _ c.lists_fit-lists.ensures c.line_fits-line.ensures c.start_of.ensures ∙ c.in-Err.is)) c.refused.ensures

pub returns-in-Ok : goal.returns-in-Ok
unfolding begun start_at
returns-in-Ok c =
    c.run_events.ensures ∙ sym (gives_started _ _ _ (told _ _ _ _ _ _ c.lists_fit-lists.ensures c.line_fits-line.ensures c.start_of.ensures ∙ c.in-Ok.is))
