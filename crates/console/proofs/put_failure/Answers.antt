-- `console::put_failure` meets its contract: the edge, the records and the bytes stand one after the other. Assumes nothing.
use mathlib.Core.Path.{◌∙◌}
use mathlib.Core.List.{[], ◌∷◌}
use Rattle.text.specs.Puts.{puts}
use Rattle.text.proofs.Putting.{and_then}
use Rattle.console.specs.Failures.{failure_parts, records_word, bytes_word}
use Rattle.console.proofs.put_failure.Goals as goal

pub returns : goal.returns
unfolding puts failure_parts
returns c =
    c.put_text.ensures
    ∙ and_then (records_word ∷ _ ∷ []) (bytes_word ∷ []) _ _ _ _ c.put_field-after_bytes.ensures
    ∙ and_then (_ ∷ _ ∷ []) (records_word ∷ _ ∷ bytes_word ∷ []) _ _ _ _ c.put_edge-after_records.ensures
