-- `bridge::fresh` meets its contract. Assumes nothing.
use mathlib.Core.Path.{ap, ◌∙◌}
use lib.ListN.{replicate}
use Rattle.records.specs.declared.Group.{Group}
use Rattle.records.specs.declared.Stream.{Stream}
use Rattle.bridge.specs.Tables.{no_group, fresh_bridge}
use Rattle.bridge.proofs.fresh.Goals as goal

pub returns : goal.returns
unfolding fresh_bridge
returns c =
    ap (λ (g : Group). record { groups = replicate 16 g; streams = replicate 64 c.no_stream.result }) c.no_group.ensures
    ∙ ap (λ (s : Stream). record { groups = replicate 16 no_group; streams = replicate 64 s }) c.no_stream.ensures
