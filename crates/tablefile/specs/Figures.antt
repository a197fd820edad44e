-- Document 01, 'The table file': the table's column of bytes, as the definitions have it.
use Rattle.std.specs.Prelude.{◌≡◌, refl}
use Rattle.tablefile.specs.Layout.{GR, GD, ST, FR, total, size}

pub sizes : (size GR ≡ 12) × (size GD ≡ 4) × (size ST ≡ 16) × (size FR ≡ 13)
unfolding size total
sizes = (refl, refl, refl, refl)
