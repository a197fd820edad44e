-- `listing_text::put_number` meets its contract. Assumes nothing.
use mathlib.Core.Path.{refl}
use native.Mathlib.Omega.{arith}
use Rattle.listing_text.proofs.Texts.{put_text, put_byte_decimal, one_digit}
use Rattle.listing_text.proofs.put_number.Goals as goal

pub returns-then-number-lt10 : goal.returns-then-number-lt10
returns-then-number-lt10 c = put_text (one_digit c.args.number (omega arith)) (record { ends = refl; stands = refl })

pub returns : goal.returns
returns c =
    put_byte_decimal c.args.out.now c.put_decimal.new.out c.args.at c.put_decimal.result c.args.number (omega (arith, c.ranges.number)) (omega arith) c.put_decimal.ensures
