-- `figures::row::push_on` meets its contract. The row moves up by a byte, and the new one stands there.
use Rattle.std.proofs.Common.{◌∙◌, ap, bit_or, ◌*◌, ◌^◌, ◌%◌}
use Rattle.figures.proofs.Rows.{moved_up}
use Rattle.figures.proofs.row.push_on.Goals as goal

pub returns : goal.returns
returns c = (ap (bit_or (c.args.row * 256 % 2 ^ 64)) c.from.ensures ∙ moved_up c.args.row c.args.x c.ranges.x.fits, c.ranges.x.fits)
