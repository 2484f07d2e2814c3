-- The measure of `print::put_number`, which goes by x / 10: x itself.
use Rattle.print.proofs.+put_number.Given as goal

abbrev pub decreases-put_number : goal.decreases-put_number
decreases-put_number l = l.x
