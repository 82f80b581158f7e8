-- The measure is how many sixteenths are left.
use Rattle.writing.proofs.hexes.+put_digits.Given as goal

abbrev pub decreases-put_digits : goal.decreases-put_digits
decreases-put_digits l = l.left
