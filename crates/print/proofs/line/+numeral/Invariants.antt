-- `print::line::numeral` ends: the places left get fewer. Assumes nothing.
use Rattle.print.proofs.line.+numeral.Given as goal

abbrev pub decreases-numeral : goal.decreases-numeral
decreases-numeral l = l.places
