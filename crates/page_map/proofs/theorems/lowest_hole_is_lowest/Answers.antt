use Rattle.page_map.proofs.Runs.{hole-before, hole-fit, hole-from, hole-nowhere}
use Rattle.page_map.proofs.theorems.lowest_hole_is_lowest.Goals as goal

pub returns-clause-from : goal.returns-clause-from
returns-clause-from c = hole-from

pub returns-clause-fits : goal.returns-clause-fits
returns-clause-fits c = hole-fit

pub returns-clause-lowest : goal.returns-clause-lowest
returns-clause-lowest c = hole-before

pub returns-clause-nowhere : goal.returns-clause-nowhere
returns-clause-nowhere c = hole-nowhere
