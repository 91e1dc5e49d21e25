-- A search among rising numbers finds the place, or that there is none.
use Rattle.process.proofs.Common.{sym}
use Rattle.process.proofs.Lookups.{missing, position-at, position-none, found_at}
use Rattle.process.proofs.search.searched.Goals as goal

pub returns-in-Ok : goal.returns-in-Ok
returns-in-Ok c =
    let found = found_at c.args.numbers.now c.args.number c.in-Ok.index c.requires (let e = c.in-Ok.ensures in e.position) in
    sym (position-at c.args.numbers.now c.args.number c.in-Ok.index c.requires found.0 found.1)

pub returns-in-Err : goal.returns-in-Err
returns-in-Err c = sym (position-none c.args.numbers.now c.args.number (missing c.args.numbers.now c.args.number c.in-Err.field-0 c.requires (let e = c.in-Err.ensures in e.position)))
