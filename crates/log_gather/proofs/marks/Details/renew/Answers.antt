use Rattle.std.proofs.Common.{ap, sym, ◌∙◌, get_or}
use Rattle.log_gather.specs.declared.accesses.TheConstants.{NO_ACCESS}
use Rattle.log_gather.specs.declared.marks.Mark.{Mark}
use Rattle.log_gather.specs.Marks.{leaves_reserved}
use Rattle.log_gather.proofs.RenewedMarks.{renewed_same}
use Rattle.log_gather.proofs.marks.Details.renew.Goals as goal

pub returns-then-keeps_reserved : goal.returns-then-keeps_reserved
returns-then-keeps_reserved c =
    renewed_same c.args.self.now c.args.mark.now c.reserve.new.self c.args.number c.requires.known c.reserve.ensures
    (ap (λ (m : Mark). leaves_reserved (get_or c.args.self.now.accesses.items m.access NO_ACCESS)) (sym c.reserve.ensures) ∙ sym c.keeps_reserved.ensures ∙ c.if-keeps_reserved.true)
