use Rattle.std.proofs.Common.{sym}
use Rattle.log_gather.proofs.RenewedMarks.{eight_parted, first_known, moved, parted_known}
use Rattle.log_gather.proofs.moving.move_others.Goals as goal

pub renew-requires-clause-eight : goal.renew-requires-clause-eight
renew-requires-clause-eight c =
    eight_parted c.args.details.now c.args.hart.0 c.args.span.now c.put_others_first.new.span c.in_ok-put_others_first.ensures c.requires.eight

pub renew-requires-clause-known : goal.renew-requires-clause-known
renew-requires-clause-known c =
    parted_known c.args.details.now c.args.hart.0 c.args.span.now c.put_others_first.new.span c.in_ok-put_others_first.ensures c.requires.known

pub renew-requires-clause-first : goal.renew-requires-clause-first
renew-requires-clause-first c = first_known c.args.details.now c.args.span.now c.in-Some.first.now (sym c.in-Some.ensures.value) c.requires.known

pub returns : goal.returns
returns c =
    moved c.args.details.now c.renew.new.details c.args.hart.0 c.args.span.now c.put_others_first.new.span c.renew.new.span c.in-Some.first.now
    (sym c.in-Some.ensures.value) c.in_ok-put_others_first.ensures c.in_ok-renew.ensures
