use Rattle.std.proofs.Common.{◌+◌, sym, ◌∙◌, length, take, drop, eqb, arith}
use Rattle.std.proofs.lemmas.List.{take_rest, drop_all}
use Rattle.step_log.proofs.Lines.{lines_of-cut, lines_of-last}
use Rattle.step_log.proofs.Splits.{slice_split-None, slice_split-Some}
use Rattle.step_log.proofs.reading.split_line.Goals as goal

pub returns-in-None-clause-lines : goal.returns-in-None-clause-lines
returns-in-None-clause-lines c =
    rw (take_rest c.args.bytes.now (length c.args.bytes.now), drop_all (length c.args.bytes.now) c.args.bytes.now (omega arith))
    (lines_of-last c.args.bytes.now c.requires (slice_split-None (λ b. eqb b 10) c.args.bytes.now (sym c.find.ensures ∙ c.in-None.is)))

pub returns-in-Some-clause-lines : goal.returns-in-Some-clause-lines
returns-in-Some-clause-lines c =
    rw (take_rest c.args.bytes.now (c.in-Some.end + 1))
    (lines_of-cut c.args.bytes.now (take c.in-Some.end c.args.bytes.now) (drop (c.in-Some.end + 1) c.args.bytes.now)
    (slice_split-Some (λ b. eqb b 10) c.args.bytes.now c.in-Some.end 0 (sym c.find.ensures ∙ c.in-Some.is)))
