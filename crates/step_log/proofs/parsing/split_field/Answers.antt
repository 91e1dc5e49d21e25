use Rattle.std.proofs.Common.{sym, ◌∙◌, ◌+◌, eqb}
use Rattle.std.proofs.lemmas.List.{take_rest}
use Rattle.step_log.proofs.Splits.{slice_split-None, slice_split-Some}
use Rattle.step_log.proofs.parsing.split_field.Goals as goal

pub returns-in-None : goal.returns-in-None
returns-in-None c = slice_split-None (λ b. eqb b 32) c.args.text.now (sym c.find.ensures ∙ c.in-None.is)

pub returns-in-Some : goal.returns-in-Some
returns-in-Some c =
    rw (take_rest c.args.text.now (c.in-Some.end + 1))
    (slice_split-Some (λ b. eqb b 32) c.args.text.now c.in-Some.end 0 (sym c.find.ensures ∙ c.in-Some.is))
