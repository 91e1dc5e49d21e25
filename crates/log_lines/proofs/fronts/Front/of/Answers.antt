use Rattle.std.proofs.Common.{◌∙◌, ◌-◌, ap, take}
use Rattle.log_lines.proofs.LineParts.{front_is}
use Rattle.log_lines.proofs.fronts.Front.of.Goals as goal

pub invariant_of-result-clause-text : goal.invariant_of-result-clause-text
invariant_of-result-clause-text c =
    let line = c.print_entry.new.line.items in
    c.beginning.ensures ∙ ap (take (c.len-len.result - 4)) c.as_slice.ensures.value
    ∙ ap (λ n. take (n - 4) line) c.len-len.ensures.value ∙ front_is c.args.entry.now line c.print_entry.ensures.text
