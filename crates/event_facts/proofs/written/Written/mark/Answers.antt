use Rattle.std.proofs.Common.{ℕ, ◌∙◌, List, ap, cond, get_or}
use Rattle.event_facts.specs.Written.{is_from_to}
use Rattle.event_facts.proofs.WrittenBytes.{mark_line}
use Rattle.event_facts.proofs.written.Written.mark.Goals as goal

pub returns : goal.returns
returns c =
    mark_line c.args.self.now (record { words = c.insert.new.self }) c.args.word c.args.from c.args.to c.args.line c.marked-lines.result c.in_ok-insert.ensures.updates.0
    (λ k. c.marked-lines.ensures.lines k ∙ ap (λ (xs : List ℕ). cond (is_from_to c.args.from c.args.to k) c.args.line (get_or xs k 0)) c.lines_at.ensures.lines)
