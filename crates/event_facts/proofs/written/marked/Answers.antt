use Rattle.std.proofs.Common.{◌≡◌, ◌∙◌, ap, arith, cond, get_or, rules, set}
use Rattle.std.proofs.lemmas.List.{length-set}
use Rattle.event_facts.specs.Written.{is_from_to}
use Rattle.event_facts.proofs.WrittenBytes.{marked_more, none_marked}
use Rattle.event_facts.proofs.written.marked.Goals as goal

pub loop-k-init : goal.loop-k-init
loop-k-init c = record { eight = omega arith; marked = λ j. none_marked c.args.from j c.args.line (get_or c.args.lines.now j 0) }

pub loop-k-preserved : goal.loop-k-preserved
loop-k-preserved c =
    let same : c.from.result ≡ c.loop-k.k = search rules in
    record {
      eight = length-set c.loop-k.marked c.from.result c.args.line ∙ c.loop-k.invariant.eight;
      marked = λ j.
          ap (λ n. get_or (set c.loop-k.marked n c.args.line) j 0) same
          ∙ marked_more c.loop-k.marked c.args.from c.loop-k.k c.args.line (λ i. get_or c.args.lines.now i 0) (omega arith) (omega (arith, c.loop-k.invariant.eight))
          c.loop-k.invariant.marked j;
    }

pub returns-clause-lines : goal.returns-clause-lines
returns-clause-lines c =
    let ended : c.loop-k.k ≡ c.args.to = omega arith in
    λ k. c.loop-k.invariant.marked k ∙ ap (λ n. cond (is_from_to c.args.from n k) c.args.line (get_or c.args.lines.now k 0)) ended
