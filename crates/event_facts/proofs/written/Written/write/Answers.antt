use Rattle.std.proofs.Common.{◌+◌, ◌-◌, ◌/◌, ◌%◌, ◌∙◌, ap, cond, sym, arith}
use Rattle.event_facts.specs.Written.{is_among, line_at}
use Rattle.event_facts.proofs.WrittenBytes.{in_one_word, in_two_words}
use Rattle.event_facts.proofs.written.Written.write.Goals as goal

pub returns : goal.returns
returns c = λ a.
    let at = c.args.store.at in
    let size = c.args.store.size in
    c.in_ok-mark-3.ensures a
    ∙ ap (λ n. cond (is_among (at / 8 + 1) 0 (at % 8 + size - 8) a) c.args.line n) (c.in_ok-mark-2.ensures a)
    ∙ in_two_words at size a c.args.line (line_at c.args.self.now a) (omega arith) c.requires

pub returns-then-to-le8 : goal.returns-then-to-le8
returns-then-to-le8 c = λ a.
    let at = c.args.store.at in
    let size = c.args.store.size in
    c.in_ok-mark.ensures a ∙ ap (λ b. cond b c.args.line (line_at c.args.self.now a)) (sym (in_one_word at size a (omega arith)))
