use Rattle.shared_procs.proofs.Common.{sym, ap, ◌∙◌, after_write, held_in}
use Rattle.shared_procs.proofs.Windows.{entered_inside, entered_outside, writable_inside, writable_outside, written_inside, written_outside}
use Rattle.shared_procs.proofs.Segments.{outside}
use Rattle.shared_procs.proofs.window.set_in.Goals as goal

pub returns-else-is_within-clause-answer : goal.returns-else-is_within-clause-answer
returns-else-is_within-clause-answer c =
    let out = outside c.args.at c.args.size c.requires (sym c.is_within.ensures ∙ c.if-is_within.false) in
    c.set.ensures.answer ∙ writable_outside c.args.pages.now c.keeps.ensures.gap c.args.at c.args.size out

pub returns-else-is_within-clause-bytes : goal.returns-else-is_within-clause-bytes
returns-else-is_within-clause-bytes c =
    let out = outside c.args.at c.args.size c.requires (sym c.is_within.ensures ∙ c.if-is_within.false) in
    written_outside c.args.pages.now c.keeps.ensures.gap c.args.segment.now c.set.new.self
    (record { at = c.args.at; size = c.args.size; value = c.args.value }) c.set.result out c.set.ensures.answer c.set.ensures.bytes

pub returns-else-is_within-clause-entered : goal.returns-else-is_within-clause-entered
returns-else-is_within-clause-entered c made =
    let m = c.args.pages.now in
    let out = outside c.args.at c.args.size c.requires (sym c.is_within.ensures ∙ c.if-is_within.false) in
    entered_outside m c.keeps.ensures.gap c.args.segment.now (record { at = c.args.at; size = c.args.size; value = c.args.value }) c.set.new.self out
    (sym c.set.ensures.answer ∙ made) c.set.ensures.alike
    (λ a. c.set.ensures.held a ∙ ap (λ b. after_write b (record { at = c.args.at; size = c.args.size; value = c.args.value }) (held_in m) a) made)

pub returns-then-is_within-clause-answer : goal.returns-then-is_within-clause-answer
returns-then-is_within-clause-answer c =
    writable_inside c.args.segment.now c.args.pages.now c.args.at c.args.size (sym c.is_within.ensures ∙ c.if-is_within.true)

pub returns-then-is_within-clause-bytes : goal.returns-then-is_within-clause-bytes
returns-then-is_within-clause-bytes c =
    written_inside c.args.segment.now c.args.pages.now c.args.at c.args.size (sym c.is_within.ensures ∙ c.if-is_within.true) c.put.new.self c.args.value c.put.ensures

pub returns-then-is_within-clause-entered : goal.returns-then-is_within-clause-entered
returns-then-is_within-clause-entered c made =
    entered_inside c.args.pages.now c.keeps.ensures.gap c.args.segment.now (record { at = c.args.at; size = c.args.size; value = c.args.value }) c.put.new.self c.requires
    (sym c.is_within.ensures ∙ c.if-is_within.true) c.put.ensures
