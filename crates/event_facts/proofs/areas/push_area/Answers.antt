use Rattle.std.proofs.Common.{◌≡◌, ◌∙◌, ◌++◌, [], ap, append-nil, cond, false, sym, true}
use Rattle.mach_types.specs.Events.{choice_of}
use Rattle.block_model.specs.Here.{memory}
use Rattle.block_model.specs.Sequences.{area_here}
use Rattle.event_facts.specs.Areas.{area_words, is_of_kernel}
use Rattle.event_facts.specs.Telling.{here_on}
use Rattle.event_facts.proofs.areas.push_area.Goals as goal

pub returns : goal.returns
returns c =
    let entry = c.args.entry in
    let here = here_on c.args.machine.now entry.hart.0 in
    let facts = c.args.facts.now.items in
    let words = area_words c.args.before (memory here) (area_here here entry.tid.0) in
    let is : is_of_kernel (choice_of entry) c.args.call ≡ true = sym c.is_of_kernel.ensures ∙ c.if-not-is_of_kernel.false in
    c.in_ok-push_words.ensures entry.hart.0 ∙ sym (ap (λ b. facts ++ cond b words []) is)

pub returns-then-not-is_of_kernel : goal.returns-then-not-is_of_kernel
returns-then-not-is_of_kernel c =
    let entry = c.args.entry in
    let here = here_on c.args.machine.now entry.hart.0 in
    let facts = c.args.facts.now.items in
    let words = area_words c.args.before (memory here) (area_here here entry.tid.0) in
    let is : is_of_kernel (choice_of entry) c.args.call ≡ false = sym c.is_of_kernel.ensures ∙ c.if-not-is_of_kernel.true in
    sym (append-nil facts) ∙ sym (ap (λ b. facts ++ cond b words []) is)
