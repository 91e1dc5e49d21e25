use Rattle.std.proofs.Common.{ℕ, List, ◌++◌, Option, ap, ◌∙◌, append_assoc, arith}
use Rattle.std.specs.List.{flat_map}
use Rattle.place_text.specs.Memory.{memory_line, seen_text, word_text}
use Rattle.place_text.specs.Place.{all_harts}
use Rattle.place_text.specs.Seen.{here_of}
use Rattle.place_text.proofs.Lists.{all_numbers, range_step}
use Rattle.place_text.proofs.memory.push_number.Goals as goal

pub push_seen-requires-clause-held : goal.push_seen-requires-clause-held
push_seen-requires-clause-held c = c.number_held-held.ensures c.loop-number.number

pub loop-number-preserved : goal.loop-number-preserved
loop-number-preserved c =
    range_step (λ h. seen_text (here_of c.args.machine.now h) c.args.at) _ _ _ c.loop-number.number c.loop-number.invariant c.in_ok-push_seen.ensures

pub returns : goal.returns
unfolding word_text
returns c =
    let seen : ℕ → List ℕ = λ h. seen_text (here_of c.args.machine.now h) c.args.at in
    let harts = flat_map seen (all_harts c.args.machine.now.setting) in
    let start = c.args.text.now.items in
    let held : Option ℕ → List ℕ = λ value. memory_line c.args.at value in
    let all = all_numbers seen _ _ c.loop-number.number c.args.machine.now.setting.limits.harts (omega arith) c.loop-number.invariant in
    all ∙ ap (λ l. l ++ harts) c.in_ok-push_held.ensures ∙ append_assoc start (held c.number_held-held.result) harts
    ∙ ap (λ value. start ++ (held value ++ harts)) (c.number_held-held.ensures 0)
