use Rattle.std.proofs.Common.{◌≡◌, ℕ, ◌+◌, ◌%◌, ◌<◌, ◌≤◌, ◌∙◌, ap, sym, arith, get_or, false, rules}
use Rattle.std.specs.List.{list_any}
use Rattle.event_facts.specs.Cuts.{cut_by_long, cut_by_store}
use Rattle.event_facts.specs.Tied.{kept_on}
use Rattle.event_facts.proofs.KeptLines.{items-read}
use Rattle.event_facts.proofs.UncutBytes.{of_one}
use Rattle.event_facts.proofs.lines.Lines.is_of_one.Goals as goal

pub returns : goal.returns
returns c = λ held.
    let x = c.args.self.now in
    let h = c.args.hart.0 in
    let at = c.args.at in
    let size = c.args.size in
    let place : at % 8 + size ≤ 8 = omega arith in
    let alike : (k : ℕ) → k < size → get_or c.args.known.now.lines (at % 8 + k) 0 ≡ get_or c.args.known.now.lines (at % 8) 0 = search rules in
    let there : c.from.result ≡ h = search rules in
    let own : c.deref.result.now ≡ kept_on x h =
    c.deref.ensures.value
    ∙ items-read x.waiting.items h c.index-waiting.result.now c.requires.hart
    (c.index-waiting.ensures ∙ ap (λ i. get_or x.waiting.items i c.index-waiting.result.now) there) in
    let stores : list_any (cut_by_store at size) (kept_on x h) ≡ false = sym (c.if-cut_by_stores.ensures ∙ ap (list_any (cut_by_store at size)) own) in
    let long : list_any (cut_by_long at size) x.long.items ≡ false = search rules in
    of_one x c.args.known.now h at size c.requires.known c.requires.word c.ranges.at.fits place alike stores long
