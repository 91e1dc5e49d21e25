use Rattle.std.proofs.Common.{◌≡◌, ℕ, List, [], ◌∷◌, ◌++◌, ◌+◌, ◌-◌, ◌/◌, ◌%◌, drop, length, ap, sym, ◌∙◌, append_assoc, arith}
use Rattle.std.specs.Fmt.{decimal}
use Rattle.step_log.specs.Text.{space}
use Rattle.traced_runs.proofs.Hundreds.{longer, two_more}
use Rattle.traced_runs.proofs.line_numbers.Hundreds.put.Goals as goal

pub returns-clause-text : goal.returns-clause-text
returns-clause-text c =
    let n = c.args.number in
    let line = c.args.line.now in
    let digits = c.turn_to.new.self.digits in
    let start = c.turn_to.new.self.start in
    let back : length digits - (20 - start) ≡ start = omega (arith, c.turn_to.new.self.within) in
    let kept : drop (length digits - (20 - start)) digits ≡ decimal (n / 100) = rw back (c.turn_to.new.self.kept ∙ ap decimal c.turn_to.ensures) in
    let two = two_more n c.if-number-lt100.false c.ranges.number.fits in
    c.put-2.ensures.text
    ∙ ap (λ (l : List ℕ). space ∷ l)
    (c.put_last.ensures.text
    ∙ (λ i. kept i ++ c.put.ensures.text i)
    ∙ sym (append_assoc (decimal (n / 100)) ((48 + n % 100 / 10) ∷ (48 + n % 100 % 10) ∷ []) line)
    ∙ ap (λ (ds : List ℕ). ds ++ line) (sym two))

pub returns-clause-length : goal.returns-clause-length
returns-clause-length c = longer c.args.number space c.args.line.now _ c.ranges.number.fits (returns-clause-text c)
