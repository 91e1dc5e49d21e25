use Rattle.machine_core.proofs.Common.{arith, ◌≡◌, ℕ, ◌+◌, ap, subst, sym, ◌∙◌, advance_at, history, Seen, Setting, ap₂}
use Rattle.machine_core.proofs.StretchLending.{IsOnItsWay, goes_its_way, is_there}
use Rattle.machine_core.proofs.machine.Machine.advance_often.Goals as goal

pub loop-preserved : goal.loop-preserved
loop-preserved c =
    let s = c.args.self.now.setting in
    let seed = c.args.self.now.seed in
    let h = c.args.hart.0 in
    let begun = c.args.self.now.log in
    let now = c.loop.self.log in
    let same : c.loop.self.setting ≡ s = c.loop.invariant.0 in
    let same_seed : c.loop.self.seed ≡ seed = c.loop.invariant.1 in
    let is = c.advance.ensures.answer ∙ ap₂ (λ (x : Setting) (n : ℕ). advance_at x n h (history x now)) same same_seed in
    let way = goes_its_way s seed h begun now c.loop.counter c.args.count c.advance.result c.loop.invariant.4 c.loop-test.true c.requires.makes is in
    let log = ap (λ (v : Seen). v.log) c.advance.ensures.log in (
      ap (λ (v : Seen). v.setting) c.advance.ensures.log ∙ same,
      ap (λ (v : Seen). v.seed) c.advance.ensures.log ∙ same_seed,
      c.advance.ensures.chosen,
      c.advance.ensures.block_run,
      subst (λ l. IsOnItsWay s seed h begun l (c.loop.counter + 1) c.args.count) (sym log) way,
    )

pub returns-clause-log : goal.returns-clause-log
returns-clause-log c =
    let none_left : c.loop.counter ≡ c.args.count = omega (arith, c.loop.auto.counter-end, c.loop-test.false) in
    is_there c.args.self.now.setting c.args.self.now.seed c.args.hart.0 c.args.self.now.log c.loop.self.log c.loop.counter c.args.count c.loop.invariant.4 none_left
