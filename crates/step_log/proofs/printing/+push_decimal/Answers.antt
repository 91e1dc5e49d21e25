use Rattle.std.proofs.Common.{ℕ, ap, length, ◌∙◌, arith, length-append}
use Rattle.std.proofs.lemmas.Fmt.{decimal_nonempty}
use Rattle.arrayvec.specs.ArrayVec.{ArrayVec, array_vec_len}
use Rattle.step_log.proofs.Printed.{length-decimal_step, decimal_many, decimal_one}
use Rattle.step_log.proofs.printing.+push_decimal.Goals as goal
use Rattle.step_log.proofs.printing.+push_decimal.Goals.{then-number-ge10, else-number-ge10}

pub push_decimal-requires : goal.push_decimal-requires
push_decimal-requires t c =
    let shorter = length-decimal_step c.args.number c.if-number-ge10.true (omega arith) in
    (omega arith, omega arith)

pub push-requires : goal.push-requires
push-requires t c =
    elim c.if-number-ge10.branch [
      | then-number-ge10 w ↦
          let shorter = length-decimal_step c.args.number w.if-number-ge10.true (omega arith) in
          let line = ap (λ (v : ArrayVec ℕ). array_vec_len v) w.line-is in
          let before = ap length w.push_decimal.ensures in
          omega (arith, length-append {A = ℕ})
      | else-number-ge10 w ↦
          let line = ap (λ (v : ArrayVec ℕ). array_vec_len v) w.line-is in
          omega (arith, decimal_nonempty c.args.number (omega arith))
    ]

pub returns : goal.returns
returns t c =
    elim c.if-number-ge10.branch [
      | then-number-ge10 w ↦
          decimal_many c.args.line.now.items c.if-number-ge10.line.items c.push.new.self.items c.args.number w.if-number-ge10.true (omega arith)
          (ap (λ (v : ArrayVec ℕ). v.items) w.line-is ∙ w.push_decimal.ensures) c.push.ensures.items
      | else-number-ge10 w ↦
          decimal_one c.args.line.now.items c.if-number-ge10.line.items c.push.new.self.items c.args.number w.if-number-ge10.false
          (ap (λ (v : ArrayVec ℕ). v.items) w.line-is) c.push.ensures.items
    ]
