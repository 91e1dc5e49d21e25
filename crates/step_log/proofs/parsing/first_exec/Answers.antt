use Rattle.std.proofs.Common.{◌≡◌, ℕ, List, get_or, refl, sym, ◌∙◌, arith}
use Rattle.step_log.proofs.Quick.{BeginsExec, first_is_read}
use Rattle.step_log.proofs.parsing.first_exec.Goals as goal

pub returns-in_ok-pc-in-48-to-55 : goal.returns-in_ok-pc-in-48-to-55
returns-in_ok-pc-in-48-to-55 c =
    let text = c.args.text.now in
    let begins : BeginsExec c.args.text.now = record {
      hart_low = omega arith;
      hart_high = omega arith;
      after_hart = omega arith;
      word_0 = omega arith;
      word_1 = omega arith;
      word_2 = omega arith;
      word_3 = omega arith;
      after_word = omega arith;
      tid_low = omega arith;
      tid_high = omega arith;
      after_tid = omega arith;
    } in
    rw (c.whole_line.ensures) (first_is_read c.args.text.now _ _ c.from.result c.in_ok-pc-in-48-to-55.pc (omega arith) begins refl refl c.from.ensures
    (omega arith) c.if-rest-eq10.true (sym c.pc_of.ensures ∙ c.in_ok-pc-in-48-to-55.was))
