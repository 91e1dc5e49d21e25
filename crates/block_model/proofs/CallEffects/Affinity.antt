-- sched_setaffinity(2), sched_getaffinity(2), sched_yield(2) and getcpu(2).
use Rattle.block_model.proofs.Common.{◌≡◌, ℕ, ◌&&◌, [], ◌∷◌, true, arith, eqb, Here, and_parts, are_writable, argument, eqb-false, has_hart, int_argument, is_writable, not-false, word_written}
use Rattle.block_model.specs.Calls.Affinity.{getaffinity_errors, getcpu, getcpu_errors, is_usable, sched_getaffinity, sched_setaffinity, sched_yield, set_at, set_given, setaffinity_errors, written_unless_zero}
use Rattle.block_model.proofs.AllowedHarts.{harts_in_below}
use Rattle.block_model.proofs.CallEffects.{CallDeed, Answers, Leaves, MovesOff, Same, Stays, answers_0, by_errors, small_no_error, step_either}
use Rattle.block_model.proofs.WritableBytes.{AllWritable, both_writable, written_unless}

usable_written : (here : Here) (p value : ℕ) → is_usable here p ≡ true → AllWritable (is_writable here) (written_unless_zero p value)
usable_written here p value may =
    written_unless (is_writable here) (eqb p 0) (are_writable here p 4) (word_written p value ∷ []) may (λ can. ((omega arith, can), tt))

module _ (here : Here) (t number : ℕ) where
  pub deed_setaffinity : CallDeed here t number (sched_setaffinity here t)
  deed_setaffinity =
      let set = set_given here t in
      let below = harts_in_below
      (set_at here (argument here t 2) (int_argument here t 1)) here.setting.limits.harts in
      by_errors (setaffinity_errors here t) _ (λ none.
      let some = eqb-false set 0 none.1.1.1.0 in
      answers_0 [] _ tt (step_either (has_hart set here.hart) (Stays set below some) (MovesOff set below some)))

  pub deed_getaffinity : CallDeed here t number (sched_getaffinity here t)
  deed_getaffinity = by_errors (getaffinity_errors here t) _
      (λ none. Answers 8 _ _ (λ _. small_no_error 8 (omega arith))
      ((omega arith, not-false (are_writable here (argument here t 2) 8) none.1.1.0), tt) Same)

  pub deed_yield : CallDeed here t number (sched_yield here t)
  deed_yield = answers_0 [] _ tt Leaves

  pub deed_getcpu : CallDeed here t number (getcpu here t)
  deed_getcpu =
      let cpu = argument here t 0 in
      let node = argument here t 1 in
      by_errors (getcpu_errors here t) _ (λ none.
      let both = and_parts (is_usable here cpu) (is_usable here node)
      (not-false (is_usable here cpu && is_usable here node) none.0) in
      answers_0 _ _ (both_writable (is_writable here) (written_unless_zero cpu here.hart) (written_unless_zero node 0)
      (usable_written here cpu here.hart both.0) (usable_written here node 0 both.1)) Same)
