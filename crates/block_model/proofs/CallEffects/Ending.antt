-- exit(2) and exit_group(2).
use Rattle.block_model.proofs.Common.{◌≡◌, ℕ, Bool, true, false, not, cond, refl, [], ◌∷◌, length, arith, eqb, Here, and_parts, are_writable, clear_of, clears, is_writable, leb-false, word_written}
use Rattle.block_model.specs.Calls.Ending.{clearing, ended_with, exit, exit_group, is_last}
use Rattle.block_model.proofs.CallEffects.{CallDeed, Ends, Exits, either}
use Rattle.block_model.proofs.WritableBytes.{AllWritable}

-- the word that an exit clears can be written
pub cleared_writable : (here : Here) (t : ℕ) → AllWritable (is_writable here) (clearing here t)
cleared_writable here t = by (clears here t) refl
  where
    by : (b : Bool) → clears here t ≡ b → AllWritable (is_writable here) (cond b (word_written (clear_of t here.kernel.threads) 0 ∷ []) [])
    by true is =
        let at = clear_of t here.kernel.threads in
        ((omega arith, (and_parts (not (eqb at 0)) (are_writable here at 4) is).1), tt)
    by false is = tt

module _ (here : Here) (t number : ℕ) where
  pub deed_exit : CallDeed here t number (exit here t)
  deed_exit =
      either (is_last here) (λ _. Ends (clearing here t) (ended_with here t) (cleared_writable here t) ((λ is. absurd cc), (λ is. absurd cc)))
      (λ more. Exits (leb-false (length here.kernel.threads.live) 1 more))

  pub deed_exit_group : CallDeed here t number (exit_group here t)
  deed_exit_group = Ends [] (ended_with here t) tt ((λ is. absurd cc), (λ is. absurd cc))
