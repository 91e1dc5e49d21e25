-- futex(2).
use Rattle.block_model.proofs.Common.{◌≡◌, ℕ, ◌<◌, ◌^◌, ◌&&◌, ◌||◌, Bool, true, false, not, refl, sym, [], arith, eqb, Here, argument, false≢true, int_argument, leb-false, mod-lt, next_for}
use Rattle.mach_types.specs.Kernel.Futexes.{hears, operation}
use Rattle.block_model.specs.Calls.Futexes.{anyone, futex, futex_errors, futex_requeue, futex_wait, futex_wake, is_negative, is_requeue, is_wait, is_wake, requeue_errors, wait_errors, wake_mask}
use Rattle.block_model.proofs.SignalsOfWaiters.{none_left}
use Rattle.block_model.proofs.CallEffects.{CallDeed, NoneHolds, Waits, Wakes, answers_0, by_errors, either}

-- what is built, and neither waits nor wakes, requeues: so neither number is negative
requeues : (a b c d : Bool) → a ≡ false → b ≡ false → not (a || b || c) ≡ false → (c && d) ≡ false → d ≡ false
requeues true b c d p q built none = absurd (false≢true (sym p))
requeues false true c d p q built none = absurd (false≢true (sym q))
requeues false false true d p q built none = none
requeues false false false d p q built none = absurd (false≢true (sym built))

neither : (a b : Bool) → (a || b) ≡ false → (a ≡ false) × (b ≡ false)
neither true b none = absurd (false≢true (sym none))
neither false b none = (refl, none)

module _ (here : Here) (t number : ℕ) (is : number ≡ 98) where
  abbrev op : ℕ
  op = operation (int_argument here t 1)

  deed_wait : CallDeed here t number (futex_wait here t)
  deed_wait = by_errors (wait_errors here t) _ (λ none.
      answers_0 [] _ tt (Waits (argument here t 0) (none_left (next_for t here.kernel.signals) none.1.1.1.0) is))

  deed_wake : CallDeed here t number (futex_wake here t)
  deed_wake =
      let most : int_argument here t 2 < 2 ^ 32 = mod-lt (argument here t 2) (omega arith) in
      Wakes (int_argument here t 2) 0 (argument here t 0) 0 (λ u. hears (wake_mask here t) (here.file u)) (omega arith)

  deed_requeue : NoneHolds (futex_errors here t) → is_wait op ≡ false → is_wake op ≡ false → CallDeed here t number (futex_requeue here t)
  deed_requeue none waits wakes =
      let n = int_argument here t 2 in
      let more = int_argument here t 3 in
      let small = neither _ _ (requeues _ _ _ _ waits wakes none.0 none.1.1.1.0) in
      let few : n < 2 ^ 31 = leb-false _ _ small.0 in
      let fewer : more < 2 ^ 31 = leb-false _ _ small.1 in
      by_errors (requeue_errors here t) _ (λ _. Wakes n more (argument here t 0) (argument here t 4) anyone (omega arith))

  pub deed_futex : CallDeed here t number (futex here t)
  deed_futex =
      by_errors (futex_errors here t) _ (λ none.
      either (is_wait op) (λ _. deed_wait) (λ waits.
      either (is_wake op) (λ _. deed_wake) (λ wakes. deed_requeue none waits wakes)))
