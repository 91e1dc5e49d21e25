-- rseq(2), which isn't there beside another process.
use Rattle.block_model.proofs.Common.{◌≡◌, ℕ, ◌%◌, Bool, cond, eqb, not, true, false, refl, Option, Some, None, Result, Ok, Err, Area, EINVAL, Errno, Here, Neighbour, are_words_writable, area_here, argument, id_of, int_argument, is_writable, option_map_or, words_on}
use Rattle.mach_types.specs.Kernel.Areas.{registered_again, registered_first, registration, unregistration, words_unregistered}
use Rattle.block_model.specs.Calls.Beside.{sequence_call}
use Rattle.block_model.specs.Calls.Sequences.{registers_or_refused, rseq, unregisters, unregisters_or_refused}
use Rattle.block_model.proofs.CallEffects.{CallDeed, Registers, Says, Unregisters, answers_0, deed_killed, either}
use Rattle.block_model.proofs.WritableBytes.{area_writable}

-- a registration that isn't refused is of a thread that has no area
had_none : (old : Option Area) (at len sig : ℕ) (area : Area)
    → option_map_or (λ (old : Area). Err (registered_again old at len sig)) old
    (registered_first at len sig) ≡ Ok area → old ≡ None
had_none None at len sig area is = refl
had_none (Some old) at len sig area is = cc

registers_first : (old : Option Area) (at len flags sig : ℕ) (area : Area)
    → registration old at len flags sig ≡ Ok area → old ≡ None
registers_first old at len flags sig area is = go (eqb flags 0) is
  where
    go : (b : Bool) → cond (not b) (Err EINVAL)
        (option_map_or (λ (old : Area). Err (registered_again old at len sig)) old
        (registered_first at len sig)) ≡ Ok area
        → old ≡ None
    go true is = had_none old at len sig area is
    go false is = cc

module _ (here : Here) (t number : ℕ) where
  deed_registers : here.beside ≡ None → (x : Result Area Errno) → ((area : Area) → x ≡ Ok area → area_here here t ≡ None)
      → CallDeed here t number (registers_or_refused here t x)
  deed_registers alone (Err e) first = Says _
  deed_registers alone (Ok area) first =
      either (are_words_writable (is_writable here) area)
      (λ may. answers_0 _ _ (area_writable (is_writable here) area (words_on here.hart (id_of t here.kernel.ids)) may)
      (Registers area alone (first area refl) refl)) (λ _. deed_killed)

  deed_unregisters : (old : Option Area) → CallDeed here t number (unregisters here t old)
  deed_unregisters None = Says _
  deed_unregisters (Some area) =
      either (are_words_writable (is_writable here) area)
      (λ may. answers_0 _ _ (area_writable (is_writable here) area words_unregistered may) Unregisters) (λ _. Says _)

  deed_unregisters_or : (x : Result (Unit {0}) Errno)
      → CallDeed here t number (unregisters_or_refused here t x)
  deed_unregisters_or (Err e) = Says _
  deed_unregisters_or (Ok done) = deed_unregisters (area_here here t)

  deed_rseq : here.beside ≡ None → CallDeed here t number (rseq here t)
  deed_rseq alone =
      let at = argument here t 0 in
      let len = int_argument here t 1 in
      let flags = int_argument here t 2 in
      let sig = int_argument here t 3 in
      let old = area_here here t in
      either (eqb (flags % 2) 1) (λ _. deed_unregisters_or (unregistration old at len flags sig))
      (λ _. deed_registers alone (registration old at len flags sig) (registers_first old at len flags sig))

  pub deed_sequence_call : (o : Option Neighbour) → here.beside ≡ o → CallDeed here t number (sequence_call o here t)
  deed_sequence_call None is = deed_rseq is
  deed_sequence_call (Some other) is = Says _
