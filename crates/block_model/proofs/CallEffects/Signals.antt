-- tkill(2), tgkill(2), sigaction(2), sigprocmask(2), sigpending(2) and sigreturn(2).
use Rattle.block_model.proofs.Common.{◌≡◌, ◌≢◌, ◌∙◌, ◌≤◌, ◌+◌, arith, ℕ, List, Bool, cond, eqb, false, true, refl, subst, Option, Some, None, is_some, [], ◌∷◌, Action, EINVAL, Here, Kernel, Signalling, ThreadState, Threads, Waiting, acted, action_of, and_parts, are_writable, argument, double_written, false≢true, frame_read, int_argument, is_waiting_state, is_writable, mask_of, memory, next_for, not-false, option_map_or, posted, resumed, state_of, waits, with_mask}
use Rattle.mach_types.specs.Kernel.Signals.{changed_mask}
use Rattle.block_model.specs.Calls.Answers.{number_at}
use Rattle.block_model.specs.Calls.Signals.{action_at, action_given, action_size, action_written, masked, may_write, post, refuses_signal, rt_sigaction, rt_sigpending, rt_sigprocmask, rt_sigreturn, send, sigaction_errors, sigpending_errors, sigprocmask_errors, tgkill, tgkill_errors, tkill, tkill_errors, waits_in_vain, with_posted}
use Rattle.block_model.proofs.Images.{number_small}
use Rattle.block_model.proofs.CallEffects.{AllStand, CallDeed, Breaks, Resumes, Same, Says, Signalled, answers_0, by_errors, deed_killed, either}
use Rattle.block_model.proofs.SignalsOfWaiters.{next_acted, next_masked, next_posted, next_unbroken}
use Rattle.block_model.proofs.IgnoredSignals.{AllHeeded, heeded_acted, heeded_masked, heeded_posted}
use Rattle.block_model.proofs.SignalTables.{KeepsThreads, StandsAt, acted_keeps, acted_stand, masked_keeps, posted_keeps, posted_stand, same_stand}
use Rattle.block_model.proofs.WritableBytes.{AllWritable, part_writable, written_unless}

-- a thread whose wait a signal breaks waits
waits_by : (ts : Threads) (u : ℕ) (o : Option ThreadState) → state_of u ts ≡ o
    → option_map_or is_waiting_state o false ≡ true → waits ts u
waits_by ts u (Some (Waiting at)) was is = (at, was)
waits_by ts u o was is = absurd (false≢true is)

in_vain_waits : (u : ℕ) (k : Kernel) → waits_in_vain u k ≡ true → waits k.threads u
in_vain_waits u k is =
    waits_by k.threads u (state_of u k.threads) refl
    (and_parts (option_map_or is_waiting_state (state_of u k.threads) false)
    (is_some (next_for u k.signals)) is).0

-- an action that is read has a handler below 2^64
given_by : (b : Bool) (new a : Action) → StandsAt new → cond b None (Some new) ≡ Some a → StandsAt a
given_by true new a stands is = cc
given_by false new a stands is = let same : new ≡ a = cc in subst StandsAt same stands

given_stands : (here : Here) (p : ℕ) → AllStand here → (a : Action) → action_given here p ≡ Some a
    → StandsAt a
given_stands here p stand a is = given_by (eqb p 0) (action_at here p) a (number_small here stand.bytes p) is

masked_by : (b : Bool) (t mask : ℕ) (g : Signalling) → KeepsThreads g (cond b g (with_mask t mask g))
masked_by true t mask g = refl
masked_by false t mask g = masked_keeps t mask g

masked_actions : (b : Bool) (t mask : ℕ) (g : Signalling)
    → g.actions ≡ (cond b g (with_mask t mask g)).actions
masked_actions true t mask g = refl
masked_actions false t mask g = refl

masked_heeds : (b : Bool) (t mask : ℕ) (g : Signalling) → AllHeeded g → AllHeeded (cond b g (with_mask t mask g))
masked_heeds true t mask g all = all
masked_heeds false t mask g all = heeded_masked t mask g all

masked_calm : (b : Bool) (t mask w : ℕ) → w ≢ t → (g : Signalling) → next_for w (cond b g (with_mask t mask g)) ≡ next_for w g
masked_calm true t mask w ne g = refl
masked_calm false t mask w ne g = next_masked t w ne mask g

-- the old action is written where it can be
action_writable : (here : Here) (at : ℕ) (a : Action) → are_writable here at action_size ≡ true → AllWritable (is_writable here) (action_written at a)
action_writable here at a may =
    let part = λ (from value : ℕ) (low : at ≤ from) (high : from + 8 ≤ at + action_size).
    part_writable (is_writable here) at action_size from 8 value may low high (omega arith) in
    (part at a.at (omega arith) (omega arith), (part (at + 8) a.flags (omega arith) (omega arith), (part (at + 16) a.mask (omega arith) (omega arith), tt)))

module _ (here : Here) (t number : ℕ) where
  deed_post : (u sig : ℕ) → CallDeed here t number (post here t u sig)
  deed_post u sig =
      let g = posted u sig here.kernel.signals in
      let after = with_posted here u sig in
      let keeps = posted_keeps u sig here.kernel.signals in
      let stand = λ (all : AllStand here). posted_stand u sig here.kernel.signals all.handlers in
      let heeds = heeded_posted u sig here.kernel.signals in
      either (waits_in_vain u after) (λ vain. Breaks u g (in_vain_waits u after vain) keeps stand heeds
      (λ w ne none. next_posted u w ne sig here.kernel.signals ∙ none)) (λ calm. answers_0 [] _ tt (Signalled g keeps stand heeds
      (λ w ne is none. next_unbroken u sig w here.kernel.threads here.kernel.signals calm is none)))

  deed_send : (u sig : ℕ) → CallDeed here t number (send here t u sig)
  deed_send u sig = by_errors ((refuses_signal sig, EINVAL) ∷ []) _
      (λ _. either (eqb sig 0) (λ _. Says 0) (λ _. deed_post u sig))

  pub deed_tkill : CallDeed here t number (tkill here t)
  deed_tkill = by_errors (tkill_errors here t) _
      (λ _. deed_send (int_argument here t 0) (int_argument here t 1))

  pub deed_tgkill : CallDeed here t number (tgkill here t)
  deed_tgkill = by_errors (tgkill_errors here t) _
      (λ _. deed_send (int_argument here t 1) (int_argument here t 2))

  pub deed_sigaction : CallDeed here t number (rt_sigaction here t)
  deed_sigaction =
      let sig = int_argument here t 0 in
      let act = argument here t 1 in
      let g = here.kernel.signals in
      let new = action_given here act in
      let old = argument here t 2 in
      let may = may_write here old action_size in
      by_errors (sigaction_errors here t) _ (λ none.
      answers_0 _ _ (written_unless (is_writable here) (eqb old 0) (are_writable here old action_size) (action_written old (action_of sig g))
      (not-false may none.1.1.1.0) (action_writable here old (action_of sig g))) (Signalled (acted sig new g) (acted_keeps sig new g)
      (λ all. acted_stand sig new g (given_stands here act all) all.handlers) (heeded_acted sig new g)
      (λ w ne is none. next_acted sig w new g none)))

  pub deed_sigprocmask : CallDeed here t number (rt_sigprocmask here t)
  deed_sigprocmask =
      let how = int_argument here t 0 in
      let set = argument here t 1 in
      let g = here.kernel.signals in
      let mask = changed_mask how (number_at here set 8) (mask_of t g) in
      let old = argument here t 2 in
      let may = may_write here old 8 in
      by_errors (sigprocmask_errors here t) _ (λ none.
      answers_0 _ _ (written_unless (is_writable here) (eqb old 0) (are_writable here old 8) (double_written old (mask_of t g) ∷ [])
      (not-false may none.1.1.1.0) (λ can. ((omega arith, can), tt))) (Signalled (masked here t how set) (masked_by (eqb set 0) t mask g)
      (λ all. same_stand g (masked here t how set) (masked_actions (eqb set 0) t mask g) all.handlers)
      (masked_heeds (eqb set 0) t mask g)
      (λ w ne is none. masked_calm (eqb set 0) t mask w ne g ∙ none)))

  pub deed_sigpending : CallDeed here t number (rt_sigpending here t)
  deed_sigpending = by_errors (sigpending_errors here t) _
      (λ none. answers_0 _ _ ((omega arith, not-false (are_writable here (argument here t 0) 8) none.1.0), tt) Same)

-- a handler returns
deed_resumed : (here : Here) (t : ℕ) (words : Option (List ℕ))
    → frame_read (memory here) (here.file t) ≡ words → CallDeed here t 139 (resumed here t words)
deed_resumed here t None is = deed_killed
deed_resumed here t (Some words) is = Resumes words is refl

pub deed_sigreturn : (here : Here) (t : ℕ) → CallDeed here t 139 (rt_sigreturn here t)
deed_sigreturn here t = deed_resumed here t (frame_read (memory here) (here.file t)) refl
