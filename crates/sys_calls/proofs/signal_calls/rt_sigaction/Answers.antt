-- The action is set, and the old one is written where it is asked for.
use Rattle.sys_calls.proofs.Common.{◌≡◌, ℕ, ◌≤◌, Bool, true, false, ◌||◌, cond, eqb, List, [], Option, refl, sym, ap, subst, ◌∙◌, inl, inr, Ok, nat_lt, cases_lt, false≢true, lt-ltb, action_of, refuses_action, Action, CallDone, IsAnswered, IsEntered, Kernel, Write, argument, can_write_in, int_argument, pass_action, signalled, acted, action_written}
use Rattle.sys_calls.proofs.GuestMemory.{argument_is, int_argument_is}
use Rattle.sys_calls.proofs.signal_calls.rt_sigaction.Goals as goal
use Rattle.sys_calls.proofs.CallAnswers.{answered_changed}
use Rattle.sys_calls.proofs.Laws.{holds_signals}

-- a number that isn't refused is one of a signal
in_range : (n : ℕ) (new : Option Action) → refuses_action n new ≡ false → n ≤ 31
in_range n new accepted = elim (cases_lt 31 n) [
  | inl lt ↦ absurd (false≢true (sym accepted ∙ past (lt-ltb 31 n lt) (eqb n 0) refl))
  | inr le ↦ le
]
  where
    past : nat_lt 31 n ≡ true → (b : Bool) → eqb n 0 ≡ b → refuses_action n new ≡ true
    past high true zero = rw zero refl
    past high false zero = rw (zero, high) refl

pub signal_number-sig-requires : goal.signal_number-sig-requires
signal_number-sig-requires c =
    in_range c.int_argument.result c.in_ok-new.new (ap (λ (n : ℕ). refuses_action n c.in_ok-new.new) c.int_argument.ensures ∙ c.in_ok-new.ensures.accepted)

pub write_action_unless_zero-requires-clause-usable : goal.write_action_unless_zero-requires-clause-usable
write_action_unless_zero-requires-clause-usable c =
    ap (λ (a : ℕ). eqb a 0 || pass_action (can_write_in c.args.pages.now) a) c.argument.ensures ∙ c.in_ok-new.ensures.usable

pub returns-clause-answered : goal.returns-clause-answered
returns-clause-answered c = λ h t told read.
    let k = c.args.kernel.now in
    let k' : Kernel = record k { signals = c.act.new.self } in
    let m = c.args.pages.now in
    let m' = c.write_action_unless_zero.new.pages in
    let new = c.in_ok-new.new in
    let g = h.kernel.signals in
    let sig : c.signal_number-sig.result ≡ int_argument h t 0 = c.signal_number-sig.ensures ∙ c.int_argument.ensures ∙ int_argument_is h t c.args.saved.now read.file 0 in
    let old : c.argument.result ≡ argument h t 2 = c.argument.ensures ∙ argument_is h t c.args.saved.now read.file 2 in
    let ws : List Write = cond (eqb (argument h t 2) 0) [] (action_written (argument h t 2) (action_of (int_argument h t 0) g)) in
    let same : cond (eqb c.argument.result 0) [] (action_written c.argument.result c.in-Ok.old) ≡ ws =
    (λ i. cond (eqb (old i) 0) [] (action_written (old i) ((c.in-Ok.ensures.old ∙ (λ j. action_of (sig j) (told.signals j))) i))) in
    let signals : k'.signals ≡ acted (int_argument h t 0) new g =
    c.in-Ok.ensures.ok ∙ ap (λ (n : ℕ). acted n new k.signals) sig ∙ ap (acted (int_argument h t 0) new) told.signals in
    let done = answered_changed h t k k' m m' ws c.write_action_unless_zero.new.written.items (Ok 0) (signalled (acted (int_argument h t 0) new g) h.kernel)
    (holds_signals told c.act.new.self (acted (int_argument h t 0) new g) signals) refl refl refl
    (subst (IsEntered m m') same c.write_action_unless_zero.ensures.entered) (c.write_action_unless_zero.ensures.told ∙ same) refl in
    subst (λ (d : CallDone). IsAnswered h t k m k' m' c.write_action_unless_zero.new.written.items (Ok 0) d) (sym (c.in_ok-new.ensures.given h t read)) done
