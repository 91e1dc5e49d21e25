-- The mask is changed, and the old one is written where it is asked for.
use Rattle.sys_calls.proofs.Common.{◌≡◌, ℕ, not, ◌&&◌, ◌||◌, cond, eqb, List, [], ◌∷◌, unwrap_or, sym, ap, subst, ◌∙◌, refl, Ok, IsAnswered, IsEntered, Kernel, Write, byte_in, can_write_in, each_byte, int_in, word_at, mask_of, refuses_how, CallDone, argument, double_written, int_argument, number_at, signalled, masked, mask_changed}
use Rattle.sys_calls.proofs.GuestMemory.{argument_is, int_argument_is, number_there}
use Rattle.sys_calls.proofs.signal_calls.rt_sigprocmask.Goals as goal
use Rattle.sys_calls.proofs.CallAnswers.{answered_changed}
use Rattle.sys_calls.proofs.Laws.{holds_signals}

pub change_mask-requires-clause-how : goal.change_mask-requires-clause-how
change_mask-requires-clause-how c =
    ap (λ (n : ℕ). not (eqb c.argument.result 0) && refuses_how n) c.int_argument-how.ensures
    ∙ ap (λ (n : ℕ). not (eqb n 0) && refuses_how (int_in c.args.saved.now 0)) c.argument.ensures ∙ c.in_ok-may_mask.ensures.how

pub write_set_unless_zero-requires-clause-usable : goal.write_set_unless_zero-requires-clause-usable
write_set_unless_zero-requires-clause-usable c =
    ap (λ (a : ℕ). eqb a 0 || each_byte (can_write_in c.args.pages.now) a 8) c.argument-2.ensures ∙ c.in_ok-may_mask.ensures.usable

pub returns-clause-answered : goal.returns-clause-answered
returns-clause-answered c = λ h told read.
    let t = c.args.tid.0 in
    let k = c.args.kernel.now in
    let k' : Kernel = record k { signals = c.change_mask.new.signals } in
    let m = c.args.pages.now in
    let m' = c.write_set_unless_zero.new.pages in
    let how : c.int_argument-how.result ≡ int_argument h t 0 = c.int_argument-how.ensures ∙ int_argument_is h t c.args.saved.now read.file 0 in
    let at : c.argument.result ≡ argument h t 1 = c.argument.ensures ∙ argument_is h t c.args.saved.now read.file 1 in
    let old : c.argument-2.result ≡ argument h t 2 = c.argument-2.ensures ∙ argument_is h t c.args.saved.now read.file 2 in
    let set = unwrap_or (word_at (byte_in m) c.argument.result 8) 0 in
    let given : set ≡ number_at h (argument h t 1) 8 = number_there h m t c.args.saved.now read c.argument.result (argument h t 1) 8 at in
    let signals : k'.signals ≡ masked h t (int_argument h t 0) (argument h t 1) =
    c.change_mask.ensures ∙ (λ i. mask_changed t (how i) (at i) (given i) (told.signals i)) in
    let ws : List Write = cond (eqb (argument h t 2) 0) [] (double_written (argument h t 2) (mask_of t h.kernel.signals) ∷ []) in
    let same : cond (eqb c.argument-2.result 0) [] (double_written c.argument-2.result c.mask_of-old.result ∷ []) ≡ ws =
    (λ i. cond (eqb (old i) 0) [] (double_written (old i) ((c.mask_of-old.ensures ∙ ap (mask_of t) told.signals) i) ∷ [])) in
    let done = answered_changed h t k k' m m' ws c.write_set_unless_zero.new.written.items (Ok 0) (signalled (masked h t (int_argument h t 0) (argument h t 1)) h.kernel)
    (holds_signals told c.change_mask.new.signals (masked h t (int_argument h t 0) (argument h t 1)) signals) refl refl refl
    (subst (IsEntered m m') same c.write_set_unless_zero.ensures.entered) (c.write_set_unless_zero.ensures.told ∙ same) refl in
    subst (λ (d : CallDone). IsAnswered h t k m k' m' c.write_set_unless_zero.new.written.items (Ok 0) d) (sym (c.in_ok-may_mask.ensures.masks h t read)) done
