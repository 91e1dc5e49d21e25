-- tkill(2) and tgkill(2): a signal is posted, and a wait that it breaks is answered.
use Rattle.sys_calls.proofs.Common.{◌≡◌, ℕ, Bool, true, false, not, ◌||◌, cond, eqb, [], ◌∷◌, None, is_some, ◌&&◌, Ok, refl, sym, ap, subst, ◌∙◌, ne_eqb, option_map_or, AreTables, CallDone, EINVAL, ESRCH, Here, HoldsTables, IsAnswered, Kernel, Map, Scheduling, file_among, int_argument, refused, returned, said, with_ready, Signalling, next_for, posted, Threads, is_live, running_on, state_of, waits, with_woken, Table, answering, with_answer, woken, is_below_one, post, send, tgkill, tkill, woken_same, cond-false, cond-true, is_waiting_state, interrupted, broken_wait, waits_in_vain, with_posted}
use Rattle.sys_calls.proofs.KernelWrites.{entered_none}
use Rattle.sys_calls.proofs.Laws.{holds_signals, holds_woken}
use Rattle.sys_calls.proofs.FutexWakes.{quiet_woken, kept_answered}
use Rattle.sys_calls.proofs.CallAnswers.{answered_changed, answered_with, own_first}

-- a signal is posted: it breaks no wait, or the one of the thread
abbrev broken : Here → ℕ → ℕ → ℕ → CallDone
broken h t u sig = record { files = (t, returned 0 (h.file t)) ∷ broken_wait h u ∷ []; entered = []; kernel = woken u (with_posted h u sig); barrier = None; ended = None }

abbrev unbroken : Here → ℕ → ℕ → ℕ → CallDone
unbroken h t u sig = record (said h t 0) { kernel = with_posted h u sig }

-- whether it breaks one, as the tables tell it
pub vain_as : (h : Here) (u sig : ℕ) (k : Kernel) (g : Signalling) (b : Bool) → HoldsTables k h.kernel → g ≡ posted u sig k.signals
    → b ≡ (option_map_or is_waiting_state (state_of u k.threads.threads) false && is_some (next_for u g)) → waits_in_vain u (with_posted h u sig) ≡ b
vain_as h u sig k g b told is e =
    sym (e ∙ ap (λ (ts : Threads). option_map_or is_waiting_state (state_of u ts) false && is_some (next_for u g)) told.threads
    ∙ ap (λ (s : Signalling). option_map_or is_waiting_state (state_of u h.kernel.threads) false && is_some (next_for u s)) (is ∙ ap (posted u sig) told.signals))

pub answered_posted : (h : Here) (t u sig : ℕ) (k : Kernel) (g : Signalling) (m : Map) → HoldsTables k h.kernel → g ≡ posted u sig k.signals
    → waits_in_vain u (with_posted h u sig) ≡ false → IsAnswered h t k m (record k { signals = g }) m [] (Ok 0) (post h t u sig)
answered_posted h t u sig k g m told signals not_vain =
    subst (IsAnswered h t k m (record k { signals = g }) m [] (Ok 0)) (sym (cond-false (waits_in_vain u (with_posted h u sig)) (broken h t u sig) (unbroken h t u sig) not_vain))
    (answered_changed h t k (record k { signals = g }) m m [] [] (Ok 0) (with_posted h u sig)
    (holds_signals told g (posted u sig h.kernel.signals) (signals ∙ ap (posted u sig) told.signals)) refl refl refl (entered_none m) refl refl)

pub answered_broken : (h : Here) (t u sig : ℕ) (k : Kernel) (table : Table) (g : Signalling) (sc : Scheduling) (m : Map)
    → HoldsTables k h.kernel → AreTables k → waits k.threads.threads u → table.threads ≡ with_woken u k.threads.threads
    → table.saved ≡ with_answer u interrupted k.threads.saved → g ≡ posted u sig k.signals → sc ≡ with_ready u k.ready
    → waits_in_vain u (with_posted h u sig) ≡ true
    → IsAnswered h t k m (record k { threads = table; signals = g; ready = sc }) m [] (Ok 0) (post h t u sig)
answered_broken h t u sig k table g sc m told tables waiting threads saved signals ready vain =
    let k' : Kernel = record k { threads = table; signals = g; ready = sc } in
    subst (IsAnswered h t k m k' m [] (Ok 0)) (sym (cond-true (waits_in_vain u (with_posted h u sig)) (broken h t u sig) (unbroken h t u sig) vain))
    (answered_with h t k k' m m [] [] (Ok 0) (woken u (with_posted h u sig)) (broken_wait h u ∷ [])
    (holds_woken (holds_signals told g (posted u sig h.kernel.signals) (signals ∙ ap (posted u sig) told.signals)) u table sc threads ready) refl refl
    (ap (λ (ts : Threads). running_on h.hart (with_woken u ts)) (sym told.threads) ∙ woken_same tables.0 u k.threads.threads k.ready tables.1 waiting h.hart
    ∙ ap (running_on h.hart) told.threads) (entered_none m) refl
    (kept_answered interrupted u h.file (λ v. file_among (broken_wait h u ∷ []) v (h.file v)) k.threads table saved
    (own_first u (answering interrupted (h.file u)) (h.file u) []) (λ v ne. rw (ne_eqb u v ne) refl)) (quiet_woken interrupted t u k.threads table saved))

-- tkill and tgkill, by their arguments
abbrev pub tkill_by : ℕ → ℕ → Here → ℕ → CallDone
tkill_by u sig h t =
    cond (is_below_one u) (refused h t EINVAL) (cond (not (is_live u h.kernel.threads)) (refused h t ESRCH) (send h t u sig))

abbrev pub tgkill_by : ℕ → ℕ → ℕ → Here → ℕ → CallDone
tgkill_by pid u sig h t =
    cond (is_below_one pid || is_below_one u) (refused h t EINVAL)
    (cond (not (eqb pid 1 && is_live u h.kernel.threads)) (refused h t ESRCH) (send h t u sig))

pub tkill_is : (h : Here) (t u sig : ℕ) → u ≡ int_argument h t 0 → sig ≡ int_argument h t 1 → tkill h t ≡ tkill_by u sig h t
tkill_is h t u sig p q = sym (ap (λ (n : ℕ). tkill_by n sig h t) p ∙ ap (λ (n : ℕ). tkill_by (int_argument h t 0) n h t) q)

pub tgkill_is : (h : Here) (t pid u sig : ℕ) → pid ≡ int_argument h t 0 → u ≡ int_argument h t 1 → sig ≡ int_argument h t 2 → tgkill h t ≡ tgkill_by pid u sig h t
tgkill_is h t pid u sig o p q =
    sym (ap (λ (n : ℕ). tgkill_by n u sig h t) o ∙ ap (λ (n : ℕ). tgkill_by (int_argument h t 0) n sig h t) p ∙ ap (λ (n : ℕ). tgkill_by (int_argument h t 0) (int_argument h t 1) n h t) q)
