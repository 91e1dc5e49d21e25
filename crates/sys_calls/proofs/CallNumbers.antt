-- The calls by their numbers, and which of them write nothing.
use Rattle.sys_calls.proofs.Common.{◌≡◌, ◌≢◌, inl, inr, ℕ, Bool, true, false, cond, List, [], Option, Some, None, refl, sym, ap, ◌∙◌, ◌∷◌, Result, subst, CallDone, CallEnd, Errno, Errors, Here, IsAnswered, IsMade, Kernel, Map, Saved, Write, argument, int_argument, memory, refused, register, said, unless, call_of, called, call_number, moved_off, sched_setaffinity, futex, futex_requeue, futex_wait, futex_wake, is_wait, is_wake, requeue_errors, resumed, waited, frame_read, set_given, setaffinity_errors, operation, futex_errors, wait_errors, rt_sigreturn, IsOwnCall}
use Rattle.block_model.specs.Beside.{Neighbour}

-- the call that the number names
pub numbered : (h : Here) (t n i : ℕ) (saved : Saved) → saved ≡ h.file t → n ≡ register saved.file 17 → n ≡ i → called h t ≡ call_of i h t
numbered h t n i saved file is e = ap (λ (x : ℕ). call_of x h t) (sym (ap (λ (f : Saved). register f.file 17) file) ∙ sym is ∙ e)

-- what it came to, and what it wrote
pub made_numbered : {h : Here} {t : ℕ} {k k' : Kernel} {m m' : Map} {saved saved' : Saved} {end : CallEnd} {n i : ℕ}
    → saved ≡ h.file t → n ≡ register saved.file 17 → n ≡ i → IsMade h t k m k' m' saved' end (call_of i h t) → IsMade h t k m k' m' saved' end (called h t)
made_numbered {h = h} {t = t} {k = k} {k' = k'} {m = m} {m' = m'} {saved = saved} {saved' = saved'} {end = end} {n = n} {i = i} file is e made =
    subst (IsMade h t k m k' m' saved' end) (sym (numbered h t n i saved file is e)) made

pub told_numbered : (h : Here) (t : ℕ) {saved : Saved} {ws : List Write} {n i : ℕ}
    → saved ≡ h.file t → n ≡ register saved.file 17 → n ≡ i → ws ≡ (call_of i h t).entered → ws ≡ (called h t).entered
told_numbered h t {saved = saved} {n = n} {i = i} file is e told =
    told ∙ ap (λ (d : CallDone). d.entered) (sym (numbered h t n i saved file is e))

-- a call that another process would change is of a process that is alone
pub alone_by : (h : Here) (t : ℕ) {n i : ℕ} {saved : Saved} → saved ≡ h.file t → n ≡ register saved.file 17 → n ≡ i → IsOwnCall h t
    → ((call_number h t ≢ 283) × (call_number h t ≢ 293) → call_number h t ≡ i → ⊥) → h.beside ≡ None
alone_by h t file is e (inl alone) other = alone
alone_by h t file is e (inr numbers) other =
    absurd (other numbers (sym (ap (λ (f : Saved). register f.file 17) file) ∙ sym is ∙ e))

pub made_alone : {h : Here} {t : ℕ} {k k' : Kernel} {m m' : Map} {saved' : Saved} {end : CallEnd} (call : Option Neighbour → CallDone) → h.beside ≡ None
    → IsMade h t k m k' m' saved' end (call None) → IsMade h t k m k' m' saved' end (call h.beside)
made_alone {h = h} {t = t} {k = k} {k' = k'} {m = m} {m' = m'} {saved' = saved'} {end = end} call alone made =
    subst (λ (o : Option Neighbour). IsMade h t k m k' m' saved' end (call o)) (sym alone) made

-- what it came to, where the number is this one; and where it wrote nothing
pub by_number : {h : Here} {t : ℕ} {k k' : Kernel} {m m' : Map} {ws : List Write} {answer : Result ℕ Errno} {n i : ℕ} → n ≡ i
    → IsAnswered h t k m k' m' ws answer (call_of i h t) → IsAnswered h t k m k' m' ws answer (call_of n h t)
by_number {h = h} {t = t} {k = k} {k' = k'} {m = m} {m' = m'} {ws = ws} {answer = answer} is done =
    subst (λ (n : ℕ). IsAnswered h t k m k' m' ws answer (call_of n h t)) (sym is) done

pub silent_by_number : {h : Here} {t : ℕ} {k k' : Kernel} {m m' : Map} {ws : List Write} {answer : Result ℕ Errno} {n i : ℕ} → ws ≡ [] → n ≡ i
    → IsAnswered h t k m k' m' [] answer (call_of i h t) → IsAnswered h t k m k' m' ws answer (call_of n h t)
silent_by_number {h = h} {t = t} {k = k} {k' = k'} {m = m} {m' = m'} {answer = answer} {n = n} none is done =
    subst (λ (ws : List Write). IsAnswered h t k m k' m' ws answer (call_of n h t)) (sym none) (by_number is done)

-- calls that write nothing: each refusal writes nothing
silent_unless : (h : Here) (t : ℕ) (errors : Errors) (done : CallDone) → done.entered ≡ [] → (unless h t errors done).entered ≡ []
silent_unless h t [] done none = none
silent_unless h t (e ∷ errors) done none =
    elim e.0 as (λ b. (cond b (refused h t e.1) (unless h t errors done)).entered ≡ []) [ true ↦ refl | false ↦ silent_unless h t errors done none ]

either_silent : (b : Bool) (x y : CallDone) → x.entered ≡ [] → y.entered ≡ [] → (cond b x y).entered ≡ []
either_silent true x y p q = p
either_silent false x y p q = q

silent_wait : (h : Here) (t : ℕ) → (futex_wait h t).entered ≡ []
silent_wait h t = silent_unless h t (wait_errors h t) (record (said h t 0) { kernel = waited t (argument h t 0) h.kernel }) refl

pub silent_futex : (h : Here) (t : ℕ) → (futex h t).entered ≡ []
silent_futex h t =
    let op = operation (int_argument h t 1) in
    silent_unless h t (futex_errors h t) _
    (either_silent (is_wait op) (futex_wait h t) _ (silent_wait h t)
    (either_silent (is_wake op) (futex_wake h t) (futex_requeue h t) refl (silent_unless h t (requeue_errors h t) _ refl)))

silent_resumed : (h : Here) (t : ℕ) (words : Option (List ℕ)) → (resumed h t words).entered ≡ []
silent_resumed h t None = refl
silent_resumed h t (Some words) = refl

pub silent_sigreturn : (h : Here) (t : ℕ) → (rt_sigreturn h t).entered ≡ []
silent_sigreturn h t = silent_resumed h t (frame_read (memory h) (h.file t))

pub silent_setaffinity : (h : Here) (t : ℕ) → (sched_setaffinity h t).entered ≡ []
silent_setaffinity h t =
    silent_unless h t (setaffinity_errors h t) (record (said h t 0) { kernel = moved_off h t (set_given h t) }) refl
