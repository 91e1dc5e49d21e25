-- futex(2): what a wake or a requeue answers, once its threads were woken or wait at another word.
use Rattle.sys_calls.proofs.Common.{◌≡◌, ℕ, List, [], ◌∷◌, map, refl, sym, ap, subst, ◌∙◌, Ok, AreTables, CallEnd, HasPages, Here, HoldsTables, IsAnswer, IsAnswered, IsCaller, IsMade, IsOnward, IsWoken, Map, None, Saved, StandsSo, Threads, Woken, answered_wait, barrier_of, counted, false, gives_up, process_end, returned, runs, running_on}
use Rattle.sys_calls.specs.declared.kernel.Kernel.{Kernel}
use Rattle.sys_calls.proofs.CallAnswers.{answered_with, made_answered}
use Rattle.sys_calls.proofs.KernelWrites.{entered_none}

pub counted_answered : (h : Here) (t : ℕ) (k k' : Kernel) (m : Map) (done : Woken) (count : ℕ) → HoldsTables k h.kernel → IsWoken h k k' done count
    → done.kernel.pages ≡ h.kernel.pages → IsOnward k k' → IsAnswered h t k m k' m [] (Ok count) (counted h t done)
counted_answered h t k k' m done count told woken pages onward =
    let others : List (ℕ × Saved) = map (answered_wait h) done.threads in
    subst (IsAnswered h t k m k' m [] (Ok count))
    (ap (λ (n : ℕ). record (counted h t done) { files = (t, returned n (h.file t)) ∷ others }) woken.number)
    (answered_with h t k k' m m [] [] (Ok count) done.kernel others woken.tables woken.ids pages
    (ap (running_on h.hart) (sym woken.tables.threads) ∙ onward.running h.hart ∙ ap (running_on h.hart) told.threads)
    (entered_none m) refl woken.kept (onward.quiet t))

-- so the call is made
pub counted_made : (h : Here) (t here : ℕ) (k k' : Kernel) (m : Map) (saved saved' : Saved) (done : Woken) (count : ℕ) (end : CallEnd) → h.hart ≡ here
    → HoldsTables k h.kernel → HasPages h m → saved ≡ h.file t → IsCaller k here t → IsWoken h k k' done count → done.kernel.pages ≡ h.kernel.pages → IsOnward k k'
    → saved' ≡ returned count saved → gives_up end ≡ false → ((u : ℕ) (ts : Threads) → runs ts u → StandsSo end u ts) → barrier_of end ≡ None
    → process_end end ≡ None → IsAnswer end saved' → IsMade h t k m k' m saved' end (counted h t done)
counted_made h t here k k' m saved saved' done count end hart told has file caller woken pages onward =
    let tables : AreTables k' = (caller.tables.0, onward.tables caller.tables.0 caller.tables.1) in
    made_answered h t here k k' m m saved saved' [] (Ok count) end (counted h t done) hart told has file caller
    (counted_answered h t k k' m done count told woken pages onward) tables
