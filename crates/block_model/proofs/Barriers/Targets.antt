-- The harts that a barrier is about are others than its own, and a thread ran on each of them where it was called.
use Rattle.block_model.proofs.Common.{◌≡◌, ◌≢◌, ℕ, [], ◌∷◌, sym, ◌∙◌, subst, Bool, true, false, cond, Option, Some, None, refl, Barrier, History, IsRunHistory, Setting, eqb-true, has_hart, is_of_hart, running}
use Rattle.block_model.specs.Barriers.{Begun, begun_on, begun_or}
use Rattle.block_model.proofs.Runs.{fit_at}

abbrev IsAboutOthers : Setting → ℕ → Begun → Type 0
IsAboutOthers s h b = (k : ℕ) → has_hart b.barrier.targets k ≡ true → (k ≢ h) × (running s k b.call ≢ None)

-- so it is where the barrier begins, and what is said of its call stays so
pub about_others : (s : Setting) (before : History) (h : ℕ) (b : Begun) → IsRunHistory s before → begun_on h before ≡ Some b → IsAboutOthers s h b
about_others s [] h b run is = absurd cc
about_others s (e ∷ before) h b run is = by_hart (is_of_hart h e) refl (λ older. about_others s before h b run.0 older) is
  where
    by_barrier : (barrier : Option Barrier) → e.done.barrier ≡ barrier → e.entry.hart.0 ≡ h → (begun_on h before ≡ Some b → IsAboutOthers s h b)
        → begun_or (begun_on h before) before barrier ≡ Some b → IsAboutOthers s h b
    by_barrier None its own older is = older is
    by_barrier (Some barrier) its own older is =
        let same : record { call = before; barrier = barrier } ≡ b = cc in
        let others = ((fit_at s e before run).barriers.begun barrier its).others in
        subst (IsAboutOthers s h) same (λ k has. (λ there. others.apart k has (there ∙ sym own), others.ran k has))

    by_hart : (c : Bool) → is_of_hart h e ≡ c → (begun_on h before ≡ Some b → IsAboutOthers s h b)
        → cond c (begun_or (begun_on h before) before e.done.barrier) (begun_on h before) ≡ Some b → IsAboutOthers s h b
    by_hart true own older is = by_barrier e.done.barrier refl (eqb-true e.entry.hart.0 h own) older is
    by_hart false own older is = older is
