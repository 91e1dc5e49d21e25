-- What is kept of the threads after an event.
use Rattle.process.proofs.Common.{◌≡◌, ◌≢◌, ℕ, [], ◌∷◌, sym, ap, ◌∙◌, Some, None, inl, inr, cases_eq, AreSaved, Hart, Running, Saved, file_among, state_of, Table, IsTable, saved_of, with_saved, is_kept, running_saves_nothing, saved_of_others, emptied}
use Rattle.sys_calls.proofs.CallAnswers.{kept_own}

-- what is kept depends on no file of a thread of which nothing is kept
pub saved_but_one : (f g : ℕ → Saved) (t : ℕ) (table : Table) → saved_of t table.saved ≡ None → ((u : ℕ) → u ≢ t → g u ≡ f u) → AreSaved f table → AreSaved g table
saved_but_one f g t table none same saved u x at = elim (cases_eq u t) [
  | inl e ↦ let bad : None ≡ Some x = sym (ap (λ n. saved_of n table.saved) e ∙ none) ∙ at in absurd cc
  | inr ne ↦ saved u x at ∙ sym (same u ne)
]

-- an instruction sets the file of a thread that runs, of which nothing is kept
pub saved_plain : (f : ℕ → Saved) (t : ℕ) (y : Saved) (h : Hart) (table : Table) → IsTable table → state_of t table.threads ≡ Some (Running h) → AreSaved f table → AreSaved (λ u. file_among ((t, y) ∷ []) u (f u)) table
saved_plain f t y h table holds runs saved = kept_own t y f [] table (running_saves_nothing t h table holds runs) saved

-- a thread that leaves is kept with its file
pub saved_left : (f : ℕ → Saved) (t : ℕ) (y : Saved) (old new : Table) → new.saved ≡ with_saved t (Some y) old.saved → y ≡ f t → AreSaved f old → AreSaved f new
saved_left f t y old new is own saved u x at = elim (cases_eq u t) [
  | inl same ↦ rw same (is_kept t y x old.saved (ap (saved_of t) (sym is) ∙ ap (λ n. saved_of n new.saved) (sym same) ∙ at) ∙ own)
  | inr ne ↦ saved u x (sym (saved_of_others t u ne (Some y) old.saved) ∙ ap (saved_of u) (sym is) ∙ at)
]

-- nothing is kept of a thread that begins to run
pub none_kept : (t : ℕ) (old new : Table) → new.saved ≡ with_saved t None old.saved → saved_of t new.saved ≡ None
none_kept t old new is = ap (saved_of t) is ∙ emptied t old.saved

pub saved_ran : (f : ℕ → Saved) (t : ℕ) (old new : Table) → new.saved ≡ with_saved t None old.saved → AreSaved f old → AreSaved f new
saved_ran f t old new is saved u x at = elim (cases_eq u t) [
  | inl same ↦ let bad : None ≡ Some x = sym (ap (λ n. saved_of n new.saved) same ∙ none_kept t old new is) ∙ at in absurd cc
  | inr ne ↦ saved u x (sym (saved_of_others t u ne None old.saved) ∙ ap (saved_of u) (sym is) ∙ at)
]
