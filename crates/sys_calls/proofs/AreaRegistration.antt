-- rseq(2): what the call comes to, case by case.
use Rattle.sys_calls.proofs.Common.{◌≡◌, ℕ, Bool, true, false, Some, ap, are_words_writable, words_on, words_unregistered, words_written, Area, EFAULT, Here, IsRead, Map, Saved, can_write_in, is_writable, id_of, CallDone, refused, said, killed_in_call, unregisters, cond-false, cond-true, registered, unregistered, registers}

-- whether the words of an area can be written, as a rule reads it
pub words_can : (h : Here) (m : Map) (t : ℕ) (saved : Saved) → IsRead h m t saved → (area : Area) → are_words_writable (can_write_in m) area ≡ are_words_writable (is_writable h) area
words_can h m t saved read area = ap (λ (test : ℕ → Bool). are_words_writable test area) read.writable

-- an area is registered, or the process is killed
abbrev pub registered_done : Here → ℕ → Area → CallDone
registered_done h t area = record (said h t 0) { entered = words_written area (words_on h.hart (id_of t h.kernel.ids)); kernel = registered t area h.kernel }

pub registers_made : (h : Here) (t : ℕ) (area : Area) → are_words_writable (is_writable h) area ≡ true → registers h t area ≡ registered_done h t area
registers_made h t area can = cond-true (are_words_writable (is_writable h) area) (registered_done h t area) (killed_in_call h) can

pub registers_killed : (h : Here) (t : ℕ) (area : Area) → are_words_writable (is_writable h) area ≡ false → registers h t area ≡ killed_in_call h
registers_killed h t area cannot = cond-false (are_words_writable (is_writable h) area) (registered_done h t area) (killed_in_call h) cannot

-- an area is unregistered, or the call is refused
abbrev pub unregistered_done : Here → ℕ → Area → CallDone
unregistered_done h t area = record (said h t 0) { entered = words_written area words_unregistered; kernel = unregistered t h.kernel }

pub unregisters_made : (h : Here) (t : ℕ) (area : Area) → are_words_writable (is_writable h) area ≡ true → unregisters h t (Some area) ≡ unregistered_done h t area
unregisters_made h t area can = cond-true (are_words_writable (is_writable h) area) (unregistered_done h t area) (refused h t EFAULT) can

pub unregisters_refused : (h : Here) (t : ℕ) (area : Area) → are_words_writable (is_writable h) area ≡ false → unregisters h t (Some area) ≡ refused h t EFAULT
unregisters_refused h t area cannot = cond-false (are_words_writable (is_writable h) area) (unregistered_done h t area) (refused h t EFAULT) cannot
