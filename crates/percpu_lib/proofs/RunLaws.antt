-- What a block's course says of block runs, for the laws of each block and of all of them.
use Rattle.std.proofs.Common.{◌≡◌, ◌≢◌, ℕ, ◌+◌, ◌*◌, [], ◌∷◌, ◌++◌, List, ap, ◌∙◌, subst, true, false, Some}
use Rattle.mach_types.specs.Registers.{register}
use Rattle.mach_types.specs.declared.events.Entry.{Entry}
use Rattle.mach_types.specs.declared.events.Kind.TheVariants as kinds
use Rattle.mach_types.specs.declared.sequences.Area.{Area}
use Rattle.block_model.specs.Acts.{Sequence, end_before, end_so_far, sequence_on}
use Rattle.block_model.specs.Deciding.{event, history}
use Rattle.block_model.specs.History.{Event, History, file, running}
use Rattle.block_model.specs.Run.{IsBlockRun, IsRunHistory}
use Rattle.block_model.specs.Setting.{Setting}
use Rattle.block_model.proofs.Laws.{history-append, run_before}
use Rattle.alone_laws.specs.Blocks.{IsPlaceOf}
use Rattle.alone_laws.specs.Entering.{IsIn}
use Rattle.alone_laws.specs.Uses.{in_block}
use Rattle.percpu_lib.specs.Forms.{Form, HoldsBlock, IsLeftFrom, block_of, committed, placed_of, range_of}
use Rattle.percpu_lib.proofs.BlockCode.{IsFormed}
use Rattle.percpu_lib.proofs.BlockRegisters.{registers_kept}
use Rattle.percpu_lib.proofs.Courses.{HasCourse}
use Rattle.percpu_lib.proofs.UsesLaw.{ends_before, left_at_end, once}

-- a sequence is whole, or not
pub whole_in : {form : Form} → HasCourse form
    → (s : Setting) (log : List Entry) (at : ℕ) (area : Area) (h : ℕ)
    (q : Sequence) → IsBlockRun s log → HoldsBlock s (history s log) form at area q.thread
    → sequence_on s h (history s log) ≡ Some q → IsIn s (range_of form at) q.thread q.begun
    → (file s q.thread q.reached).pc ≡ at + 4 * committed form → form.Whole s h q.thread q.begun q.reached
whole_in law s log at area h q run held is inside =
    (once s (history s log) _ at area law h q run.allowed run.whole held is inside).0

pub partial_in : {form : Form} → HasCourse form
    → (s : Setting) (log : List Entry) (at : ℕ) (area : Area) (h : ℕ)
    (q : Sequence) → IsBlockRun s log → HoldsBlock s (history s log) form at area q.thread
    → sequence_on s h (history s log) ≡ Some q → IsIn s (range_of form at) q.thread q.begun
    → (file s q.thread q.reached).pc ≢ at + 4 * committed form → form.Partial s h q.thread q.begun q.reached
partial_in law s log at area h q run held is inside =
    (once s (history s log) _ at area law h q run.allowed run.whole held is inside).1

-- how it ends where an event of its hart comes behind it, and where none does
pub left_next : {form : Form} → HasCourse form → (s : Setting) (log : List Entry) (entry : Entry) (at : ℕ)
    (area : Area) (h : ℕ) (q : Sequence) → IsBlockRun s (log ++ entry ∷ [])
    → HoldsBlock s (history s (log ++ entry ∷ [])) form at area q.thread → entry.hart.0 ≡ h
    → sequence_on s h (history s log) ≡ Some q → IsIn s (range_of form at) q.thread q.begun
    → IsLeftFrom (at + 4 * committed form) at (file s q.thread q.reached).pc
    (end_before s q (event s (history s log) entry) (history s log))
left_next {form} law s log entry at area h q run held own is inside =
    let before = history s log in
    let e : Event = event s before entry in
    let earlier = run_before s log (entry ∷ []) run in
    let there =
    subst (λ (x : History). HoldsBlock s x form at area q.thread) (history-append s log entry) held in
    ends_before s e before form at area law h q earlier.allowed earlier.whole there is inside

pub left_last : {form : Form} → HasCourse form
    → (s : Setting) (log : List Entry) (at : ℕ) (area : Area) (h : ℕ)
    (q : Sequence) → IsBlockRun s log → HoldsBlock s (history s log) form at area q.thread
    → sequence_on s h (history s log) ≡ Some q → IsIn s (range_of form at) q.thread q.begun
    → IsPlaceOf s (block_of s form at area h q.thread q.begun) h q.thread (history s log)
    → IsLeftFrom (at + 4 * committed form) at (file s q.thread q.reached).pc (end_so_far s q (history s log))
left_last law s log at area h q run held is inside stands =
    left_at_end s (history s log) _ at area law h q run.allowed run.whole held is inside stands

-- an instruction of it changes no register but those that it may change
pub registers_in : {form : Form} → IsFormed form → (s : Setting) (log : List Entry) (entry : Entry) (at : ℕ)
    (area : Area) (t r : ℕ) → IsBlockRun s (log ++ entry ∷ [])
    → HoldsBlock s (history s (log ++ entry ∷ [])) form at area t → entry.kind ≡ kinds.Exec
    → running s entry.hart.0 (history s log) ≡ Some t
    → in_block (placed_of form at area) (file s t (history s log)).pc ≡ true → form.may r ≡ false
    → register (file s t (history s (log ++ entry ∷ []))).file r ≡ register (file s t (history s log)).file r
registers_in {form} formed s log entry at area t r run holds exec runs inside kept =
    let before = history s log in
    let e : Event = event s before entry in
    let more = history-append s log entry in
    ap (λ (x : History). register (file s t x).file r) more
    ∙ registers_kept s form at area t formed e before (subst (IsRunHistory s) more run.allowed)
    (subst (λ (x : History). HoldsBlock s x form at area t) more holds) exec runs inside r kept
