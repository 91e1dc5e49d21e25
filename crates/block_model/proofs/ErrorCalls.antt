-- Each call of the table is refused, or gives no error at its own entry; and an event of a block run that gives an error changes nothing
-- else.
use Rattle.block_model.proofs.Common.{◌≡◌, ◌≢◌, refl, ℕ, ◌<◌, ◌≤◌, ◌^◌, ◌⊎◌, inl, inr, List, [], ◌∷◌, length, map, set, get_or, sym, ap, ◌∙◌, subst, true, false, cond, Option, Some, None, is_some, arith, zero, suc, ◌-◌, ◌++◌, Bool, CallDone, Choice, Done, Entry, GivesError, Here, History, IsAllowedLog, IsError, IsRunHistory, Kernel, Killed, SIGSEGV, Saved, Setting, Thread, Write, answered_wait, broken_wait, by_call, by_effect, byte, call_number, called, called_here, child_file, choice_of, done, done_exec_by, done_of, eqb_same, event, false≢true, fault_by, fetched, file, file_among, filtered_same, fold, gone, here_in_history, history, is_inside_here, is_live, is_writable, kernel, killed_in_call, memory, ne_eqb, negative, next_number, number_of, refusal_exec, refusal_exec_by, refusal_of, register, requeue, returned, runs, said, signalled, sum_64, thread_in, wake, with_new_child, woken, woken_at_exit, written}
use Rattle.block_model.specs.ErrorCalls.{GivesErrorAlone, IsCall, up_to}
use Rattle.block_model.proofs.CallEffects.{Answers, AreFew, Bears, Begins, Breaks, CallDeed, Ends, Exits, Resumes, Says, Wakes, small_no_error}
use Rattle.block_model.proofs.CallEffects.EachCall.{deed_called}
use Rattle.block_model.proofs.Invariants.Calls.Futexes.{requeue_few}
use Rattle.mach_types.specs.declared.events.Choice.TheVariants as asked
use Rattle.block_model.proofs.Runs.{IsAllowed, allowed_at, run_before, settled}
use Rattle.block_model.proofs.Entries.{given_below, thread_given}
use Rattle.block_model.proofs.Replay.{history-more}

-- a call is refused with an error number
pub record IsRefusal (here : Here) (t : ℕ) (c : CallDone) : Type 0 where
  pub errno : ℕ
  pub least : 1 ≤ errno
  pub most : errno ≤ 4095
  pub is : c ≡ said here t (negative errno)

-- the file of the call's thread after it
abbrev own_file : Here → ℕ → CallDone → Saved
own_file here t c = file_among c.files t (here.file t)

-- a call that gives an error is refused
abbrev pub TellsErrors : Here → ℕ → CallDone → Type 0
TellsErrors here t c =
    c.ended ≡ None → is_live t c.kernel.threads ≡ true → IsError (register (own_file here t c).file 10)
    → IsRefusal here t c

-- what is put into a list is found there, or nothing is
put_or_none : (xs : List ℕ) (i v : ℕ) → (get_or (set xs i v) i 0 ≡ v) ⊎ (get_or (set xs i v) i 0 ≡ 0)
put_or_none [] i v = inr refl
put_or_none (x ∷ xs) zero v = inl refl
put_or_none (x ∷ xs) (suc i) v = put_or_none xs i v

own_first : (t : ℕ) (x f : Saved) (rest : List (ℕ × Saved)) → file_among ((t, x) ∷ rest) t f ≡ x
own_first t x f rest = ap (λ b. cond b x (file_among rest t f)) (eqb_same t)

-- the thread is gone
not_gone : (t : ℕ) (k : Kernel) → is_live t (gone t k).threads ≡ false
not_gone t k =
    ap (λ (o : Option Thread). is_some o) (filtered_same (λ (th : Thread). th.tid) t k.threads.live)

module _ (here : Here) (t : ℕ) where
  -- what is told of a0 where an answer was put there: it is the answer
  told : (n : ℕ) (rest : List (ℕ × Saved)) → (e : IsError (register (file_among ((t, returned n (here.file t)) ∷ rest) t (here.file t)).file 10))
      → n ≡ negative e.errno
  told n rest e =
      let there = ap (λ (f : Saved). register f.file 10) (own_first t (returned n (here.file t)) (here.file t) rest) in
      elim (put_or_none (here.file t).file.x 10 n) [
        | inl same ↦ sym same ∙ sym there ∙ e.is
        | inr none ↦
            let is = e.is in
            let most = e.most in
            absurd (omega (arith, there, none))
      ]

  -- an answer that is no error
  tells_answer : (n : ℕ) (rest : List (ℕ × Saved)) (entered : List Write) (k : Kernel) → (IsError n → ⊥)
      → TellsErrors here t (record { files = (t, returned n (here.file t)) ∷ rest; entered = entered; kernel = k; barrier = None; ended = None })
  tells_answer n rest entered k no_error goes lives e =
      absurd (no_error (record { errno = e.errno; least = e.least; most = e.most; is = told n rest e }))

  tells_deed : (number : ℕ) → number ≢ 139 → AreFew here t → {c : CallDone} → CallDeed here t number c → TellsErrors here t c
  tells_deed number other few (Says n) =
      λ goes lives e. record { errno = e.errno; least = e.least; most = e.most; is = ap (said here t) (told n [] e) }
  tells_deed number other few (Answers n entered k no_error writes step) = tells_answer n [] entered k (no_error few)
  tells_deed number other few (Wakes n more at to listens small) =
      let done = requeue n more at to listens here.kernel in
      let most = requeue_few n more at to listens here.kernel in
      tells_answer (length done.threads) (map (answered_wait here) done.threads) [] done.kernel (small_no_error (length done.threads) (omega arith))
  tells_deed number other few (Breaks u g waiting keeps stand heeds calm) =
      tells_answer 0 (broken_wait here u ∷ []) [] (woken u (signalled g here.kernel)) (small_no_error 0 (omega arith))
  tells_deed number other few (Exits more) = λ goes lives e. absurd (false≢true (sym (not_gone t (woken_at_exit here t).kernel) ∙ lives))
  tells_deed number other few (Bears entered writes free its_number) =
      let child = next_number here.kernel in
      let given = few.few in
      tells_answer child ((child, child_file here t) ∷ []) entered (with_new_child here t) (small_no_error child (omega arith))
  tells_deed number other few (Begins targets restart others no_error its_number) =
      λ goes lives e.
      let x : Saved = record (here.file t) { pc = sum_64 (here.file t).pc 4 } in
      absurd (no_error (subst IsError (ap (λ (f : Saved). register f.file 10) (own_first t x (here.file t) [])) e))
  tells_deed number other few (Resumes words is its) = absurd (other its)
  tells_deed number other few (Ends entered e writes over) = λ goes lives error. let no : None ≡ Some e = sym goes in absurd cc

-- where few numbers were given, also to its thread
pub tells_errors : (here : Here) (t : ℕ) → t < 2 ^ 32 → here.kernel.threads.given < 2 ^ 31 → call_number here t ≢ 139 → TellsErrors here t (called here t)
tells_errors here t low few other = tells_deed here t (call_number here t) other (record { low = low; few = few }) (deed_called here t)

-- the thread of an exec that is allowed runs
exec_runs : (here : Here) (r : Option ℕ) → refusal_exec_by here r ≡ None → r ≡ Some (number_of r)
exec_runs here None free = absurd cc
exec_runs here (Some t) free = refl

allowed_runs : (here : Here) (c : Choice) (made : ℕ) (over : _) (entry : Entry)
    → IsAllowed made over c here entry → c ≡ asked.Exec → runs here ≡ Some entry.tid.0
allowed_runs here c made over entry allowed is =
    let free : refusal_exec here ≡ None = subst (λ c. refusal_of c here ≡ None) is allowed.free in
    let number : entry.tid.0 ≡ number_of (runs here) =
    ap (λ (e : Entry). e.tid.0) allowed.is ∙ ap (λ c. number_of (thread_in c here)) is in
    exec_runs here (runs here) free ∙ ap Some (sym number)

-- where an entry comes, and the call of its thread there
abbrev place : Setting → History → Entry → Here
place s before entry = here_in_history s before entry.hart.0

abbrev call_at : Setting → History → Entry → CallDone
call_at s before entry = called (place s before entry) entry.tid.0

-- a call of its thread that answers with a value, and does nothing else
abbrev answer_at : Setting → History → Entry → ℕ → CallDone
answer_at s before entry value = said (place s before entry) entry.tid.0 value

-- what a call does, which isn't inside a sequence where the process goes on
called_done : (s : Setting) (before : History) (entry : Entry) → IsCall (place s before entry) entry
    → runs (place s before entry) ≡ Some entry.tid.0
    → done s before entry ≡ by_call (place s before entry) (called_here (place s before entry) entry.tid.0)
unfolding done
called_done s before entry call at =
    let here = place s before entry in
    let t = entry.tid.0 in
    let pc = (here.file t).pc in
    let word = fetched here.setting.program.pages pc in
    ap (λ c. done_of c here) call.executes ∙ ap (λ r. done_exec_by here r) at
    ∙ ap (λ e. by_effect here t (fault_by (memory here) (is_writable here) pc word e) e) call.calls

outside : (here : Here) (t : ℕ) (b : Bool) (d : Done) → d ≡ by_call here (cond b (killed_in_call here) (called here t)) → d.ended ≡ None
    → d ≡ by_call here (called here t)
outside here t true d is goes =
    let bad : None ≡ Some (Killed SIGSEGV) = sym goes ∙ ap (λ (x : Done). x.ended) is in
    absurd cc
outside here t false d is goes = is

-- a run up to an entry of its log
pub run_to : (s : Setting) (earlier later : List Entry) (entry : Entry)
    → IsAllowedLog s (earlier ++ entry ∷ later) → IsRunHistory s (up_to s (history s earlier) entry)
run_to s earlier later entry run =
    let more : IsRunHistory s (fold (λ b e. event s b e ∷ b) (history s earlier) (entry ∷ later)) =
    subst (IsRunHistory s) (history-more s earlier (entry ∷ later)) run in
    run_before s later (up_to s (history s earlier) entry) more

-- an event that did what a refusal does
module _ (s : Setting) (before : History) (entry : Entry) (value : ℕ)
    (is : done s before entry ≡ by_call (place s before entry) (answer_at s before entry value))
  where
    own_after : file s entry.tid.0 (up_to s before entry) ≡ returned value (file s entry.tid.0 before)
    own_after =
        let t = entry.tid.0 in
        let old = file s t before in
        ap (λ (d : Done). file_among d.files t old) is
        ∙ ap (λ b. cond b (returned value old) old) (eqb_same t)

    others_after : (t : ℕ) → t ≢ entry.tid.0 → file s t (up_to s before entry) ≡ file s t before
    others_after t other =
        let old = file s t before in
        let new = returned value (file s entry.tid.0 before) in
        ap (λ (d : Done). file_among d.files t old) is
        ∙ ap (λ b. cond b new old) (ne_eqb entry.tid.0 t (λ e. other (sym e)))

    memory_after : (a : ℕ) → byte s (up_to s before entry) a ≡ byte s before a
    memory_after a = ap (λ (d : Done). written d.entered a (byte s before a)) is

    record_after : kernel s (up_to s before entry) ≡ kernel s before
    record_after = ap (λ (d : Done). d.kernel) is

-- a call that gives an error was refused: its thread's number and the numbers given are small
few_given : (s : Setting) (before : History) (entry : Entry) → s.limits.steps < 2 ^ 31 - 1
    → IsRunHistory s (up_to s before entry)
    → (entry.tid.0 < 2 ^ 32) × ((kernel s before).threads.given < 2 ^ 31)
few_given s before entry short run =
    let here = place s before entry in
    let a = allowed_at s before entry.hart.0 (choice_of entry) entry run.1 in
    let room = a.room in
    let few = given_below s before run.0 in
    let number = ap (λ (e : Entry). e.tid.0) a.is in
    let low = thread_given s here (choice_of entry) (settled s before run.0).good.kernel a.free in
    (omega arith, omega arith)

refusal_of_error : (s : Setting) (before : History) (entry : Entry) → s.limits.steps < 2 ^ 31 - 1
    → IsRunHistory s (up_to s before entry) → GivesError s before entry
    → done s before entry ≡ by_call (place s before entry) (call_at s before entry)
    → IsRefusal (place s before entry) entry.tid.0 (call_at s before entry)
refusal_of_error s before entry short run gives did =
    let here = place s before entry in
    let t = entry.tid.0 in
    let small = few_given s before entry short run in
    let old = file s t before in
    tells_errors here t small.0 small.1 gives.answers
    (sym (ap (λ (d : Done). d.ended) did) ∙ gives.goes_on)
    (subst (λ (d : Done). is_live t d.kernel.threads ≡ true) did gives.stays)
    (subst (λ (d : Done). IsError (register (file_among d.files t old).file 10)) did gives.error)

error_alone : (s : Setting) (before : History) (entry : Entry) → s.limits.steps < 2 ^ 31 - 1
    → IsRunHistory s (up_to s before entry) → GivesError s before entry → GivesErrorAlone s before entry
error_alone s before entry short run gives =
    let here = place s before entry in
    let t = entry.tid.0 in
    let a = allowed_at s before entry.hart.0 (choice_of entry) entry run.1 in
    let at = allowed_runs here (choice_of entry) _ _ entry a gives.call.executes in
    let did = outside here t (is_inside_here here t) (done s before entry) (called_done s before entry gives.call at) gives.goes_on in
    let refusal = refusal_of_error s before entry short run gives did in
    let is = did ∙ ap (by_call here) refusal.is in
    let value = negative refusal.errno in
    record {
      value = value;
      error = record { errno = refusal.errno; least = refusal.least; most = refusal.most; is = refl };
      own = own_after s before entry value is;
      others = others_after s before entry value is;
      memory = memory_after s before entry value is;
      same_record = record_after s before entry value is;
    }

pub error_changes_nothing : (s : Setting) (earlier later : List Entry) (entry : Entry)
    → s.limits.steps < 2 ^ 31 - 1 → IsAllowedLog s (earlier ++ entry ∷ later)
    → GivesError s (history s earlier) entry → GivesErrorAlone s (history s earlier) entry
error_changes_nothing s earlier later entry short run gives =
    error_alone s (history s earlier) entry short (run_to s earlier later entry run) gives
