-- The last thread ends the process, and another one is gone.
use Rattle.sys_calls.proofs.Common.{◌≡◌, ℕ, Bool, true, false, not, ◌&&◌, cond, eqb, leb, List, [], ◌∷◌, length, refl, sym, ap, subst, ◌∙◌, le-leb, lt-leb, HasPages, Here, HoldsTables, IsEntered, IsMade, IsRead, Kernel, Map, Saved, Write, can_write_in, each_byte, Threads, running_on, CallDone, are_writable, ended_with, cond-false, cond-true, clear_of, word_written, clearing, clears, is_last, last_exits, one_exits, woken_at_exit, state_of-without_same}
use Rattle.std.specs.Int.{from_bool}
use Rattle.sys_calls.specs.declared.calling.CallEnd.TheVariants as over
use Rattle.sys_calls.specs.Ended.{IsGone}
use Rattle.sys_calls.proofs.KernelWrites.{pages_kept}
use Rattle.sys_calls.proofs.GuestMemory.{writable_at}
use Rattle.sys_calls.proofs.CallerTables.{caller_lives}
use Rattle.block_model.specs.Calls.Futexes.{anyone}
use Rattle.sys_calls.proofs.FutexWakes.{requeue_pages}
use Rattle.sys_calls.proofs.ending.exit.Goals.{After-clear_word-is_cleared}
use Rattle.sys_calls.proofs.ending.exit.Goals as goal
use Rattle.sys_calls.proofs.CallAnswers.{made_ended}

-- whether the word is cleared, and its write
clears_is : (h : Here) (m : Map) (t at : ℕ) (r : Bool) (saved : Saved) → IsRead h m t saved → at ≡ clear_of t h.kernel.threads → r ≡ (not (eqb at 0) && each_byte (can_write_in m) at 4) → r ≡ clears h t
clears_is h m t at r saved read is e =
    e ∙ ap (λ (b : Bool). not (eqb at 0) && b) (writable_at h m t saved read at at 4 refl) ∙ ap (λ (a : ℕ). not (eqb a 0) && are_writable h a 4) is

-- whether the thread is the last one
last_is : (h : Here) (k : Kernel) (n : ℕ) (b : Bool) → HoldsTables k h.kernel → n ≡ length k.threads.threads.live → leb n 1 ≡ b → is_last h ≡ b
last_is h k n b told is e = ap (λ (ts : Threads). leb (length ts.live) 1) (sym told.threads) ∙ ap (λ (x : ℕ). leb x 1) (sym is) ∙ e

-- the thread is gone
made_one : (h : Here) (t here : ℕ) (k k' : Kernel) (m m' : Map) (saved : Saved) (ws : List Write) → h.hart ≡ here → saved ≡ h.file t → HasPages h m → IsEntered m m' ws → ws ≡ clearing h t
    → IsGone h k k' t (cond (clears h t) 1 0) (clear_of t h.kernel.threads) here → IsMade h t k m k' m' saved over.ThreadEnd (one_exits h t)
made_one h t here k k' m m' saved ws hart file has entered writes gone = record {
  tables = gone.tables;
  ids = gone.ids;
  kept = gone.kept;
  own = file ∙ sym gone.alone;
  pages = pages_kept h m m' (one_exits h t) (subst (IsEntered m m') writes entered) (requeue_pages (cond (clears h t) 1 0) 0 (clear_of t h.kernel.threads) 0 anyone h.kernel) has;
  code = entered.code;
  hart = ap (running_on h.hart) (sym gone.tables.threads) ∙ ap (λ n. running_on n k'.threads.threads) hart ∙ gone.idle;
  stands = state_of-without_same t (woken_at_exit h t).kernel.threads;
  barrier = refl;
  ended = refl;
  answer = tt;
}

-- as a number
abbrev how_many : Bool → ℕ
how_many b = cond b 1 0

byte_is : (b : Bool) → from_bool b ≡ how_many b
byte_is true = refl
byte_is false = refl

-- the word is the thread's, and so are the writes
word_is : (c : After-clear_word-is_cleared) (h : Here) → HoldsTables c.args.kernel.now h.kernel → c.clear_at-at.result ≡ clear_of c.args.tid.0 h.kernel.threads
word_is c h told = c.clear_at-at.ensures ∙ ap (clear_of c.args.tid.0) told.threads

writes_are : (c : After-clear_word-is_cleared) (h : Here) → HoldsTables c.args.kernel.now h.kernel → IsRead h c.args.pages.now c.args.tid.0 c.args.saved.now
    → c.clear_word-is_cleared.new.written.items ≡ clearing h c.args.tid.0
writes_are c h told read =
    c.clear_word-is_cleared.ensures.told ∙ ap (λ (b : Bool). cond b (word_written c.clear_at-at.result 0 ∷ []) [])
    (clears_is h c.args.pages.now c.args.tid.0 c.clear_at-at.result c.clear_word-is_cleared.result c.args.saved.now read (word_is c h told) c.clear_word-is_cleared.ensures.clears)
    ∙ ap (λ (a : ℕ). cond (clears h c.args.tid.0) (word_written a 0 ∷ []) []) (word_is c h told)

pub clear_at-at-requires : goal.clear_at-at-requires
clear_at-at-requires c = caller_lives c.args.kernel.now c.args.here.0 c.args.tid.0 c.requires.caller

pub returns-then-live-le1-clause-told : goal.returns-then-live-le1-clause-told
returns-then-live-le1-clause-told c = λ h told read.
    let last = last_is h c.args.kernel.now c.live.result true told c.live.ensures.count (le-leb c.live.result 1 c.if-live-le1.true) in
    writes_are (goal.at.returns-then-live-le1-clause-told c).After-clear_word-is_cleared h told read
    ∙ sym (ap (λ (d : CallDone). d.entered) (cond-true (is_last h) (last_exits h c.args.tid.0) (one_exits h c.args.tid.0) last))

pub returns-then-live-le1-clause-made : goal.returns-then-live-le1-clause-made
returns-then-live-le1-clause-made c = λ h hart told has read.
    let t = c.args.tid.0 in
    let k = c.args.kernel.now in
    let m' = c.clear_word-is_cleared.new.pages in
    let writes = writes_are (goal.at.returns-then-live-le1-clause-made c).After-clear_word-is_cleared h told read in
    let last = last_is h k c.live.result true told c.live.ensures.count (le-leb c.live.result 1 c.if-live-le1.true) in
    subst (IsMade h t k c.args.pages.now k m' c.args.saved.now (over.ProcessEnd c.end_of.result)) (sym (cond-true (is_last h) (last_exits h t) (one_exits h t) last))
    (made_ended h t c.args.here.0 k c.args.pages.now m' c.args.saved.now c.clear_word-is_cleared.new.written.items (clearing h t) c.end_of.result (ended_with h t)
    hart told read.file c.requires.caller has c.clear_word-is_cleared.ensures.entered writes (c.end_of.ensures h t read.file))

pub returns-clause-told : goal.returns-clause-told
returns-clause-told c = λ h told read.
    let last = last_is h c.args.kernel.now c.live.result false told c.live.ensures.count (lt-leb c.live.result 1 c.if-live-le1.false) in
    writes_are (goal.at.returns-clause-told c).After-clear_word-is_cleared h told read
    ∙ sym (ap (λ (d : CallDone). d.entered) (cond-false (is_last h) (last_exits h c.args.tid.0) (one_exits h c.args.tid.0) last))

pub returns-clause-made : goal.returns-clause-made
returns-clause-made c = λ h hart told has read.
    let t = c.args.tid.0 in
    let k = c.args.kernel.now in
    let m' = c.clear_word-is_cleared.new.pages in
    let is = (goal.at.returns-clause-made c).After-clear_word-is_cleared in
    let at = word_is is h told in
    let clear = clears_is h c.args.pages.now t c.clear_at-at.result c.clear_word-is_cleared.result c.args.saved.now read at c.clear_word-is_cleared.ensures.clears in
    let last = last_is h k c.live.result false told c.live.ensures.count (lt-leb c.live.result 1 c.if-live-le1.false) in
    let most : c.from.result ≡ cond (clears h t) 1 0 = c.from.ensures ∙ byte_is c.clear_word-is_cleared.result ∙ ap (λ (b : Bool). how_many b) clear in
    let gone = subst (λ (x : ℕ × ℕ). IsGone h k c.go.new.kernel t x.0 x.1 c.args.here.0) (λ i. (most i, at i)) (c.go.ensures.gone h told) in
    subst (IsMade h t k c.args.pages.now c.go.new.kernel m' c.args.saved.now over.ThreadEnd) (sym (cond-false (is_last h) (last_exits h t) (one_exits h t) last))
    (made_one h t c.args.here.0 k c.go.new.kernel c.args.pages.now m' c.args.saved.now c.clear_word-is_cleared.new.written.items
    hart read.file has c.clear_word-is_cleared.ensures.entered (writes_are is h told read) gone)
