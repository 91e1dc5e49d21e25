-- The signals in the tables are those of the live threads, in the same order: so each live thread is held.
use Rattle.sys_calls.proofs.Common.{◌≡◌, ℕ, ◌+◌, true, false, ◌||◌, cond, eqb, List, [], ◌∷◌, length, map, Option, is_some, refl, sym, ap, ◌∙◌, list_any, length-map, next_is_new, Signalling, action_of, posted, IsThreads, Thread, Threads, is_live, IsCaller, Kernel, HoldSignals, map_stays, AreSignalsOfLive, any_live}
use Rattle.mach_types.specs.Kernel.Signals.{is_held, is_ignored, is_of, joined, only, post_if, with_pending}
use Rattle.mach_types.specs.declared.signal_words.ThreadSignals.{ThreadSignals}
use Rattle.sys_calls.proofs.CallerTables.{caller_lives}

-- the numbers of the threads that are held
abbrev pub tids : Signalling → List ℕ
tids g = map (λ th. th.tid) g.threads

-- WHO IS HELD

held_listed : (t : ℕ) (threads : List ThreadSignals) → list_any (is_of t) threads ≡ list_any (λ n. eqb n t) (map (λ th. th.tid) threads)
held_listed t [] = refl
held_listed t (th ∷ threads) = ap (λ b. eqb th.tid t || b) (held_listed t threads)

pub held_as_live : (t : ℕ) (ts : Threads) (g : Signalling) → AreSignalsOfLive ts g → is_held t g ≡ is_live t ts
held_as_live t ts g alike = held_listed t g.threads ∙ ap (λ (ns : List ℕ). list_any (λ n. eqb n t) ns) alike ∙ sym (any_live t ts.live)

pub signals_held : (t : ℕ) (k : Kernel) → HoldSignals k → is_live t k.threads.threads ≡ true → is_held t k.signals ≡ true
signals_held t k holds live = held_as_live t k.threads.threads k.signals holds ∙ live

pub caller_signalled : (k : Kernel) (here t : ℕ) → IsCaller k here t → is_held t k.signals ≡ true
caller_signalled k here t caller = signals_held t k caller.signals (caller_lives k here t caller)

-- the next number isn't, and there is room for it
pub next_not_signalled : (u : ℕ) (k : Kernel) → IsThreads k.threads.threads → HoldSignals k → u ≡ k.threads.threads.given + 1 → is_held u k.signals ≡ false
next_not_signalled u k threads holds is =
    held_as_live u k.threads.threads k.signals holds ∙ ap (λ n. is_live n k.threads.threads) is
    ∙ ap (λ (o : Option Thread). is_some o) (next_is_new k.threads.threads threads)

pub as_many_signalled : (ts : Threads) (g : Signalling) → AreSignalsOfLive ts g → length g.threads ≡ length ts.live
as_many_signalled ts g alike =
    sym (length-map g.threads (λ th. th.tid)) ∙ ap (λ (ns : List ℕ). length ns) alike ∙ length-map ts.live (λ (th : Thread). th.tid)

-- WHAT STAYS

pub tids_posted : (t s : ℕ) (g : Signalling) → tids (posted t s g) ≡ tids g
tids_posted t s g =
    let same = map_stays (λ th. th.tid) (post_if t s) (λ th. elim (is_of t th) as (λ b. (cond b (record th { pending = joined th.pending (only s) }) th).tid ≡ th.tid) [ true ↦ refl | false ↦ refl ]) g.threads in
    elim (is_ignored s (action_of s g)) as (λ b. tids (cond b g (with_pending t s g)) ≡ tids g) [ true ↦ refl | false ↦ same ]
