-- futex(2), wake and requeue: one after the other, the longest waiting first.
use Rattle.sys_calls.proofs.Common.{◌≡◌, ◌≢◌, ℕ, zero, suc, ◌+◌, ◌-◌, ◌<◌, ◌≤◌, Bool, true, false, cond, eqb, ltb, false≢true, List, [], ◌∷◌, ◌++◌, length, map, Option, Some, None, refl, sym, ap, subst, ◌∙◌, arith, append_assoc, append-nil, length-append, inl, inr, eq-eqb, ltb-false, ltb-true, ne_eqb, option_map, option_map_or, AreSaved, Here, HoldsTables, IsTables, Ready, Saved, Scheduling, Waiting, file_among, with_ready, Threads, is_live, longest_waiter, running_on, waits, with_saved, with_state, with_waiter, with_woken, Table, Thread, state_over, answering, saved_of, with_answer, woken, answered_wait, move, nobody, requeue, requeued, requeued_same, woken_same, IsOnward, IsWoken, cases_eq, set-set, numbers, same_numbers, Woken, woken_first, tables_requeued, tables_woken, requeue_by, requeue_keeps, waits_elsewhere, live_changed}
use Rattle.block_model.specs.Record.{Kernel}
use Rattle.kernel_threads.specs.Table.{IsTable, SavedList, hears_saved, saved_if}
use Rattle.mach_types.specs.Kernel.Futexes.{hears, operation}
use Rattle.mach_types.specs.Kernel.Threads.{is_waiting_at, state_of}
use Rattle.std.proofs.Common.{◌&&◌, ◌%◌, ◌^◌, bit_and, find, get_or, not, set}
use Rattle.std.specs.Option.{IsSome}
use Rattle.std.proofs.lemmas.List.{get_or-set_other}
use Rattle.mach_types.specs.declared.threads.ThreadState.{ThreadState}
use Rattle.mach_types.specs.declared.threads.ThreadState.TheVariants.{Running}
use Rattle.kernel_threads.proofs.Laws.{saved_of-answered, saved_of-with_answer_other, waiting_saves_something}
use Rattle.sys_calls.specs.declared.kernel.Kernel.{Kernel as Tables}
use Rattle.sys_calls.proofs.Laws.{held_is, holds_itself, holds_requeued, holds_woken, record_with}

-- threads before others
abbrev pub woken_before : List ℕ → Woken → Woken
woken_before us rest = record { threads = us ++ rest.threads; kernel = rest.kernel }

-- where nobody waits, nobody goes; else one more does
abbrev one_more : (ℕ → Kernel) → (Kernel → Woken) → Kernel → Option ℕ → Woken
one_more after by k o = option_map_or (λ u. woken_first u (by (after u))) o (nobody k)

pub nobody_goes : (n more at to : ℕ) (listens : ℕ → Bool) (k : Kernel) → longest_waiter at listens k.threads ≡ None → requeue n more at to listens k ≡ nobody k
nobody_goes zero zero at to listens k none = refl
nobody_goes zero (suc more) at to listens k none = ap (one_more (λ u. requeued u to k) (move more at to listens) k) none
nobody_goes (suc n) more at to listens k none = ap (one_more (λ u. woken u k) (requeue n more at to listens) k) none

-- a thread is woken, or waits at another address
abbrev pub taken : Bool → ℕ → ℕ → Kernel → Kernel
taken wakes u to k = cond wakes (woken u k) (requeued u to k)

-- which it is where so many went before it: those first in line are woken
pub next_goes : (most more count at to : ℕ) (listens : ℕ → Bool) (u : ℕ) (k : Kernel) (wakes : Bool) → ltb count most ≡ wakes → count < most + more → longest_waiter at listens k.threads ≡ Some u
    → requeue (most - count) (more - (count - most)) at to listens k ≡ woken_first u (requeue (most - (count + 1)) (more - (count + 1 - most)) at to listens (taken wakes u to k))
next_goes most more count at to listens u k true is lt longest =
    let before : count < most = ltb-true count most is in
    let left : most - count ≡ suc (most - (count + 1)) = omega arith in
    let none : count - most ≡ count + 1 - most = omega arith in
    ap (λ (n : ℕ). requeue n (more - (count - most)) at to listens k) left
    ∙ ap (one_more (λ u. woken u k) (requeue (most - (count + 1)) (more - (count - most)) at to listens) k) longest
    ∙ ap (λ (d : ℕ). woken_first u (requeue (most - (count + 1)) (more - d) at to listens (woken u k))) none
next_goes most more count at to listens u k false is lt longest =
    let behind : most ≤ count = ltb-false count most is in
    let none : most - count ≡ 0 = omega arith in
    let none_too : 0 ≡ most - (count + 1) = omega arith in
    let left : more - (count - most) ≡ suc (more - (count + 1 - most)) = omega arith in
    ap (λ (n : ℕ). requeue n (more - (count - most)) at to listens k) none ∙ ap (λ (n : ℕ). move n at to listens k) left
    ∙ ap (one_more (λ u. requeued u to k) (move (more - (count + 1 - most)) at to listens) k) longest
    ∙ ap (λ (n : ℕ). woken_first u (requeue n (more - (count + 1 - most)) at to listens (requeued u to k))) none_too

-- WHO HEARS A WAKE

-- by its registers a1 and a5
abbrev heard_by : ℕ → ℕ → ℕ → Bool
heard_by mask a1 a5 = not (eqb (bit_and (cond (eqb (operation (a1 % 2 ^ 32)) 9) (a5 % 2 ^ 32) (2 ^ 32 - 1)) mask) 0)

-- so the answer of its wait, in a0, is of no matter
hears_answered : (mask value : ℕ) (x : Saved) → hears (Some mask) (answering value x) ≡ hears (Some mask) x
hears_answered mask value x =
    let a1 : get_or (set x.file.x 10 value) 11 0 ≡ get_or x.file.x 11 0 = get_or-set_other x.file.x 10 11 value 0 (omega arith) in
    let a5 : get_or (set x.file.x 10 value) 15 0 ≡ get_or x.file.x 15 0 = get_or-set_other x.file.x 10 15 value 0 (omega arith) in
    λ i. heard_by mask (a1 i) (a5 i)

heard_among : (h : Here) (mask : ℕ) (us : List ℕ) (u : ℕ)
    → hears (Some mask) (file_among (map (answered_wait h) us) u (h.file u)) ≡ hears (Some mask) (h.file u)
heard_among h mask [] u = refl
heard_among h mask (v ∷ us) u = elim (cases_eq v u) [
  | inl same ↦
      let own : eqb v u ≡ true = eq-eqb v u same in
      ap (λ b. hears (Some mask) (cond b (answering 0 (h.file v)) (file_among (map (answered_wait h) us) u (h.file u)))) own
      ∙ hears_answered mask 0 (h.file v) ∙ ap (λ n. hears (Some mask) (h.file n)) same
  | inr other ↦
      ap (λ b. hears (Some mask) (cond b (answering 0 (h.file v)) (file_among (map (answered_wait h) us) u (h.file u)))) (ne_eqb v u other)
      ∙ heard_among h mask us u
]

-- something is saved of a thread that waits, and it is its file; so who hears by what is saved does by the file
saved_hears : (mask : ℕ) (f : Saved) (o : Option Saved) → IsSome o → ((x : Saved) → o ≡ Some x → x ≡ f)
    → option_map_or (hears (Some mask)) o false ≡ hears (Some mask) f
saved_hears mask f None some is = absurd (false≢true some)
saved_hears mask f (Some x) some is = ap (hears (Some mask)) (is x refl)

-- the thread that waits longest is the same, by what is saved and by the files at the start of the call
pub heard_same : (h : Here) (mask : Option ℕ) (us : List ℕ) (at : ℕ) (table : Table) → IsTable table
    → ((m : ℕ) → mask ≡ Some m → AreSaved (λ u. file_among (map (answered_wait h) us) u (h.file u)) table)
    → longest_waiter at (hears_saved mask table.saved) table.threads ≡ longest_waiter at (λ t. hears mask (h.file t)) table.threads
heard_same h None us at table is kept = refl
heard_same h (Some m) us at table is kept = λ i. find (λ t. same t i) table.threads.waiters
  where
    by_state : (t : ℕ) (o : Option ThreadState) → state_of t table.threads ≡ o
        → (is_waiting_at at o && hears_saved (Some m) table.saved t) ≡ (is_waiting_at at o && hears (Some m) (h.file t))
    by_state t (Some (Waiting a)) was =
        let there = saved_hears m (file_among (map (answered_wait h) us) t (h.file t)) (saved_of t table.saved)
        (waiting_saves_something t a table is was) (kept m refl t) in
        ap (λ b. eqb a at && b) (there ∙ heard_among h m us t)
    by_state t (Some Ready) was = refl
    by_state t (Some (Running hart)) was = refl
    by_state t None was = refl

    same : (t : ℕ) → (is_waiting_at at (state_of t table.threads) && hears_saved (Some m) table.saved t)
        ≡ (is_waiting_at at (state_of t table.threads) && hears (Some m) (h.file t))
    same t = by_state t (state_of t table.threads) refl

-- no wake and no requeue changes a page
pub requeue_pages : (n more at to : ℕ) (listens : ℕ → Bool) (k : Kernel) → (requeue n more at to listens k).kernel.pages ≡ k.pages
requeue_pages =
    requeue_keeps (λ a b. b.pages ≡ a.pages) (λ k. refl) (λ u k after waiting rest. rest) (λ u to k after waiting rest. rest)

-- what goes before others stands before them
pub before_next : (us : List ℕ) (u : ℕ) (rest : Woken) → woken_before us (woken_first u rest) ≡ woken_before (us ++ u ∷ []) rest
before_next us u rest = ap (λ (ts : List ℕ). record { threads = ts; kernel = rest.kernel }) (sym (append_assoc us (u ∷ []) rest.threads))

-- a thread waits, whatever it did before; and is saved with this, whatever it was saved with
pub waiter_over : (t at : ℕ) (st : ThreadState) (ts : Threads) → with_waiter t at (with_state t st ts) ≡ with_waiter t at ts
waiter_over t at st ts =
    ap (λ (live : List Thread). record { live = live; given = ts.given; waiters = ts.waiters ++ t ∷ [] }) (state_over t (Waiting at) st ts.live)

pub saved_over : (t : ℕ) (a b : Option Saved) (saved : SavedList) → with_saved t a (with_saved t b saved) ≡ with_saved t a saved
saved_over t a b [] = refl
saved_over t a b (x ∷ saved) = λ i. over_one (eqb x.0 t) refl i ∷ saved_over t a b saved i
  where
    over_one : (c : Bool) → eqb x.0 t ≡ c → saved_if t a (cond c (x.0, b) x) ≡ cond c (x.0, a) x
    over_one true is = ap (λ d. cond d (x.0, a) (x.0, b)) is
    over_one false is = ap (λ d. cond d (x.0, a) x) is

-- an answer that is given twice is the same
twice : (x : Saved) → answering 0 (answering 0 x) ≡ answering 0 x
twice x = ap (λ (r : List ℕ). record { file = record { x = r }; pc = x.pc }) (set-set x.file.x 10 0 0)

-- the file of a thread, of which one more was woken
pub after_own : (h : Here) (us : List ℕ) (u : ℕ) (f : Saved) → f ≡ h.file u
    → file_among (map (answered_wait h) (us ++ u ∷ [])) u f ≡ answering 0 (file_among (map (answered_wait h) us) u f)
after_own h [] u f is = rw (eq-eqb u u refl) (ap (answering 0) (sym is))
after_own h (v ∷ us) u f is = go (after_own h us u f is) (eqb v u)
  where
    go : file_among (map (answered_wait h) (us ++ u ∷ [])) u f ≡ answering 0 (file_among (map (answered_wait h) us) u f) → (b : Bool) → cond b (answering 0 (h.file v)) (file_among (map (answered_wait h) (us ++ u ∷ [])) u f) ≡ answering 0 (cond b (answering 0 (h.file v)) (file_among (map (answered_wait h) us) u f))
    go rest true = sym (twice (h.file v))
    go rest false = rest

pub after_other : (h : Here) (us : List ℕ) (u v : ℕ) (f : Saved) → u ≢ v → file_among (map (answered_wait h) (us ++ u ∷ [])) v f ≡ file_among (map (answered_wait h) us) v f
after_other h [] u v f ne = rw (ne_eqb u v ne) refl
after_other h (w ∷ us) u v f ne = go (after_other h us u v f ne) (eqb w v)
  where
    go : file_among (map (answered_wait h) (us ++ u ∷ [])) v f ≡ file_among (map (answered_wait h) us) v f → (b : Bool) → cond b (answering 0 (h.file w)) (file_among (map (answered_wait h) (us ++ u ∷ [])) v f) ≡ cond b (answering 0 (h.file w)) (file_among (map (answered_wait h) us) v f)
    go rest true = refl
    go rest false = rest

-- what is kept, once one more was woken
pub answered_some : (value : ℕ) (x : Saved) (f : Saved) (o : Option Saved) → option_map (answering value) o ≡ Some x → ((y : Saved) → o ≡ Some y → y ≡ f) → x ≡ answering value f
answered_some value x f None e all = cc
answered_some value x f (Some y) e all = let is : answering value y ≡ x = cc in sym is ∙ ap (answering value) (all y refl)

pub kept_answered : (value u : ℕ) (file file' : ℕ → Saved) (before after : Table) → after.saved ≡ with_answer u value before.saved
    → file' u ≡ answering value (file u) → ((v : ℕ) → u ≢ v → file' v ≡ file v) → AreSaved file before → AreSaved file' after
kept_answered value u file file' before after is own others all v x at = elim (cases_eq v u) [
  | inl same ↦
      let there : saved_of u (with_answer u value before.saved) ≡ Some x = ap (λ n. saved_of n (with_answer u value before.saved)) (sym same) ∙ ap (saved_of v) (sym is) ∙ at in
      answered_some value x (file u) (saved_of u before.saved) (sym (saved_of-answered u value before.saved) ∙ there) (all u) ∙ sym own ∙ ap file' (sym same)
  | inr other ↦
      all v x (sym (saved_of-with_answer_other u v other value before.saved) ∙ ap (saved_of v) (sym is) ∙ at) ∙ sym (others v (λ e. other (sym e)))
]

-- nothing is saved of who had nothing saved
pub quiet_woken : (value t u : ℕ) (before after : Table) → after.saved ≡ with_answer u value before.saved → saved_of t before.saved ≡ None → saved_of t after.saved ≡ None
quiet_woken value t u before after is none = ap (saved_of t) is ∙ (elim (cases_eq u t) [
  | inl same ↦ ap (λ n. saved_of n (with_answer u value before.saved)) (sym same) ∙ saved_of-answered u value before.saved
      ∙ ap (option_map (answering value)) (ap (λ n. saved_of n before.saved) same ∙ none)
  | inr ne ↦ saved_of-with_answer_other u t (λ e. ne (sym e)) value before.saved ∙ none
])

-- who runs isn't woken
pub runs_alone : (harts h t n more at to : ℕ) (listens : ℕ → Bool) (here : Here) (f : Saved) (k : Kernel) → IsTables harts k.threads k.scheduling → running_on h k.threads ≡ Some t
    → file_among (map (answered_wait here) (requeue n more at to listens k).threads) t f ≡ f
runs_alone harts h t n more at to listens here f =
    requeue_by (λ k done. IsTables harts k.threads k.scheduling → running_on h k.threads ≡ Some t → file_among (map (answered_wait here) done.threads) t f ≡ f)
    (λ k tables runs. refl)
    (λ u k rest waiting is tables runs.
    rw (ne_eqb u t (waits_elsewhere harts h t u k.threads k.scheduling tables runs waiting))
    (is (tables_woken harts u k.threads k.scheduling tables waiting) (woken_same harts u k.threads k.scheduling tables waiting h ∙ runs)))
    (λ u to k rest waiting is tables runs.
    rw (ne_eqb u t (waits_elsewhere harts h t u k.threads k.scheduling tables runs waiting))
    (is (tables_requeued harts u to k.threads k.scheduling tables waiting) (requeued_same harts u to k.threads k.scheduling tables waiting h ∙ runs)))
    n more at to listens

-- so many of the threads went, these ones; what is left to go goes behind them
pub record IsWaking (h : Here) (k : Tables) (k' : Tables) (most : ℕ) (more : ℕ) (at : ℕ) (to : ℕ) (listens : ℕ → Bool) (count : ℕ) : Type 0 where
  pub us : List ℕ
  pub number : length us ≡ count
  pub rest : requeue most more at to listens h.kernel ≡ woken_before us (requeue (most - count) (more - (count - most)) at to listens (record_with k' h.kernel))
  pub kept : AreSaved h.file k.threads → AreSaved (λ u. file_among (map (answered_wait h) us) u (h.file u)) k'.threads

-- at first none did
pub waking_none : (h : Here) (k : Tables) (most more at to : ℕ) (listens : ℕ → Bool) → HoldsTables k h.kernel → IsWaking h k k most more at to listens 0
waking_none h k most more at to listens told =
    let all : most ≡ most - 0 = omega arith in
    let all_more : more ≡ more - (0 - most) = omega arith in
    record {
      us = [];
      number = refl;
      rest = λ i. requeue (all i) (all_more i) at to listens (sym (held_is k h.kernel told) i);
      kept = λ all. all;
    }

-- the tables once one more did
pub holds_taken : (k' k'' : Tables) (wakes : Bool) (u to : ℕ) (r : Kernel)
    → k''.threads.threads ≡ cond wakes (with_woken u k'.threads.threads) (with_waiter u to (with_woken u k'.threads.threads))
    → k''.ready ≡ cond wakes (with_ready u k'.ready) k'.ready → k'' ≡ record k' { threads = k''.threads; ready = k''.ready }
    → HoldsTables k'' (taken wakes u to (record_with k' r))
holds_taken k' k'' true u to r threads ready others =
    subst (λ (x : Tables). HoldsTables x (woken u (record_with k' r))) (sym others) (holds_woken (holds_itself k' r) u k''.threads k''.ready threads ready)
holds_taken k' k'' false u to r threads ready others =
    subst (λ (x : Tables). HoldsTables x (requeued u to (record_with k' r))) (sym others)
    (holds_requeued (holds_itself k' r) u to k''.threads k''.ready threads ready)

-- and nothing beside them changed
beside_taken : (k'' : Tables) (wakes : Bool) (u to : ℕ) (k : Kernel) → record_with k'' (taken wakes u to k) ≡ record_with k'' k
beside_taken k'' true u to k = refl
beside_taken k'' false u to k = refl

-- then one more did
pub waking_more : (h : Here) (k k' k'' : Tables) (most more at to : ℕ) (listens : ℕ → Bool) (count u : ℕ) (wakes : Bool) → ltb count most ≡ wakes → count < most + more
    → IsWaking h k k' most more at to listens count → longest_waiter at listens k'.threads.threads ≡ Some u
    → k''.threads.threads ≡ cond wakes (with_woken u k'.threads.threads) (with_waiter u to (with_woken u k'.threads.threads))
    → k''.threads.saved ≡ with_answer u 0 k'.threads.saved → k''.ready ≡ cond wakes (with_ready u k'.ready) k'.ready
    → k'' ≡ record k' { threads = k''.threads; ready = k''.ready }
    → IsWaking h k k'' most more at to listens (count + 1)
waking_more h k k' k'' most more at to listens count u wakes is lt waking longest threads saved ready others =
    let last = taken wakes u to (record_with k' h.kernel) in
    let now : last ≡ record_with k'' h.kernel =
    sym (held_is k'' last (holds_taken k' k'' wakes u to h.kernel threads ready others)) ∙ beside_taken k'' wakes u to (record_with k' h.kernel) in
    let left = requeue (most - (count + 1)) (more - (count + 1 - most)) at to listens in
    record {
      us = waking.us ++ u ∷ [];
      number = length-append waking.us (u ∷ []) ∙ ap (λ (n : ℕ). n + 1) waking.number;
      rest = waking.rest ∙ ap (woken_before waking.us) (next_goes most more count at to listens u (record_with k' h.kernel) wakes is lt longest)
          ∙ before_next waking.us u (left last) ∙ ap (λ (r : Kernel). woken_before (waking.us ++ u ∷ []) (left r)) now;
      kept = λ all. kept_answered 0 u (λ v. file_among (map (answered_wait h) waking.us) v (h.file v)) (λ v. file_among (map (answered_wait h) (waking.us ++ u ∷ [])) v (h.file v))
          k'.threads k''.threads saved (after_own h waking.us u (h.file u) refl) (λ v ne. after_other h waking.us u v (h.file v) ne) (waking.kept all);
    }

-- at last nobody waits any more, or all went
pub woken_all : (h : Here) (k k' : Tables) (most more at to : ℕ) (listens : ℕ → Bool) (count : ℕ) → IsWaking h k k' most more at to listens count
    → requeue (most - count) (more - (count - most)) at to listens (record_with k' h.kernel) ≡ nobody (record_with k' h.kernel)
    → IsWoken h k k' (requeue most more at to listens h.kernel) count
woken_all h k k' most more at to listens count waking over =
    let is : requeue most more at to listens h.kernel ≡ record { threads = waking.us; kernel = record_with k' h.kernel } =
    waking.rest ∙ ap (woken_before waking.us) over ∙ ap (λ (us : List ℕ). record { threads = us; kernel = record_with k' h.kernel }) (append-nil waking.us) in
    record {
      number = sym waking.number ∙ ap (λ (w : Woken). length w.threads) (sym is);
      tables = subst (λ (w : Woken). HoldsTables k' w.kernel) (sym is) (holds_itself k' h.kernel);
      ids = ap (λ (w : Woken). w.kernel.ids) is;
      kept = λ all. subst (λ (us : List ℕ). AreSaved (λ u. file_among (map (answered_wait h) us) u (h.file u)) k'.threads) (ap (λ (w : Woken). w.threads) (sym is)) (waking.kept all);
    }

-- the tables go on
pub onward_still : (k : Tables) → IsOnward k k
onward_still k = record { tables = λ harts holds. holds; running = λ j. refl; quiet = λ t q. q; live = λ t. refl; numbers = refl; signals = refl; areas = refl }

-- one that waited is woken, or waits at another address
abbrev its_threads : Bool → ℕ → ℕ → Threads → Threads
its_threads wakes u to ts = cond wakes (with_woken u ts) (with_waiter u to (with_woken u ts))

pub record IsTaken (harts u : ℕ) (ts us : Threads) (sc sd : Scheduling) : Type 0 where
  pub tables : (n : ℕ) → IsTables n ts sc → IsTables n us sd
  pub running : (j : ℕ) → running_on j us ≡ running_on j ts
  pub live : (t : ℕ) → is_live t us ≡ is_live t ts
  pub numbers : numbers us.live ≡ numbers ts.live

pub threads_taken : (harts u to : ℕ) (wakes : Bool) (ts : Threads) (sc : Scheduling) → IsTables harts ts sc → waits ts u
    → IsTaken harts u ts (its_threads wakes u to ts) sc (cond wakes (with_ready u sc) sc)
threads_taken harts u to true ts sc holds waiting = record {
  tables = λ n all. tables_woken n u ts sc all waiting;
  running = woken_same harts u ts sc holds waiting;
  live = λ t. live_changed u t Ready ts;
  numbers = same_numbers u Ready ts.live;
}
threads_taken harts u to false ts sc holds waiting = record {
  tables = λ n all. tables_requeued n u to ts sc all waiting;
  running = requeued_same harts u to ts sc holds waiting;
  live = λ t. live_changed u t (Waiting to) (with_woken u ts) ∙ live_changed u t Ready ts;
  numbers = same_numbers u (Waiting to) (with_woken u ts).live ∙ same_numbers u Ready ts.live;
}

pub onward_more : (k k' k'' : Tables) (harts u to : ℕ) (wakes : Bool) → IsTables harts k.threads.threads k.ready → IsOnward k k' → waits k'.threads.threads u
    → k''.threads.threads ≡ its_threads wakes u to k'.threads.threads → k''.threads.saved ≡ with_answer u 0 k'.threads.saved
    → k''.ready ≡ cond wakes (with_ready u k'.ready) k'.ready → k'' ≡ record k' { threads = k''.threads; ready = k''.ready } → IsOnward k k''
onward_more k k' k'' harts u to wakes holds onward waiting threads saved ready others =
    let is = threads_taken harts u to wakes k'.threads.threads k'.ready (onward.tables harts holds) waiting in
    record {
      tables = λ n all. subst (λ (ts : Threads). IsTables n ts k''.ready) (sym threads) (subst (λ (sc : Scheduling). IsTables n (its_threads wakes u to k'.threads.threads) sc) (sym ready)
          (is.tables n (onward.tables n all)));
      running = λ j. ap (running_on j) threads ∙ is.running j ∙ onward.running j;
      quiet = λ t q. quiet_woken 0 t u k'.threads k''.threads saved (onward.quiet t q);
      live = λ t. ap (is_live t) threads ∙ is.live t ∙ onward.live t;
      numbers = ap (λ (ts : Threads). numbers ts.live) threads ∙ is.numbers ∙ onward.numbers;
      signals = ap (λ (x : Tables). x.signals) others ∙ onward.signals;
      areas = ap (λ (x : Tables). x.areas) others ∙ onward.areas;
    }
