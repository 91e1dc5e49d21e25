-- No thread waits with a signal that can be delivered to it (signal(7), "Interruption of system calls"): what each step of threads and
-- of signals keeps of this.
use Rattle.block_model.proofs.Common.{◌≡◌, ◌≢◌, ℕ, ◌+◌, ◌&&◌, Bool, true, false, not, cond, eqb, List, [], ◌∷◌, ◌++◌, map, filter, find, Option, Some, None, is_some, refl, sym, ap, subst, ◌∙◌, inl, inr, Action, IsThreads, KeepsRows, Ready, Signalling, Thread, ThreadSignals, ThreadState, Threads, Waiting, acted, action_of, all_signals, cases_eq, cond_both, dropped, entered_action, eqb-true, false≢true, handler_mask, has_signal, is_ignored, is_waiting_state, joined, less, mask_of, ne_eqb, next_for, only, option_map, option_map_or, posted, restored_mask, set_action, signals_handled, state_of, state_of-with_child_other, state_of-with_child_same, state_of-with_rows, state_of-without_other, state_of-without_same, waits, with_child, with_mask, with_pending, with_rows, with_state, with_thread, without, without_pending, without_signal}
use Rattle.mach_types.specs.Kernel.Signals.{with_fault}
use Rattle.mach_types.specs.declared.signal_words.Fault.{Fault}
use Rattle.mach_types.specs.Kernel.SignalFrames.{returned}
use Rattle.mach_types.specs.Kernel.Signals.{forget, is_of, new_thread}
use Rattle.block_model.proofs.IgnoredSignals.{less_before}
use Rattle.block_model.proofs.KernelTables.{state_moved}

abbrev pub AreCalm : Threads → Signalling → Type 0
AreCalm ts g = (u : ℕ) → waits ts u → next_for u g ≡ None

-- WHO WAITS

-- after a thread got another state that isn't waiting, others wait that waited
pub waited_other : (t u : ℕ) (st : ThreadState) (ts : Threads) → ((at : ℕ) → Waiting at ≢ st) → waits (with_state t st ts) u → (u ≢ t) × waits ts u
waited_other t u st ts not_so is = elim (state_moved t u st (Waiting is.0) ts is.1) [
  | inl own ↦ absurd (not_so is.0 own.1)
  | inr other ↦ (other.0, (is.0, other.1))
]

pub waited_before : (t u : ℕ) (st : ThreadState) (ts : Threads) → ((at : ℕ) → Waiting at ≢ st) → waits (with_state t st ts) u → waits ts u
waited_before t u st ts not_so is = let both = waited_other t u st ts not_so is in both.1

-- after one began to wait, it does, or one that waited
pub waited_or_own : (t u p : ℕ) (ts : Threads) (P : ℕ → Type 0) → P t → (waits ts u → P u) → waits (with_state t (Waiting p) ts) u → P u
waited_or_own t u p ts P own others is = elim (state_moved t u (Waiting p) (Waiting is.0) ts is.1) [
  | inl its ↦ subst P (sym its.0) own
  | inr other ↦ others (is.0, other.1)
]

pub waited_rows : (f : Thread → Thread) → KeepsRows f → (u : ℕ) (ts : Threads) → waits (with_rows f ts) u → waits ts u
waited_rows f keeps u ts is = (is.0, sym (state_of-with_rows f keeps u ts) ∙ is.1)

pub waited_with : (t u : ℕ) (ts : Threads) → waits (without t ts) u → (u ≢ t) × waits ts u
waited_with t u ts is = elim (cases_eq u t) [
  | inl same ↦
      let none : state_of u (without t ts) ≡ None = ap (λ n. state_of n (without t ts)) same ∙ state_of-without_same t ts in
      let no : None ≡ Some (Waiting is.0) = sym none ∙ is.1 in
      absurd cc
  | inr other ↦ (other, (is.0, sym (state_of-without_other t u other ts) ∙ is.1))
]

pub waited_beside : (u : ℕ) (ts : Threads) → IsThreads ts → waits (with_child ts) u → (u ≢ ts.given + 1) × waits ts u
waited_beside u ts threads is = elim (cases_eq u (ts.given + 1)) [
  | inl same ↦
      let ready : state_of u (with_child ts) ≡ Some Ready = ap (λ n. state_of n (with_child ts)) same ∙ state_of-with_child_same ts threads in
      let no : Some Ready ≡ Some (Waiting is.0) = sym ready ∙ is.1 in
      absurd cc
  | inr other ↦ (other, (is.0, sym (state_of-with_child_other u ts other) ∙ is.1))
]

-- WHAT CAN BE DELIVERED

-- what can be delivered next, by what is kept of the thread
abbrev next_by : Option ThreadSignals → Option ℕ
next_by o =
    find (λ s. has_signal (option_map_or (λ (th : ThreadSignals). th.pending) o 0) s && not (has_signal (option_map_or (λ (th : ThreadSignals). th.mask) o 0) s)) all_signals

-- a change of one thread's signals changes nothing of another's
off : (t u : ℕ) (x : ThreadSignals) → u ≢ t → is_of t x ≡ true → is_of u x ≡ false
off t u x ne its = ne_eqb x.tid u (λ e. ne (sym e ∙ eqb-true x.tid t its))

module _ (t u : ℕ) (ne : u ≢ t) where
  other_one : (f : ThreadSignals → ThreadSignals) → ((th : ThreadSignals) → (f th).tid ≡ th.tid) → (xs : List ThreadSignals)
      → find (is_of u) (map (λ th. cond (is_of t th) (f th) th) xs) ≡ find (is_of u) xs
  other_one f keeps [] = refl
  other_one f keeps (x ∷ xs) = go (is_of t x) refl (other_one f keeps xs)
    where
      go : (b : Bool) → is_of t x ≡ b → find (is_of u) (map (λ th. cond (is_of t th) (f th) th) xs) ≡ find (is_of u) xs
          → cond (is_of u (cond b (f x) x)) (Some (cond b (f x) x)) (find (is_of u) (map (λ th. cond (is_of t th) (f th) th) xs))
          ≡ cond (is_of u x) (Some x) (find (is_of u) xs)
      go true its rest = rw (ap (λ n. eqb n u) (keeps x), off t u x ne its) rest
      go false its rest = ap (λ o. cond (is_of u x) (Some x) o) rest

  other_gone : (xs : List ThreadSignals) → find (is_of u) (filter (λ th. not (is_of t th)) xs) ≡ find (is_of u) xs
  other_gone [] = refl
  other_gone (x ∷ xs) = go (is_of t x) refl (other_gone xs)
    where
      go : (b : Bool) → is_of t x ≡ b → find (is_of u) (filter (λ th. not (is_of t th)) xs) ≡ find (is_of u) xs
          → find (is_of u) (cond (not b) (x ∷ filter (λ th. not (is_of t th)) xs) (filter (λ th. not (is_of t th)) xs)) ≡ cond (is_of u x) (Some x) (find (is_of u) xs)
      go true its rest = rw (off t u x ne its) rest
      go false its rest = ap (λ o. cond (is_of u x) (Some x) o) rest

  other_new : (mask : ℕ) (xs : List ThreadSignals) → find (is_of u) (xs ++ new_thread t mask ∷ []) ≡ find (is_of u) xs
  other_new mask [] = rw (ne_eqb t u (λ e. ne (sym e))) refl
  other_new mask (x ∷ xs) = ap (λ o. cond (is_of u x) (Some x) o) (other_new mask xs)

  pub next_masked : (mask : ℕ) (g : Signalling) → next_for u (with_mask t mask g) ≡ next_for u g
  next_masked mask g = ap next_by (other_one (λ th. record th { mask = mask }) (λ th. refl) g.threads)

  pub next_pending : (s : ℕ) (g : Signalling) → next_for u (with_pending t s g) ≡ next_for u g
  next_pending s g = ap next_by (other_one (λ th. record th { pending = joined th.pending (only s) }) (λ th. refl) g.threads)

  pub next_faulted : (f : Fault) (g : Signalling) → next_for u (with_fault t f g) ≡ next_for u g
  next_faulted f g = ap next_by (other_one (λ th. record th { pending = joined th.pending (only f.signal); fault = Some f }) (λ th. refl) g.threads)

  pub next_taken : (s : ℕ) (g : Signalling) → next_for u (without_pending t s g) ≡ next_for u g
  next_taken s g = ap next_by (other_one (without_signal s) (λ th. refl) g.threads)

  pub next_gone : (g : Signalling) → next_for u (forget t g) ≡ next_for u g
  next_gone g = ap next_by (other_gone g.threads)

  pub next_born : (parent : ℕ) (g : Signalling) → next_for u (with_thread parent t g) ≡ next_for u g
  next_born parent g = ap next_by (other_new (mask_of parent g) g.threads)

  pub next_returned : (words : Option (List ℕ)) (g : Signalling) → next_for u (returned t words g) ≡ next_for u g
  next_returned None g = refl
  next_returned (Some words) g = next_masked (restored_mask words) g

  pub next_posted : (s : ℕ) (g : Signalling) → next_for u (posted t s g) ≡ next_for u g
  next_posted s g =
      cond_both (is_ignored s (action_of s g)) g (with_pending t s g) (λ (k : Signalling). next_for u k ≡ next_for u g)
      (λ ignored. refl) (λ heeded. next_pending s g)

-- a search that finds nothing finds nothing where less passes
find_less : (p q : ℕ → Bool) → ((n : ℕ) → q n ≡ true → p n ≡ true) → (xs : List ℕ) → find p xs ≡ None → find q xs ≡ None
find_less p q within [] none = refl
find_less p q within (x ∷ xs) none = go (p x) (q x) refl refl none (find_less p q within xs)
  where
    go : (b c : Bool) → p x ≡ b → q x ≡ c → cond b (Some x) (find p xs) ≡ None → (find p xs ≡ None → find q xs ≡ None)
        → cond c (Some x) (find q xs) ≡ None
    go true c was is none rest = cc
    go false true was is none rest = absurd (false≢true (sym was ∙ within x is))
    go false false was is none rest = rest none

and_more : (b b' c : Bool) → (b' ≡ true → b ≡ true) → (b' && c) ≡ true → (b && c) ≡ true
and_more true b' c more is = go b' is
  where
    go : (b : Bool) → (b && c) ≡ true → c ≡ true
    go true its = its
    go false its = cc
and_more false true c more is = absurd (false≢true (more refl))
and_more false false c more is = is

without_one : (s : ℕ) (o : Option ThreadSignals) → next_by o ≡ None → next_by (option_map (without_signal s) o) ≡ None
without_one s None none = none
without_one s (Some th) none =
    find_less (λ n. has_signal th.pending n && not (has_signal th.mask n)) (λ n. has_signal (less th.pending (only s)) n && not (has_signal th.mask n))
    (λ n has. and_more (has_signal th.pending n) (has_signal (less th.pending (only s)) n) (not (has_signal th.mask n)) (less_before th.pending s n) has)
    all_signals none

found_without : (s u : ℕ) (xs : List ThreadSignals) → find (is_of u) (map (without_signal s) xs) ≡ option_map (without_signal s) (find (is_of u) xs)
found_without s u [] = refl
found_without s u (x ∷ xs) =
    elim (is_of u x) as (λ b. cond b (Some (without_signal s x)) (find (is_of u) (map (without_signal s) xs)) ≡ option_map (without_signal s) (cond b (Some x) (find (is_of u) xs)))
    [ true ↦ refl | false ↦ found_without s u xs ]

pub next_dropped : (s u : ℕ) (g : Signalling) → next_for u g ≡ None → next_for u (dropped s g) ≡ None
next_dropped s u g none = ap next_by (found_without s u g.threads) ∙ without_one s (find (is_of u) g.threads) none

dropped_if : (b : Bool) (s u : ℕ) (g : Signalling) → next_for u g ≡ None → next_for u (cond b (dropped s g) g) ≡ None
dropped_if true s u g none = next_dropped s u g none
dropped_if false s u g none = none

pub next_acted : (s u : ℕ) (new : Option Action) (g : Signalling) → next_for u g ≡ None → next_for u (acted s new g) ≡ None
next_acted s u None g none = none
next_acted s u (Some new) g none = dropped_if (is_ignored s new) s u (set_action s new g) none

pub next_handled : (t s u : ℕ) (g : Signalling) → u ≢ t → next_for u g ≡ None → next_for u (signals_handled t s g) ≡ None
next_handled t s u g ne none =
    let a = action_of s g in
    let mask = handler_mask s a (mask_of t g) in
    let then = set_action s (entered_action a) (with_mask t mask g) in
    dropped_if (is_ignored s (action_of s then)) s u then (next_masked t u ne mask g ∙ none)

-- a signal that is posted where it breaks no wait
pub none_left : (o : Option ℕ) → is_some o ≡ false → o ≡ None
none_left None is = refl
none_left (Some n) is = cc

pub next_unbroken : (u sig w : ℕ) (ts : Threads) (g : Signalling)
    → (option_map_or is_waiting_state (state_of u ts) false && is_some (next_for u (posted u sig g))) ≡ false
    → waits ts w → next_for w g ≡ None → next_for w (posted u sig g) ≡ None
next_unbroken u sig w ts g calm is none = elim (cases_eq w u) [
  | inl same ↦
      let waiting : state_of u ts ≡ Some (Waiting is.0) = ap (λ n. state_of n ts) (sym same) ∙ is.1 in
      let left : is_some (next_for u (posted u sig g)) ≡ false =
      sym (ap (λ (o : Option ThreadState). option_map_or is_waiting_state o false && is_some (next_for u (posted u sig g))) waiting) ∙ calm in
      ap (λ n. next_for n (posted u sig g)) same ∙ none_left (next_for u (posted u sig g)) left
  | inr other ↦ next_posted u w other sig g ∙ none
]
