-- A step of one thread's signals is seen at that thread, and leaves those of the others.
use Rattle.std.proofs.Common.{◌≡◌, ◌≢◌, ℕ, Bool, true, false, ◌||◌, cond, List, [], ◌∷◌, find, map, Option, Some, None, eqb, refl, sym, ap, ◌∙◌, arith}
use Rattle.std.specs.List.{list_any}
use Rattle.std.specs.Option.{option_map, option_map_or}
use Rattle.std.proofs.lemmas.Bool.Decides.{Decides-eqb, nat_tests}
use Rattle.mach_types.proofs.Laws.{changed_other, changed_same, filtered_other, found_at_end, not_at_end}
use Rattle.mach_types.specs.Kernel.Signals.{Signalling, action_of, forget, is_held, is_ignored, is_of, joined, less, mask_of, new_thread, newest_fault, fault_by, fault_of, only, pending_of, posted, with_fault, with_mask, with_pending, with_thread, without_fault, without_pending, without_signal}
use Rattle.mach_types.specs.declared.signal_words.Fault.{Fault}
use Rattle.mach_types.specs.declared.signal_words.ThreadSignals.{ThreadSignals}

-- the entry of a thread
abbrev pub entry_of : ℕ → Signalling → Option ThreadSignals
entry_of t g = find (is_of t) g.threads

abbrev pub mask_in : Option ThreadSignals → ℕ
mask_in o = option_map_or (λ th. th.mask) o 0

abbrev pub pending_in : Option ThreadSignals → ℕ
pending_in o = option_map_or (λ th. th.pending) o 0

-- a change of one entry that keeps its number
abbrev with_entry : ℕ → (ThreadSignals → ThreadSignals) → Signalling → Signalling
with_entry t f g = record g { threads = map (λ th. cond (is_of t th) (f th) th) g.threads }

other_entry : (t u : ℕ) (f : ThreadSignals → ThreadSignals) → ((th : ThreadSignals) → (f th).tid ≡ th.tid) → (g : Signalling) → u ≢ t
    → entry_of u (with_entry t f g) ≡ entry_of u g
other_entry t u f keeps g other = changed_other (λ (th : ThreadSignals). th.tid) f keeps t u other g.threads

own_entry : (t : ℕ) (f : ThreadSignals → ThreadSignals) → ((th : ThreadSignals) → (f th).tid ≡ th.tid) → (g : Signalling)
    → entry_of t (with_entry t f g) ≡ option_map f (entry_of t g)
own_entry t f keeps g = changed_same (λ (th : ThreadSignals). th.tid) f keeps t g.threads

-- OTHERS

pub with_mask-other : (t u mask : ℕ) (g : Signalling) → u ≢ t → mask_of u (with_mask t mask g) ≡ mask_of u g
with_mask-other t u mask g other = ap mask_in (other_entry t u (λ th. record th { mask = mask }) (λ th. refl) g other)

pub with_pending-other : (t u s : ℕ) (g : Signalling) → u ≢ t → pending_of u (with_pending t s g) ≡ pending_of u g
with_pending-other t u s g other = ap pending_in (other_entry t u (λ th. record th { pending = joined th.pending (only s) }) (λ th. refl) g other)

-- the entry of a thread that faults
abbrev pub faulting : Fault → ThreadSignals → ThreadSignals
faulting f th = record th { pending = joined th.pending (only f.signal); fault = Some f }

pub with_fault-other : (t u : ℕ) (f : Fault) (g : Signalling) → u ≢ t → pending_of u (with_fault t f g) ≡ pending_of u g
with_fault-other t u f g other = ap pending_in (other_entry t u (faulting f) (λ th. refl) g other)

pub posted-other : (t u s : ℕ) (g : Signalling) → u ≢ t → pending_of u (posted t s g) ≡ pending_of u g
posted-other t u s g other =
    elim (is_ignored s (action_of s g)) as (λ b. pending_of u (cond b g (with_pending t s g)) ≡ pending_of u g) [ true ↦ refl | false ↦ with_pending-other t u s g other ]

pub without_pending-other : (t u s : ℕ) (g : Signalling) → u ≢ t → pending_of u (without_pending t s g) ≡ pending_of u g
without_pending-other t u s g other = ap pending_in (other_entry t u (without_signal s) (λ th. refl) g other)

pub forget-other : (t u : ℕ) (g : Signalling) → u ≢ t → entry_of u (forget t g) ≡ entry_of u g
forget-other t u g other = filtered_other (λ (th : ThreadSignals). th.tid) t u other g.threads

another : (t u : ℕ) → u ≢ t → eqb t u ≡ false
another t u other = grind (arith, nat_tests)

pub with_thread-other : (parent t u : ℕ) (g : Signalling) → u ≢ t → entry_of u (with_thread parent t g) ≡ entry_of u g
with_thread-other parent t u g other = not_at_end (is_of u) g.threads (new_thread t (mask_of parent g)) (another t u other)

-- OWN

held_entry : (t : ℕ) (threads : List ThreadSignals) → list_any (is_of t) threads ≡ true → (th : ThreadSignals) × (find (is_of t) threads ≡ Some th)
held_entry t [] e = cc
held_entry t (th ∷ ths) e = go (is_of t th) e (held_entry t ths)
  where
    go : (b : Bool) → (b || list_any (is_of t) ths) ≡ true → (list_any (is_of t) ths ≡ true → (u : ThreadSignals) × (find (is_of t) ths ≡ Some u))
        → (u : ThreadSignals) × (cond b (Some th) (find (is_of t) ths) ≡ Some u)
    go true e rest = (th, refl)
    go false e rest = rest e

pub with_mask-own : (t mask : ℕ) (g : Signalling) → is_held t g ≡ true → mask_of t (with_mask t mask g) ≡ mask
with_mask-own t mask g held =
    let entry = held_entry t g.threads held in
    let f : ThreadSignals → ThreadSignals = λ th. record th { mask = mask } in
    ap mask_in (own_entry t f (λ th. refl) g ∙ ap (option_map f) entry.1)

pub with_pending-own : (t s : ℕ) (g : Signalling) → is_held t g ≡ true → pending_of t (with_pending t s g) ≡ joined (pending_of t g) (only s)
with_pending-own t s g held =
    let entry = held_entry t g.threads held in
    let f : ThreadSignals → ThreadSignals = λ th. record th { pending = joined th.pending (only s) } in
    ap pending_in (own_entry t f (λ th. refl) g ∙ ap (option_map f) entry.1) ∙ sym (ap (λ o. joined (pending_in o) (only s)) entry.1)

pub with_fault-own : (t : ℕ) (f : Fault) (g : Signalling) → is_held t g ≡ true → pending_of t (with_fault t f g) ≡ joined (pending_of t g) (only f.signal)
with_fault-own t f g held =
    let entry = held_entry t g.threads held in
    ap pending_in (own_entry t (faulting f) (λ th. refl) g ∙ ap (option_map (faulting f)) entry.1) ∙ sym (ap (λ o. joined (pending_in o) (only f.signal)) entry.1)

-- what an entry's fault says of a signal
abbrev fault_in : ℕ → Option ThreadSignals → Option Fault
fault_in s o = fault_by s (option_map_or (λ th. th.fault) o None)

same_signal : (f : Fault) → fault_by f.signal (Some f) ≡ Some f
same_signal f = ap (λ b. cond b (Some f) None) ((Decides-eqb f.signal f.signal).1 refl)

pub fault-own : (t : ℕ) (f : Fault) (g : Signalling) → is_held t g ≡ true → fault_of t f.signal (with_fault t f g) ≡ Some f
fault-own t f g held =
    let entry = held_entry t g.threads held in
    ap (fault_in f.signal) (own_entry t (faulting f) (λ th. refl) g ∙ ap (option_map (faulting f)) entry.1) ∙ same_signal f

-- a fault that isn't of a signal says nothing of it
none_left : (s : ℕ) (o : Option Fault) → fault_by s (without_fault s o) ≡ None
none_left s None = refl
none_left s (Some f) = go (eqb f.signal s) refl
  where
    go : (b : Bool) → eqb f.signal s ≡ b → fault_by s (cond b None (Some f)) ≡ None
    go true e = refl
    go false e = ap (λ b. cond b (Some f) None) e

pub fault-taken : (t s : ℕ) (g : Signalling) → is_held t g ≡ true → fault_of t s (without_pending t s g) ≡ None
fault-taken t s g held =
    let entry = held_entry t g.threads held in
    ap (fault_in s) (own_entry t (without_signal s) (λ th. refl) g ∙ ap (option_map (without_signal s)) entry.1) ∙ none_left s entry.0.fault

pub posted-own : (t s : ℕ) (g : Signalling) → is_held t g ≡ true → is_ignored s (action_of s g) ≡ false → pending_of t (posted t s g) ≡ joined (pending_of t g) (only s)
posted-own t s g held heeded = ap (λ b. pending_of t (cond b g (with_pending t s g))) heeded ∙ with_pending-own t s g held

pub without_pending-own : (t s : ℕ) (g : Signalling) → is_held t g ≡ true → pending_of t (without_pending t s g) ≡ less (pending_of t g) (only s)
without_pending-own t s g held =
    let entry = held_entry t g.threads held in
    ap pending_in (own_entry t (without_signal s) (λ th. refl) g ∙ ap (option_map (without_signal s)) entry.1) ∙ sym (ap (λ o. less (pending_in o) (only s)) entry.1)

not_held_entry : (t : ℕ) (threads : List ThreadSignals) → list_any (is_of t) threads ≡ false → find (is_of t) threads ≡ None
not_held_entry t [] e = refl
not_held_entry t (th ∷ ths) e = go (is_of t th) e (not_held_entry t ths)
  where
    go : (b : Bool) → (b || list_any (is_of t) ths) ≡ false → (list_any (is_of t) ths ≡ false → find (is_of t) ths ≡ None) → cond b (Some th) (find (is_of t) ths) ≡ None
    go true e rest = cc
    go false e rest = rest e

pub with_thread-own : (parent t : ℕ) (g : Signalling) → is_held t g ≡ false → entry_of t (with_thread parent t g) ≡ Some (new_thread t (mask_of parent g))
with_thread-own parent t g not_held =
    found_at_end (is_of t) g.threads (new_thread t (mask_of parent g)) (not_held_entry t g.threads not_held) ((Decides-eqb t t).1 refl)
