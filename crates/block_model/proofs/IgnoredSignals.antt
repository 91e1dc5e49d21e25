-- No signal is pending that its action ignores (signal(7)): what each step of signals keeps of this.
use Rattle.block_model.proofs.Common.{◌≡◌, ◌≢◌, ℕ, zero, suc, ◌-◌, ◌<◌, ◌≤◌, ◌%◌, ◌^◌, ◌&&◌, ◌||◌, ◌⊎◌, Bool, true, false, not, cond, eqb, min, max, List, [], ◌∷◌, ◌++◌, map, filter, find, get_or, set, Option, Some, None, refl, sym, ap, ◌∙◌, inl, inr, arith, w64, Action, AllByRecursion, SIG_DFL, Signalling, ThreadSignals, acted, action_of, and_parts, cases_eq, cond_both, default_action, dropped, entered_action, false≢true, handler_mask, has_signal, is_handler, is_ignored, joined, less, mask_if, mask_of, nat_tests, only, option_map_or, or_cases, pending_of, post_if, posted, restored_mask, set_action, signals_handled, start_signalling, take_if, with_mask, with_pending, with_thread, without_pending, without_signal}
use Rattle.std.specs.Int.{bit_at}
use Rattle.std.proofs.lemmas.List.{get_or-set_other}
use Rattle.std.proofs.lemmas.Nat.Bits.{bit_at-lt, bit_at-pow_other, bit_at-pow_same, bit_at_and, bit_at_not, bit_at_or}
use Rattle.std.proofs.Math.Nat.{zero-div}
use Rattle.std.proofs.Math.Pow.{pow-lt}
use Rattle.mach_types.specs.Kernel.SignalFrames.{returned}
use Rattle.mach_types.specs.Kernel.Signals.{fault_if, with_fault}
use Rattle.mach_types.specs.declared.signal_words.Fault.{Fault}
use Rattle.mach_types.specs.Kernel.Signals.{forget, is_of, new_thread}
use Rattle.mach_types.specs.declared.signals.TheConstants.{SIG_IGN}

-- SETS OF SIGNALS

either : (m n : ℕ) → m < 2 → n < 2 → eqb (max m n) 1 ≡ (eqb m 1 || eqb n 1)
either m n small few = grind (arith, nat_tests)

least : (m n : ℕ) → m < 2 → n < 2 → eqb (min m n) 1 ≡ (eqb m 1 && eqb n 1)
least m n small few = grind (arith, nat_tests)

joined_has : (a b s : ℕ) → has_signal (joined a b) s ≡ (has_signal a s || has_signal b s)
joined_has a b s =
    ap (λ n. eqb n 1) (bit_at_or a b (s - 1)) ∙ either (bit_at a (s - 1)) (bit_at b (s - 1)) (bit_at-lt a (s - 1)) (bit_at-lt b (s - 1))

less_has : (a b s : ℕ) → has_signal (less a b) s ≡ (has_signal a s && eqb (bit_at (2 ^ 64 - 1 - b) (s - 1)) 1)
less_has a b s =
    ap (λ n. eqb n 1) (bit_at_and a (2 ^ 64 - 1 - b) (s - 1))
    ∙ least (bit_at a (s - 1)) (bit_at (2 ^ 64 - 1 - b) (s - 1)) (bit_at-lt a (s - 1)) (bit_at-lt (2 ^ 64 - 1 - b) (s - 1))

-- a set without a signal has no more than before, and not that one
pub less_before : (p s u : ℕ) → has_signal (less p (only s)) u ≡ true → has_signal p u ≡ true
less_before p s u has = (and_parts (has_signal p u) _ (sym (less_has p (only s) u) ∙ has)).0

less_other : (p s u : ℕ) → u ≤ 64 → 1 ≤ u → has_signal (less p (only s)) u ≡ true → u - 1 ≢ s - 1
less_other p s u below from has same =
    let kept : eqb (bit_at (2 ^ 64 - 1 - only s) (u - 1)) 1 ≡ true = (and_parts (has_signal p u) _ (sym (less_has p (only s) u) ∙ has)).1 in
    let gone : bit_at (2 ^ 64 - 1 - only s) (u - 1) ≡ 0 =
    ap (λ n. bit_at (2 ^ 64 - 1 - 2 ^ n) (u - 1)) (sym same) ∙ bit_at_not w64 (2 ^ (u - 1)) (u - 1) (let few : u - 1 < 64 = omega arith in pow-lt few) (omega arith)
    ∙ ap (λ n. 1 - n) (bit_at-pow_same (u - 1)) in
    false≢true (sym (ap (λ n. eqb n 1) gone) ∙ kept)

nothing_has : (s : ℕ) → has_signal 0 s ≡ false
nothing_has s = ap (λ q. eqb (q % 2) 1) (zero-div (only s))

-- signals that stand at one place have one action, and whether it ignores them is the same
same_default : (s u : ℕ) → 1 ≤ u → u - 1 ≡ s - 1 → (a : Action) → is_ignored u a ≡ is_ignored s a
same_default zero (suc zero) from same a = refl
same_default (suc s) u from same a = let is : u ≡ suc s = omega arith in ap (λ n. is_ignored n a) is
same_default other u from same a = absurd (omega arith)

-- WHAT IS HEEDED

-- none of these signals is ignored by its action
abbrev pub Heeds : List Action → ℕ → Type 0
Heeds actions pending =
    (u : ℕ) → 1 ≤ u → u ≤ 64 → has_signal pending u ≡ true → is_ignored u (get_or actions (u - 1) default_action) ≡ false

abbrev pub AllHeeded : Signalling → Type 0
AllHeeded g = AllByRecursion (λ (th : ThreadSignals). Heeds g.actions th.pending) g.threads

none_heeded : (actions : List Action) → Heeds actions 0
none_heeded actions u from below has = absurd (false≢true (sym (nothing_has u) ∙ has))

only_at : (s u : ℕ) → has_signal (only s) u ≡ true → u - 1 ≡ s - 1
only_at s u has = elim (cases_eq (u - 1) (s - 1)) [
  | inl same ↦ same
  | inr other ↦ absurd (false≢true (sym (ap (λ n. eqb n 1) (bit_at-pow_other (s - 1) (u - 1) other)) ∙ has))
]

-- one more signal whose action doesn't ignore it
more_heeded : (actions : List Action) (p s : ℕ) → is_ignored s (get_or actions (s - 1) default_action) ≡ false → Heeds actions p
    → Heeds actions (joined p (only s))
more_heeded actions p s heeded all u from below has =
    elim (or_cases (has_signal p u) (has_signal (only s) u) (sym (joined_has p (only s) u) ∙ has)) [
      | inl old ↦ all u from below old
      | inr new ↦
          let same = only_at s u new in
          same_default s u from same (get_or actions (u - 1) default_action) ∙ ap (λ n. is_ignored s (get_or actions n default_action)) same ∙ heeded
    ]

-- another action of signal s: it heeds it, or no thread has it pending
set_or : (xs : List Action) (i : ℕ) (a d : Action) → (get_or (set xs i a) i d ≡ a) ⊎ (get_or (set xs i a) i d ≡ get_or xs i d)
set_or [] i a d = inr refl
set_or (x ∷ xs) zero a d = inl refl
set_or (x ∷ xs) (suc i) a d = set_or xs i a d

other_heeded : (actions : List Action) (p s : ℕ) (new : Action) → Heeds actions p → Heeds (set actions (s - 1) new) (less p (only s))
other_heeded actions p s new all u from below has =
    ap (is_ignored u) (get_or-set_other actions (s - 1) (u - 1) new default_action (less_other p s u below from has))
    ∙ all u from below (less_before p s u has)

-- the new one heeds it, or is the one that stood there
new_heeded : (actions : List Action) (p s : ℕ) (new : Action)
    → (is_ignored s (get_or (set actions (s - 1) new) (s - 1) default_action) ≡ false)
    ⊎ (get_or (set actions (s - 1) new) (s - 1) default_action ≡ get_or actions (s - 1) default_action)
    → Heeds actions p → Heeds (set actions (s - 1) new) p
new_heeded actions p s new stands all u from below has = elim (cases_eq (u - 1) (s - 1)) [
  | inl same ↦
      ap (λ n. is_ignored u (get_or (set actions (s - 1) new) n default_action)) same
      ∙ elim stands [
        | inl heeded ↦ same_default s u from same (get_or (set actions (s - 1) new) (s - 1) default_action) ∙ heeded
        | inr as_was ↦ ap (is_ignored u) as_was ∙ ap (λ n. is_ignored u (get_or actions n default_action)) (sym same) ∙ all u from below has
      ]
  | inr other ↦ ap (is_ignored u) (get_or-set_other actions (s - 1) (u - 1) new default_action other) ∙ all u from below has
]

-- STEPS

module _ (P Q : ThreadSignals → Type 0) where
  all_map : (f : ThreadSignals → ThreadSignals) → ((th : ThreadSignals) → P th → Q (f th)) → (xs : List ThreadSignals)
      → AllByRecursion P xs → AllByRecursion Q (map f xs)
  all_map f keeps [] all = tt
  all_map f keeps (x ∷ xs) all = (keeps x all.0, all_map f keeps xs all.1)

module _ (P : ThreadSignals → Type 0) where
  all_push : (xs : List ThreadSignals) (x : ThreadSignals) → P x → AllByRecursion P xs → AllByRecursion P (xs ++ x ∷ [])
  all_push [] x its all = (its, tt)
  all_push (y ∷ ys) x its all = (all.0, all_push ys x its all.1)

  all_filter : (p : ThreadSignals → Bool) (xs : List ThreadSignals) → AllByRecursion P xs → AllByRecursion P (filter p xs)
  all_filter p [] all = tt
  all_filter p (x ∷ xs) all =
      let rest = all_filter p xs all.1 in
      cond_both (p x) (x ∷ filter p xs) (filter p xs) (AllByRecursion P) (λ passes. (all.0, rest)) (λ fails. rest)

abbrev heeding : List Action → ThreadSignals → Type 0
heeding actions th = Heeds actions th.pending

pub heeded_start : AllHeeded start_signalling
heeded_start = (none_heeded start_signalling.actions, tt)

pub heeded_child : (parent t : ℕ) (g : Signalling) → AllHeeded g → AllHeeded (with_thread parent t g)
heeded_child parent t g all = all_push (heeding g.actions) g.threads (new_thread t (mask_of parent g)) (none_heeded g.actions) all

pub heeded_gone : (t : ℕ) (g : Signalling) → AllHeeded g → AllHeeded (forget t g)
heeded_gone t g all = all_filter (heeding g.actions) (λ th. not (is_of t th)) g.threads all

pub heeded_masked : (t mask : ℕ) (g : Signalling) → AllHeeded g → AllHeeded (with_mask t mask g)
heeded_masked t mask g all =
    all_map (heeding g.actions) (heeding g.actions) (mask_if t mask) (λ th its.
    cond_both (is_of t th) (record th { mask = mask }) th (heeding g.actions) (λ own. its) (λ other. its)) g.threads all

pub heeded_pending : (t s : ℕ) (g : Signalling) → is_ignored s (action_of s g) ≡ false → AllHeeded g → AllHeeded (with_pending t s g)
heeded_pending t s g heeded all =
    all_map (heeding g.actions) (heeding g.actions) (post_if t s) (λ th its.
    cond_both (is_of t th) (record th { pending = joined th.pending (only s) }) th (heeding g.actions)
    (λ own. more_heeded g.actions th.pending s heeded its) (λ other. its)) g.threads all

pub heeded_faulted : (t : ℕ) (f : Fault) (g : Signalling) → is_ignored f.signal (action_of f.signal g) ≡ false → AllHeeded g → AllHeeded (with_fault t f g)
heeded_faulted t f g heeded all =
    all_map (heeding g.actions) (heeding g.actions) (fault_if t f) (λ th its.
    cond_both (is_of t th) (record th { pending = joined th.pending (only f.signal); fault = Some f }) th (heeding g.actions)
    (λ own. more_heeded g.actions th.pending f.signal heeded its) (λ other. its)) g.threads all

pub heeded_posted : (t s : ℕ) (g : Signalling) → AllHeeded g → AllHeeded (posted t s g)
heeded_posted t s g all =
    cond_both (is_ignored s (action_of s g)) g (with_pending t s g) AllHeeded (λ ignored. all) (λ heeded. heeded_pending t s g heeded all)

pub heeded_taken : (t s : ℕ) (g : Signalling) → AllHeeded g → AllHeeded (without_pending t s g)
heeded_taken t s g all =
    all_map (heeding g.actions) (heeding g.actions) (take_if t s) (λ th its.
    cond_both (is_of t th) (without_signal s th) th (heeding g.actions) (λ own u from below has. its u from below (less_before th.pending s u has)) (λ other. its)) g.threads all

heeded_dropped : (s : ℕ) (new : Action) (g : Signalling) → AllHeeded g → AllHeeded (dropped s (set_action s new g))
heeded_dropped s new g all =
    all_map (heeding g.actions) (heeding (set g.actions (s - 1) new)) (without_signal s) (λ th its. other_heeded g.actions th.pending s new its) g.threads all

heeded_with : (s : ℕ) (new : Action) (g : Signalling) → ((p : ℕ) → Heeds g.actions p → Heeds (set g.actions (s - 1) new) p)
    → AllHeeded g → AllHeeded (set_action s new g)
heeded_with s new g each all = stay g.threads all
  where
    stay : (xs : List ThreadSignals) → AllByRecursion (heeding g.actions) xs → AllByRecursion (heeding (set g.actions (s - 1) new)) xs
    stay [] its = tt
    stay (x ∷ xs) its = (each x.pending its.0, stay xs its.1)

-- a new action that ignores its signal drops it; one that is set past the last changes nothing
acted_by : (s : ℕ) (new : Action) (g : Signalling) (b : Bool) → is_ignored s new ≡ b → AllHeeded g
    → AllHeeded (cond b (dropped s (set_action s new g)) (set_action s new g))
acted_by s new g true is all = heeded_dropped s new g all
acted_by s new g false is all = elim (set_or g.actions (s - 1) new default_action) [
  | inl its ↦ heeded_with s new g (λ p before. new_heeded g.actions p s new (inl (ap (is_ignored s) its ∙ is)) before) all
  | inr as_was ↦ heeded_with s new g (λ p before. new_heeded g.actions p s new (inr as_was) before) all
]

pub heeded_acted : (s : ℕ) (new : Option Action) (g : Signalling) → AllHeeded g → AllHeeded (acted s new g)
heeded_acted s None g all = all
heeded_acted s (Some new) g all = acted_by s new g (is_ignored s new) refl all

pub heeded_returned : (t : ℕ) (words : Option (List ℕ)) (g : Signalling) → AllHeeded g → AllHeeded (returned t words g)
heeded_returned t None g all = all
heeded_returned t (Some words) g all = heeded_masked t (restored_mask words) g all

-- a handler is entered: an action that becomes the default and ignores its signal drops it
handled_by : (s : ℕ) (new : Action) (g : Signalling) (b : Bool) → is_ignored s (action_of s (set_action s new g)) ≡ b → AllHeeded g
    → AllHeeded (cond b (dropped s (set_action s new g)) (set_action s new g))
handled_by s new g true is all = heeded_dropped s new g all
handled_by s new g false is all = heeded_with s new g (λ p before. new_heeded g.actions p s new (inl is) before) all

pub heeded_handled : (t s : ℕ) (g : Signalling) → AllHeeded g → AllHeeded (signals_handled t s g)
heeded_handled t s g all =
    let a = action_of s g in
    let mask = handler_mask s a (mask_of t g) in
    let quiet = with_mask t mask g in
    handled_by s (entered_action a) quiet (is_ignored s (action_of s (set_action s (entered_action a) quiet))) refl (heeded_masked t mask g all)

-- a handler isn't one of the two that ignore
not_either : (b c d : Bool) → not (b || c) ≡ true → (c || (b && d)) ≡ false
not_either false false d is = refl
not_either b c d is = cc

pub handler_heeds : (s : ℕ) (a : Action) → is_handler a ≡ true → is_ignored s a ≡ false
handler_heeds s a is = not_either (eqb a.at SIG_DFL) (eqb a.at SIG_IGN) _ is

-- WHAT IT SAYS

found_heeds : (actions : List Action) (t : ℕ) (xs : List ThreadSignals) → AllByRecursion (heeding actions) xs
    → Heeds actions (option_map_or (λ (th : ThreadSignals). th.pending) (find (is_of t) xs) 0)
found_heeds actions t [] all = none_heeded actions
found_heeds actions t (x ∷ xs) all =
    cond_both (is_of t x) (Some x) (find (is_of t) xs)
    (λ (o : Option ThreadSignals). Heeds actions (option_map_or (λ (th : ThreadSignals). th.pending) o 0))
    (λ own. all.0) (λ other. found_heeds actions t xs all.1)

pub pending_heeded : (t : ℕ) (g : Signalling) → AllHeeded g → Heeds g.actions (pending_of t g)
pending_heeded t g all = found_heeds g.actions t g.threads all
