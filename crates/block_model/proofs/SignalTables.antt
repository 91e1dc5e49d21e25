-- What steps of signals keep, and events that change only signals of the record.
use Rattle.block_model.proofs.Common.{◌≡◌, ◌≢◌, ℕ, refl, ap, cond, ◌-◌, ◌<◌, ◌^◌, Bool, true, false, List, [], ◌∷◌, map, get_or, set, replicate, Option, Some, None, zero, suc, ◌∙◌, subst, arith, Action, AllByRecursion, Here, Kernel, Outcome, SIG_DFL, Saved, Signalling, ThreadSignals, acted, action_of, default_action, dropped, entered_action, file_among, files_interrupted, handler_mask, is_ignored, joined, map_stays, mask_if, mask_of, ne_eqb, only, post_if, posted, restored_mask, set_action, signalled, signals_handled, start_signalling, take_if, with_mask, with_pending, without_pending, without_signal}
use Rattle.mach_types.specs.declared.sequences.Outcome.TheVariants as comes_to
use Rattle.mach_types.specs.Kernel.SignalFrames.{entered, has_flag, returned}
use Rattle.mach_types.specs.Kernel.Signals.{fault_if, is_of, with_fault}
use Rattle.mach_types.specs.declared.signal_words.Fault.{Fault}
use Rattle.mach_types.specs.declared.signals.TheConstants.{LAST_SIGNAL, SA_RESETHAND}

-- of the record only the signals change
abbrev pub OnlySignals : Kernel → Kernel → Type 0
OnlySignals before after = after ≡ signalled after.signals before

-- the file that an interruption sets is that of its thread
pub interrupted_file : (here : Here) (t u : ℕ) (o : Outcome) (f : Saved) → t ≢ u → file_among (files_interrupted here t o) u f ≡ f
interrupted_file here t u (comes_to.Aborted at) f other = ap (λ b. cond b (record (here.file t) { pc = at }) f) (ne_eqb t u other)
interrupted_file here t u outcome f other = refl

-- WHOSE SIGNALS ARE KEPT

-- the threads of which a mask and pending signals are kept
abbrev pub of_threads : Signalling → List ℕ
of_threads g = map (λ th. th.tid) g.threads

-- they stay the same, in the same order
abbrev pub KeepsThreads : Signalling → Signalling → Type 0
KeepsThreads before after = of_threads after ≡ of_threads before

-- a change of one thread's signals keeps its number
one_changed : (t : ℕ) (f : ThreadSignals → ThreadSignals) → ((th : ThreadSignals) → (f th).tid ≡ th.tid) → (th : ThreadSignals)
    → (cond (is_of t th) (f th) th).tid ≡ th.tid
one_changed t f keeps th = elim (is_of t th) as (λ b. (cond b (f th) th).tid ≡ th.tid) [ true ↦ keeps th | false ↦ refl ]

changed : (f : ThreadSignals → ThreadSignals) → ((th : ThreadSignals) → (f th).tid ≡ th.tid) → (g : Signalling)
    → KeepsThreads g (record g { threads = map f g.threads })
changed f keeps g = map_stays (λ (th : ThreadSignals). th.tid) f keeps g.threads

pub masked_keeps : (t mask : ℕ) (g : Signalling) → KeepsThreads g (with_mask t mask g)
masked_keeps t mask g = changed (mask_if t mask) (one_changed t (λ th. record th { mask = mask }) (λ th. refl)) g

pub pending_keeps : (t s : ℕ) (g : Signalling) → KeepsThreads g (with_pending t s g)
pending_keeps t s g = changed (post_if t s) (one_changed t (λ th. record th { pending = joined th.pending (only s) }) (λ th. refl)) g

pub fault_keeps : (t : ℕ) (f : Fault) (g : Signalling) → KeepsThreads g (with_fault t f g)
fault_keeps t f g = changed (fault_if t f) (one_changed t (λ th. record th { pending = joined th.pending (only f.signal); fault = Some f }) (λ th. refl)) g

pub taken_keeps : (t s : ℕ) (g : Signalling) → KeepsThreads g (without_pending t s g)
taken_keeps t s g = changed (take_if t s) (one_changed t (without_signal s) (λ th. refl)) g

dropped_keeps : (s : ℕ) (g : Signalling) → KeepsThreads g (dropped s g)
dropped_keeps s g = changed (without_signal s) (λ th. refl) g

-- one of two steps, by a test
either_keeps : (b : Bool) (before x y : Signalling) → KeepsThreads before x → KeepsThreads before y → KeepsThreads before (cond b x y)
either_keeps true before x y p q = p
either_keeps false before x y p q = q

pub posted_keeps : (t s : ℕ) (g : Signalling) → KeepsThreads g (posted t s g)
posted_keeps t s g = either_keeps (is_ignored s (action_of s g)) g g (with_pending t s g) refl (pending_keeps t s g)

pub acted_keeps : (s : ℕ) (new : Option Action) (g : Signalling) → KeepsThreads g (acted s new g)
acted_keeps s None g = refl
acted_keeps s (Some new) g =
    let after = set_action s new g in
    either_keeps (is_ignored s new) g (dropped s after) after (dropped_keeps s after) refl

pub returned_keeps : (t : ℕ) (words : Option (List ℕ)) (g : Signalling) → KeepsThreads g (returned t words g)
returned_keeps t None g = refl
returned_keeps t (Some words) g = masked_keeps t (restored_mask words) g

-- the signals once a handler was entered
pub handled_keeps : (t s : ℕ) (g : Signalling) → KeepsThreads g (signals_handled t s g)
handled_keeps t s g =
    let after = entered t s g in
    let keeps : KeepsThreads g after = masked_keeps t (handler_mask s (action_of s g) (mask_of t g)) g in
    either_keeps (is_ignored s (action_of s after)) g (dropped s after) after (dropped_keeps s after ∙ keeps) keeps

-- WHERE HANDLERS ARE

-- an action whose handler lies below 2^64
abbrev pub StandsAt : Action → Type 0
StandsAt a = a.at < 2 ^ 64

abbrev pub HandlersStand : Signalling → Type 0
HandlersStand g = AllByRecursion StandsAt g.actions

default_stands : StandsAt default_action
default_stands = omega arith

all_default : (n : ℕ) → AllByRecursion StandsAt (replicate n default_action)
all_default zero = tt
all_default (suc n) = (default_stands, all_default n)

pub start_stand : HandlersStand start_signalling
start_stand = all_default LAST_SIGNAL

-- the actions stay
pub same_stand : (before after : Signalling) → before.actions ≡ after.actions → HandlersStand before → HandlersStand after
same_stand before after same stand = subst (AllByRecursion StandsAt) same stand

all_set : (actions : List Action) (n : ℕ) (new : Action) → StandsAt new → AllByRecursion StandsAt actions
    → AllByRecursion StandsAt (set actions n new)
all_set [] n new stands all = tt
all_set (a ∷ actions) zero new stands all = (stands, all.1)
all_set (a ∷ actions) (suc n) new stands all = (all.0, all_set actions n new stands all.1)

action_in : (actions : List Action) (n : ℕ) → AllByRecursion StandsAt actions → StandsAt (get_or actions n default_action)
action_in [] n all = default_stands
action_in (a ∷ actions) zero all = all.0
action_in (a ∷ actions) (suc n) all = action_in actions n all.1

pub action_stands : (s : ℕ) (g : Signalling) → HandlersStand g → StandsAt (action_of s g)
action_stands s g stand = action_in g.actions (s - 1) stand

set_stand : (s : ℕ) (new : Action) (g : Signalling) → StandsAt new → HandlersStand g → HandlersStand (set_action s new g)
set_stand s new g stands stand = all_set g.actions (s - 1) new stands stand

either_stand : (b : Bool) (x y : Signalling) → HandlersStand x → HandlersStand y → HandlersStand (cond b x y)
either_stand true x y p q = p
either_stand false x y p q = q

pub posted_stand : (t s : ℕ) (g : Signalling) → HandlersStand g → HandlersStand (posted t s g)
posted_stand t s g stand = either_stand (is_ignored s (action_of s g)) g (with_pending t s g) stand stand

pub acted_stand : (s : ℕ) (new : Option Action) (g : Signalling) → ((a : Action) → new ≡ Some a → StandsAt a) → HandlersStand g
    → HandlersStand (acted s new g)
acted_stand s None g stands stand = stand
acted_stand s (Some new) g stands stand =
    let after = set_stand s new g (stands new refl) stand in
    either_stand (is_ignored s new) (dropped s (set_action s new g)) (set_action s new g) after after

entered_stands : (b : Bool) (a : Action) → StandsAt a → StandsAt (cond b (record a { at = SIG_DFL }) a)
entered_stands true a stands = default_stands
entered_stands false a stands = stands

pub handled_stand : (t s : ℕ) (g : Signalling) → HandlersStand g → HandlersStand (signals_handled t s g)
handled_stand t s g stand =
    let a = action_of s g in
    let after = entered t s g in
    let stands = entered_stands (has_flag a.flags SA_RESETHAND) a (action_stands s g stand) in
    let all : HandlersStand after = set_stand s (entered_action a) (with_mask t (handler_mask s a (mask_of t g)) g) stands stand in
    either_stand (is_ignored s (action_of s after)) (dropped s after) after all all
