-- What holds of the signals of a process is kept by each step.
use Rattle.std.proofs.Common.{◌≡◌, ℕ, ◌-◌, ◌<◌, Bool, true, false, not, cond, List, [], ◌∷◌, ◌++◌, map, find, length, Option, Some, None, eqb, refl, sym, ◌∙◌, subst, arith, length-append}
use Rattle.std.specs.Cmp.{nat_eq_equiv}
use Rattle.std.specs.List.{AllByRecursion, IsDistinct}
use Rattle.std.specs.Option.{option_map_or}
use Rattle.std.proofs.lemmas.List.{length-map, map-append}
use Rattle.std.proofs.lemmas.List.Sums.{length-filter, count_by-le-length}
use Rattle.std.proofs.lemmas.Map.Keys.{IsDistinct-push}
use Rattle.std.proofs.lemmas.List.{length-set}
use Rattle.mach_types.proofs.Laws.{map_filters, map_stays}
use Rattle.mach_types.specs.Kernel.SignalFrames.{entered, entered_action, handler_mask, restored_mask, returned}
use Rattle.mach_types.specs.Kernel.Signals.{Signalling, acted, action_of, changed_mask, dropped, forget, is_held, is_ignored, is_of, joined, mask_of, new_thread, only, posted, set_action, start_signalling, with_action, with_fault, with_mask, with_pending, with_thread, without_pending, without_signal}
use Rattle.mach_types.specs.declared.signal_words.Action.{Action}
use Rattle.mach_types.specs.declared.signal_words.Fault.{Fault}
use Rattle.mach_types.specs.declared.signal_words.ThreadSignals.{ThreadSignals}
use Rattle.mach_types.proofs.Laws.{AllByRecursion-filter, AllByRecursion-map, AllByRecursion-push, IsDistinct-filter, IsDistinct-one}
use Rattle.signals.proofs.Lists.{numbers_turned}
use Rattle.signals.proofs.Masks.{maskable-is_mask}
use Rattle.signals.specs.Holding.{IsMask, IsSignalling, held}

abbrev has_mask : ThreadSignals → Type 0
has_mask th = IsMask th.mask

pub start_signalling-holds : IsSignalling start_signalling
start_signalling-holds = record {
  actions = refl;
  held_once = IsDistinct-one 1;
  room = omega arith;
  masks = ((refl, refl), tt);
}

-- a thread's mask is one
pub mask_of-is_mask : (t : ℕ) (g : Signalling) → IsSignalling g → IsMask (mask_of t g)
mask_of-is_mask t g whole = go g.threads whole.masks
  where
    go : (threads : List ThreadSignals) → AllByRecursion has_mask threads → IsMask (option_map_or (λ th. th.mask) (find (is_of t) threads) 0)
    go [] each = (refl, refl)
    go (th ∷ ths) each =
        let rest = go ths each.1 in
        elim (is_of t th) as (λ b. IsMask (option_map_or (λ u. u.mask) (cond b (Some th) (find (is_of t) ths)) 0)) [ true ↦ each.0 | false ↦ rest ]

pub entry-holds : (t mask : ℕ) (g : Signalling) → IsSignalling g → IsMask mask → is_held t g ≡ false → length g.threads < 64
    → IsSignalling (record g { threads = g.threads ++ new_thread t mask ∷ [] })
entry-holds t mask g whole is_mask not_held room =
    let one : List ThreadSignals = new_thread t mask ∷ [] in
    record {
      actions = whole.actions;
      held_once = subst (IsDistinct eqb) (sym (map-append (λ (th : ThreadSignals). th.tid) g.threads one))
          (IsDistinct-push nat_eq_equiv (held g) t whole.held_once (numbers_turned t g.threads ∙ not_held));
      room = omega (arith, length-append g.threads one);
      masks = AllByRecursion-push has_mask g.threads (new_thread t mask) whole.masks is_mask;
    }

pub with_thread-holds : (parent t : ℕ) (g : Signalling) → IsSignalling g → is_held t g ≡ false → length g.threads < 64 → IsSignalling (with_thread parent t g)
with_thread-holds parent t g whole not_held room = entry-holds t (mask_of parent g) g whole (mask_of-is_mask parent g whole) not_held room

pub forget-holds : (t : ℕ) (g : Signalling) → IsSignalling g → IsSignalling (forget t g)
forget-holds t g whole =
    let other : ThreadSignals → Bool = λ th. not (is_of t th) in
    record {
      actions = whole.actions;
      held_once = subst (IsDistinct eqb) (sym (map_filters (λ (th : ThreadSignals). th.tid) (λ u. not (eqb u t)) g.threads))
          (IsDistinct-filter eqb (λ u. not (eqb u t)) (held g) whole.held_once);
      room = omega (arith, whole.room, length-filter other g.threads, count_by-le-length other g.threads);
      masks = AllByRecursion-filter has_mask other g.threads whole.masks;
    }

-- a change of each entry that keeps its number, and leaves it a mask
changed : (f : ThreadSignals → ThreadSignals) → ((th : ThreadSignals) → (f th).tid ≡ th.tid) → ((th : ThreadSignals) → has_mask th → has_mask (f th))
    → (g : Signalling) → IsSignalling g → IsSignalling (record g { threads = map f g.threads })
changed f keeps fits g whole = record {
  actions = whole.actions;
  held_once = subst (IsDistinct eqb) (sym (map_stays (λ (th : ThreadSignals). th.tid) f keeps g.threads)) whole.held_once;
  room = omega (arith, whole.room, length-map g.threads f);
  masks = AllByRecursion-map has_mask f fits g.threads whole.masks;
}

-- the same where one thread's entry is changed
one_changed : (t : ℕ) (f : ThreadSignals → ThreadSignals) → ((th : ThreadSignals) → (f th).tid ≡ th.tid) → ((th : ThreadSignals) → has_mask th → has_mask (f th))
    → (g : Signalling) → IsSignalling g → IsSignalling (record g { threads = map (λ th. cond (is_of t th) (f th) th) g.threads })
one_changed t f keeps fits g whole =
    changed (λ th. cond (is_of t th) (f th) th)
    (λ th. elim (is_of t th) as (λ b. (cond b (f th) th).tid ≡ th.tid) [ true ↦ keeps th | false ↦ refl ])
    (λ th had. elim (is_of t th) as (λ b. has_mask (cond b (f th) th)) [ true ↦ fits th had | false ↦ had ])
    g whole

pub with_mask-holds : (t mask : ℕ) (g : Signalling) → IsSignalling g → IsMask mask → IsSignalling (with_mask t mask g)
with_mask-holds t mask g whole is_mask = one_changed t (λ th. record th { mask = mask }) (λ th. refl) (λ th had. is_mask) g whole

pub mask-holds : (t how signals : ℕ) (g : Signalling) → IsSignalling g → IsSignalling (with_mask t (changed_mask how signals (mask_of t g)) g)
mask-holds t how signals g whole = with_mask-holds t (changed_mask how signals (mask_of t g)) g whole (maskable-is_mask _)

pub with_pending-holds : (t s : ℕ) (g : Signalling) → IsSignalling g → IsSignalling (with_pending t s g)
with_pending-holds t s g whole = one_changed t (λ th. record th { pending = joined th.pending (only s) }) (λ th. refl) (λ th had. had) g whole

pub with_fault-holds : (t : ℕ) (f : Fault) (g : Signalling) → IsSignalling g → IsSignalling (with_fault t f g)
with_fault-holds t f g whole =
    one_changed t (λ th. record th { pending = joined th.pending (only f.signal); fault = Some f }) (λ th. refl) (λ th had. had) g whole

pub posted-holds : (t s : ℕ) (g : Signalling) → IsSignalling g → IsSignalling (posted t s g)
posted-holds t s g whole =
    elim (is_ignored s (action_of s g)) as (λ b. IsSignalling (cond b g (with_pending t s g))) [ true ↦ whole | false ↦ with_pending-holds t s g whole ]

pub without_pending-holds : (t s : ℕ) (g : Signalling) → IsSignalling g → IsSignalling (without_pending t s g)
without_pending-holds t s g whole = one_changed t (without_signal s) (λ th. refl) (λ th had. had) g whole

pub dropped-holds : (s : ℕ) (g : Signalling) → IsSignalling g → IsSignalling (dropped s g)
dropped-holds s g whole = changed (without_signal s) (λ th. refl) (λ th had. had) g whole

pub set_action-holds : (s : ℕ) (new : Action) (g : Signalling) → IsSignalling g → IsSignalling (set_action s new g)
set_action-holds s new g whole = record {
  actions = length-set g.actions (s - 1) new ∙ whole.actions;
  held_once = whole.held_once;
  room = whole.room;
  masks = whole.masks;
}

with_action-holds : (s : ℕ) (new : Action) (g : Signalling) → IsSignalling g → IsSignalling (with_action s new g)
with_action-holds s new g whole =
    let later = set_action-holds s new g whole in
    elim (is_ignored s new) as (λ b. IsSignalling (cond b (dropped s (set_action s new g)) (set_action s new g))) [ true ↦ dropped-holds s (set_action s new g) later | false ↦ later ]

pub acted-holds : (s : ℕ) (new : Option Action) (g : Signalling) → IsSignalling g → IsSignalling (acted s new g)
acted-holds s None g whole = whole
acted-holds s (Some new) g whole = with_action-holds s new g whole

pub entered-holds : (t s : ℕ) (g : Signalling) → IsSignalling g → IsSignalling (entered t s g)
entered-holds t s g whole =
    let a = action_of s g in
    let mask = handler_mask s a (mask_of t g) in
    set_action-holds s (entered_action a) (with_mask t mask g) (with_mask-holds t mask g whole (maskable-is_mask _))

pub returned-holds : (t : ℕ) (words : Option (List ℕ)) (g : Signalling) → IsSignalling g → IsSignalling (returned t words g)
returned-holds t None g whole = whole
returned-holds t (Some words) g whole = with_mask-holds t (restored_mask words) g whole (maskable-is_mask _)
