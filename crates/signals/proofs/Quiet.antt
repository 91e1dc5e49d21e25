-- Where nothing is pending for any thread, no signal comes to one.
use Rattle.std.proofs.Common.{◌≡◌, ℕ, ◌%◌, ◌==◌, eqb, Bool, true, false, not, ◌&&◌, ◌||◌, if◌then◌else◌, cond, List, [], ◌∷◌, ◌++◌, find, Some, None, zero, suc, refl, ap, ◌∙◌, sym, arith}
use Rattle.std.proofs.lemmas.Bool.{false≢true}
use Rattle.std.proofs.lemmas.Bool.Decides.{nat_tests}
use Rattle.std.proofs.Math.Nat.{zero-div}
use Rattle.std.specs.List.{list_any}
use Rattle.std.specs.Option.{option_map_or}
use Rattle.mach_types.specs.Kernel.Signals.{Signalling, all_signals, has_signal, is_deliverable, is_of, mask_if, mask_of, new_thread, next_for, only, pending_of, with_mask}
use Rattle.mach_types.specs.declared.signal_words.Action.{Action}
use Rattle.mach_types.specs.declared.signal_words.ThreadSignals.{ThreadSignals}
use Rattle.mach_types.proofs.Laws.{AllByRecursion-map, AllByRecursion-push}
use Rattle.signals.specs.Holding.{AreQuiet, IsKept, IsSignalling}

abbrev is_quiet : ThreadSignals → Type 0
is_quiet th = th.pending ≡ 0

-- a search that finds nothing
finds_nothing : (test : ℕ → Bool) → ((s : ℕ) → test s ≡ false) → (xs : List ℕ) → find test xs ≡ None
finds_nothing test none [] = refl
finds_nothing test none (x ∷ xs) = ap (λ b. cond b (Some x) (find test xs)) (none x) ∙ finds_nothing test none xs

pub nothing_pending : (t : ℕ) (threads : List ThreadSignals) → AreQuiet threads → option_map_or (λ th. th.pending) (find (is_of t) threads) 0 ≡ 0
nothing_pending t [] quiet = refl
nothing_pending t (th ∷ ths) quiet =
    let rest = nothing_pending t ths quiet.1 in
    elim (is_of t th) as (λ b. option_map_or (λ u. u.pending) (cond b (Some th) (find (is_of t) ths)) 0 ≡ 0) [ true ↦ quiet.0 | false ↦ rest ]

-- the set of no signals
nothing_has : (s : ℕ) → has_signal 0 s ≡ false
nothing_has s = ap (λ q. eqb (q % 2) 1) (zero-div (only s))

nothing_comes : (mask pending s : ℕ) → pending ≡ 0 → (has_signal pending s && not (has_signal mask s)) ≡ false
nothing_comes mask pending s e = ap (λ p. has_signal p s && not (has_signal mask s)) e ∙ ap (λ b. b && not (has_signal mask s)) (nothing_has s)

pub next_for-quiet : (t : ℕ) (g : Signalling) → AreQuiet g.threads → next_for t g ≡ None
next_for-quiet t g quiet = finds_nothing (is_deliverable t g) (λ s. nothing_comes (mask_of t g) (pending_of t g) s (nothing_pending t g.threads quiet)) all_signals

-- whether a signal is pending for any thread
abbrev pub any_pending : List ThreadSignals → Bool
any_pending threads = list_any (λ th. not (th.pending == 0)) threads

-- where none is found pending, nothing is
pub none_found : (threads : List ThreadSignals) → any_pending threads ≡ false → AreQuiet threads
none_found [] e = tt
none_found (th ∷ ths) e = go th.pending refl e (none_found ths)
  where
    go : (n : ℕ) → th.pending ≡ n → (not (n == 0) || any_pending ths) ≡ false → (any_pending ths ≡ false → AreQuiet ths)
        → is_quiet th × AreQuiet ths
    go zero here none rest = (here, rest none)
    go (suc n) here none rest =
        let is_some : eqb (suc n) 0 ≡ false = grind (arith, nat_tests) in
        absurd (false≢true (sym none ∙ ap (λ b. not b || any_pending ths) is_some))

-- WHAT A TABLE KEEPS

-- a step that makes something pending
pub kept_pending : (g : Signalling) → IsSignalling g → IsKept true g
kept_pending g whole = record { signalling = whole; quiet = λ e. absurd (false≢true (sym e)) }

-- a step after which it is asked anew whether something is pending
pub kept_anew : (b : Bool) (g : Signalling) → b ≡ any_pending g.threads → IsSignalling g → IsKept b g
kept_anew b g e whole = record { signalling = whole; quiet = λ none. none_found g.threads (sym e ∙ none) }

-- a step that changes what threads mask
pub kept_mask : (b : Bool) (t mask : ℕ) (actions : List Action) (g : Signalling) → IsKept b g → IsSignalling (record { actions = actions; threads = (with_mask t mask g).threads })
    → IsKept b (record { actions = actions; threads = (with_mask t mask g).threads })
kept_mask b t mask actions g kept whole = record {
  signalling = whole;
  quiet = λ none. AllByRecursion-map is_quiet (mask_if t mask) same g.threads (kept.quiet none);
}
  where
    same : (th : ThreadSignals) → is_quiet th → is_quiet (mask_if t mask th)
    same th quiet = elim (is_of t th) as (λ b. is_quiet (if b then record th { mask = mask } else th)) [ true ↦ quiet | false ↦ quiet ]

-- a step that changes actions
pub kept_actions : (b : Bool) (actions : List Action) (g : Signalling) → IsKept b g → IsSignalling (record g { actions = actions }) → IsKept b (record g { actions = actions })
kept_actions b actions g kept whole = record { signalling = whole; quiet = kept.quiet }

-- a step that holds one more thread
pub kept_entry : (b : Bool) (t mask : ℕ) (g : Signalling) → IsKept b g → IsSignalling (record g { threads = g.threads ++ new_thread t mask ∷ [] })
    → IsKept b (record g { threads = g.threads ++ new_thread t mask ∷ [] })
kept_entry b t mask g kept whole = record {
  signalling = whole;
  quiet = λ none. AllByRecursion-push is_quiet g.threads (new_thread t mask) (kept.quiet none) refl;
}
