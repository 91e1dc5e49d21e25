-- Each waiter has the address of its wait after each change of the threads.
use Rattle.std.proofs.Common.{ℕ, ◌+◌, ◌≡◌, ◌≢◌, ◌&&◌, Bool, true, false, not, cond, List, [], ◌∷◌, ◌++◌, filter, find, Some, eqb, refl, sym, ap, ◌∙◌}
use Rattle.std.specs.Option.{option_map}
use Rattle.std.proofs.lemmas.Bool.{false≢true}
use Rattle.std.proofs.lemmas.Bool.Decides.{Decides-eqb}
use Rattle.std.proofs.lemmas.List.{map_push}
use Rattle.mach_types.proofs.Laws.{is_waiting, map_filters, next_is_new, state_of-with_state_same, state_of-with_state_other, state_of-without_other, state_of-with_child_other, state_of-with_rows, KeepsRows}
use Rattle.mach_types.specs.Kernel.Threads.{Thread, Threads, IsThreads, state_of, is_waiting_at, with_state, with_rows, with_child, without, with_woken, with_waiter, no_waiter}
use Rattle.mach_types.specs.declared.events.Hart.{Hart}
use Rattle.mach_types.specs.declared.threads.ThreadState.{ThreadState}
use Rattle.mach_types.specs.declared.threads.ThreadState.TheVariants.{Ready, Running, Waiting}
use Rattle.kernel_threads.specs.Waits.{HaveAddresses, numbers_of, waits_at, is_waiter}
use Rattle.kernel_threads.specs.declared.waiters.Waiter.{Waiter}

-- the first waiter at an address that listens, read beside the numbers, is the one whose state says so
pub first_waits : (at : ℕ) (listens : ℕ → Bool) (ts : Threads) (ws : List Waiter) → HaveAddresses ts ws
    → option_map (λ (w : Waiter). w.number) (find (waits_at at listens) ws) ≡ find (λ t. is_waiting_at at (state_of t ts) && listens t) (numbers_of ws)
first_waits at listens ts [] each = refl
first_waits at listens ts (w ∷ ws) each =
    elim (waits_at at listens w)
    as (λ b. option_map (λ (v : Waiter). v.number) (cond b (Some w) (find (waits_at at listens) ws)) ≡ cond b (Some w.number) (find (λ t. is_waiting_at at (state_of t ts) && listens t) (numbers_of ws)))
    [ true ↦ refl | false ↦ first_waits at listens ts ws each.1 ]
    ∙ ap (λ o. cond (is_waiting_at at o && listens w.number) (Some w.number) (find (λ t. is_waiting_at at (state_of t ts) && listens t) (numbers_of ws))) (sym each.0)

-- a waiter that is taken out, by its number
pub numbers_without : (n : ℕ) (ws later : List Waiter) → later ≡ filter (λ w. not (is_waiter n w)) ws → numbers_of later ≡ no_waiter n (numbers_of ws)
numbers_without n ws later e = ap numbers_of e ∙ map_filters (λ (w : Waiter). w.number) (λ t. not (eqb t n)) ws

-- and one that comes
pub numbers_push : (n at : ℕ) (ws later : List Waiter) → later ≡ ws ++ record { number = n; at = at } ∷ [] → numbers_of later ≡ numbers_of ws ++ n ∷ []
numbers_push n at ws later e = ap numbers_of e ∙ map_push (λ (w : Waiter). w.number) ws (record { number = n; at = at })

module _ (ts later : Threads) (n : ℕ) (others : (u : ℕ) → u ≢ n → state_of u later ≡ state_of u ts) where
  -- where one thread that doesn't wait changes
  waiter_is_other : (w : Waiter) → is_waiting (state_of n ts) ≡ false → state_of w.number ts ≡ Some (Waiting w.at) → w.number ≢ n
  waiter_is_other w idle waits same = false≢true (sym idle ∙ ap (λ t. is_waiting (state_of t ts)) (sym same) ∙ ap is_waiting waits)

  addresses_stay : is_waiting (state_of n ts) ≡ false → (ws : List Waiter) → HaveAddresses ts ws → HaveAddresses later ws
  addresses_stay idle [] each = tt
  addresses_stay idle (w ∷ ws) each = (others w.number (waiter_is_other w idle each.0) ∙ each.0, addresses_stay idle ws each.1)

  -- where one thread changes that is no waiter any more
  addresses_of_others : (ws : List Waiter) → HaveAddresses ts ws → HaveAddresses later (filter (λ w. not (is_waiter n w)) ws)
  addresses_of_others [] each = tt
  addresses_of_others (w ∷ ws) each = go (is_waiter n w) refl (addresses_of_others ws each.1)
    where
      go : (b : Bool) → is_waiter n w ≡ b → HaveAddresses later (filter (λ v. not (is_waiter n v)) ws)
          → HaveAddresses later (cond (not b) (w ∷ filter (λ v. not (is_waiter n v)) ws) (filter (λ v. not (is_waiter n v)) ws))
      go true same rest = rest
      go false apart rest = (others w.number (λ e. false≢true (sym apart ∙ (Decides-eqb w.number n).1 e)) ∙ each.0, rest)

pub addresses_moved : (ts : Threads) (n : ℕ) (st : ThreadState) → is_waiting (state_of n ts) ≡ false → (ws : List Waiter) → HaveAddresses ts ws → HaveAddresses (with_state n st ts) ws
addresses_moved ts n st idle ws each = addresses_stay ts (with_state n st ts) n (λ u other. state_of-with_state_other n u other st ts) idle ws each

pub addresses_child : (ts : Threads) → IsThreads ts → (ws : List Waiter) → HaveAddresses ts ws → HaveAddresses (with_child ts) ws
addresses_child ts h ws each =
    addresses_stay ts (with_child ts) (ts.given + 1) (λ u other. state_of-with_child_other u ts other)
    (ap (λ o. is_waiting (option_map (λ th. th.state) o)) (next_is_new ts h)) ws each

pub addresses_kept : (ts : Threads) (g : Thread → Thread) → KeepsRows g → (ws : List Waiter) → HaveAddresses ts ws → HaveAddresses (with_rows g ts) ws
addresses_kept ts g keeps [] each = tt
addresses_kept ts g keeps (w ∷ ws) each = (state_of-with_rows g keeps w.number ts ∙ each.0, addresses_kept ts g keeps ws each.1)

pub addresses_ended : (ts : Threads) (n : ℕ) (ws : List Waiter) → HaveAddresses ts ws → HaveAddresses (without n ts) (filter (λ w. not (is_waiter n w)) ws)
addresses_ended ts n ws each = addresses_of_others ts (without n ts) n (λ u other. state_of-without_other n u other ts) ws each

pub addresses_woken : (ts : Threads) (n : ℕ) (ws : List Waiter) → HaveAddresses ts ws → HaveAddresses (with_woken n ts) (filter (λ w. not (is_waiter n w)) ws)
addresses_woken ts n ws each = addresses_of_others ts (with_woken n ts) n (λ u other. state_of-with_state_other n u other Ready ts) ws each

last_address : (ts : Threads) (w : Waiter) (ws : List Waiter) → HaveAddresses ts ws → state_of w.number ts ≡ Some (Waiting w.at) → HaveAddresses ts (ws ++ w ∷ [])
last_address ts w [] each last = (last, tt)
last_address ts w (v ∷ ws) each last = (each.0, last_address ts w ws each.1 last)

pub addresses_waiting : (ts : Threads) (n at : ℕ) (hart : Hart) → state_of n ts ≡ Some (Running hart) → (ws : List Waiter) → HaveAddresses ts ws
    → HaveAddresses (with_waiter n at ts) (ws ++ record { number = n; at = at } ∷ [])
addresses_waiting ts n at hart run ws each =
    last_address (with_waiter n at ts) (record { number = n; at = at }) ws
    (addresses_stay ts (with_waiter n at ts) n (λ u other. state_of-with_state_other n u other (Waiting at) ts) (ap is_waiting run) ws each)
    (state_of-with_state_same n (Waiting at) ts ∙ ap (option_map (λ old. Waiting at)) run)
