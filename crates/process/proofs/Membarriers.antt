-- Barriers on harts: which harts run threads, and the harts beside one that asks, or that takes its requests.
use Rattle.process.proofs.Common.{◌≡◌, ◌≢◌, ℕ, zero, suc, ◌+◌, ◌-◌, ◌<◌, ◌≤◌, ◌^◌, List, set, refl, sym, ap, ◌∙◌, arith, Bool, true, false, cond, eqb, eq-eqb, ◌||◌, Option, Some, None, is_some, slice_get, ne_eqb, option_map, option_map_or, slice_get_past, HartState, Here, IsPlace, IsTied, Parts, Plain, Setting, Stand, asked_by, by_call, harts_that, is_busy, lost_unless, running_on, thread, CallDone, running_harts, with_hart, has_hart, add-zero}
use Rattle.process.proofs.Events.{AreBeside, mapped_is}
use Rattle.process.proofs.HartStates.{beside_unless, get_set_other, get_set_same, of_each}

-- two tests that agree on the first so many harts give one set
same_harts : (f g : ℕ → Bool) (n : ℕ) → ((k : ℕ) → k < n → f k ≡ g k) → harts_that f n ≡ harts_that g n
same_harts f g zero same = refl
same_harts f g (suc n) same =
    let rest = same_harts f g n (λ k lt. same k (omega (arith, lt))) in
    let last = same n (omega arith) in
    rw (rest, last) refl

-- the harts that run threads are those on which the plain machine's threads run
past_all : (f : ℕ → Bool) (n d : ℕ) → ((k : ℕ) → n ≤ k → f k ≡ false) → harts_that f (n + d) ≡ harts_that f n
past_all f n zero none = ap (harts_that f) (add-zero n)
past_all f n (suc d) none =
    let next : n + suc d ≡ suc (n + d) = omega arith in
    let last = none (n + d) (omega arith) in
    ap (harts_that f) next ∙ ap (λ b. harts_that f (n + d) + cond b (2 ^ (n + d)) 0) last ∙ add-zero (harts_that f (n + d)) ∙ past_all f n d none

pub running_tied : (s : Setting) (p : Plain) (m : Parts) → IsTied s p m → s.limits.harts ≤ 8
    → harts_that (is_busy m.harts.items) 8 ≡ running_harts p.kernel.threads s.limits.harts
running_tied s p m tied few =
    let n = s.limits.harts in
    let eight : n + (8 - n) ≡ 8 = omega (arith, few) in
    ap (harts_that (is_busy m.harts.items)) (sym eight)
    ∙ past_all (is_busy m.harts.items) n (8 - n)
    (λ k past. ap (λ o. option_map_or (λ (x : HartState). is_some x.running) o false) (slice_get_past m.harts.items k (omega (arith, tied.all_harts, past))))
    ∙ same_harts (is_busy m.harts.items) (λ k. is_some (running_on k p.kernel.threads)) n
    (λ k lt. ap (λ o. option_map_or (λ (x : HartState). is_some x.running) o false) (tied.harts k lt) ∙ mapped_is thread (running_on k p.kernel.threads))

pub running_here : (v : Stand) (m : Parts) (h : ℕ) → IsPlace v m h
    → harts_that (is_busy m.harts.items) 8 ≡ running_harts v.plain.kernel.threads v.setting.limits.harts
running_here v m h place = running_tied v.setting v.plain m place.tied place.limits.eight_harts

-- a call: the others lost what it wrote, and each hart that its barrier is about was asked
asked_beside : (here : Here) (h k : ℕ) (c : CallDone) (x : HartState) → k ≢ h
    → asked_by k h c.barrier (lost_unless false c.entered x) ≡ beside_unless false k h (by_call here c) x
asked_beside here h k c x ne = rw (ne_eqb h k (λ e. ne (sym e))) refl

pub call_beside : (here : Here) (h : ℕ) (c : CallDone) (xs ys : List HartState) (x y : HartState) → slice_get xs h ≡ Some x
    → ((k : ℕ) → slice_get ys k ≡ option_map (asked_by k h c.barrier) (option_map (lost_unless (eqb k h) c.entered) (slice_get (set xs h y) k)))
    → AreBeside h (by_call here c) (set xs h (asked_by h h c.barrier y)) ys
call_beside here h c xs ys x y at is k = is k ∙ of_each
    (λ j. option_map (asked_by j h c.barrier) (option_map (lost_unless (eqb j h) c.entered) (slice_get (set xs h y) j))
    ≡ option_map (beside_unless (eqb j h) j h (by_call here c)) (slice_get (set xs h (asked_by h h c.barrier y)) j)) h k own
    (λ ne.
    ap (λ b. option_map (asked_by k h c.barrier) (option_map (lost_unless b c.entered) (slice_get (set xs h y) k))) (ne_eqb k h ne)
    ∙ ap (λ o. option_map (asked_by k h c.barrier) (option_map (lost_unless false c.entered) o)) (get_set_other xs h k y ne)
    ∙ other ne (slice_get xs k)
    ∙ ap (option_map (beside_unless false k h (by_call here c))) (sym (get_set_other xs h k (asked_by h h c.barrier y) ne))
    ∙ ap (λ b. option_map (beside_unless b k h (by_call here c)) (slice_get (set xs h (asked_by h h c.barrier y)) k)) (sym (ne_eqb k h ne)))
  where
    own : option_map (asked_by h h c.barrier) (option_map (lost_unless (eqb h h) c.entered) (slice_get (set xs h y) h))
        ≡ option_map (beside_unless (eqb h h) h h (by_call here c)) (slice_get (set xs h (asked_by h h c.barrier y)) h)
    own = rw (eq-eqb h h refl, get_set_same xs h x y at, get_set_same xs h x (asked_by h h c.barrier y) at) refl

    other : k ≢ h → (o : Option HartState) → option_map (asked_by k h c.barrier) (option_map (lost_unless false c.entered) o) ≡ option_map (beside_unless false k h (by_call here c)) o
    other ne None = refl
    other ne (Some z) = ap Some (asked_beside here h k c z ne)

-- the hart of a place is one of 8
pub eighth : (v : Stand) (m : Parts) (h : ℕ) → IsPlace v m h → h < 8
eighth v m h place = let lt = place.lt in let few = place.limits.eight_harts in omega (arith, lt, few)

-- a hart that is asked, or isn't
pub asked_one : (k h targets : ℕ) (restart b : Bool) (x : HartState) → b ≡ has_hart targets k
    → cond b (record x { requests = with_hart h x.requests; restart = restart || x.restart }) x ≡ asked_by k h (Some (record { targets = targets; restart = restart })) x
asked_one k h targets restart true x is = rw (← is) refl
asked_one k h targets restart false x is = rw (← is) refl
