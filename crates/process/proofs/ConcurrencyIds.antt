-- The ids that the threads on harts hold: they stay theirs while other threads begin to run and leave, and the harts know which are
-- held.
use Rattle.process.proofs.Common.{◌≡◌, ◌≢◌, ℕ, zero, suc, ◌+◌, ◌*◌, ◌%◌, ◌^◌, ◌<◌, ◌≤◌, ◌&&◌, ◌||◌, List, [], ◌∷◌, find, filter, map, length, take, get_or, refl, sym, ap, ◌∙◌, arith, Bool, true, false, cond, eqb, Option, Some, None, is_some, list_any, option_map, option_map_or, fun_ext, take-length, list_any_more, slice_get-get_or, HartState, IsPlace, IsTables, IsTied, Parts, Plain, Setting, Stand, credit_of, hart_at, harts_that, here_in_plain, holds, id_on, thread, Scheduling, Threads, is_ready, is_ready_state, running_on, state_of, ThreadState, idle_hart, id_of, next_id, with_id, without_id, running_is, Fits, w8, times, held_ids, is_id_of, is_held_below, is_held_by, stand_taken}
use Rattle.mach_types.proofs.Laws.{eqb_other, eqb_same, filtered_other, found_at_end, harts_that-fits, not_at_end}
use Rattle.process.proofs.HartStates.{hart_there}

-- the ids of other threads stay
abbrev of_pair : Option (ℕ × ℕ) → ℕ
of_pair o = option_map_or (λ (pair : ℕ × ℕ). pair.1) o 0

pub id_without_other : (t u : ℕ) (ids : List (ℕ × ℕ)) → u ≢ t → id_of u (without_id t ids) ≡ id_of u ids
id_without_other t u ids other = ap of_pair (filtered_other (λ (pair : ℕ × ℕ). pair.0) t u other ids)

pub id_with_other : (t u : ℕ) (ids : List (ℕ × ℕ)) → u ≢ t → id_of u (with_id t ids) ≡ id_of u ids
id_with_other t u ids other = ap of_pair (not_at_end (is_id_of u) ids (t, next_id ids) (eqb_other t u other))

-- and who held none holds the next
none_from_times : (t : ℕ) (ids : List (ℕ × ℕ)) → times t (map (λ (pair : ℕ × ℕ). pair.0) ids) ≡ 0 → find (is_id_of t) ids ≡ None
none_from_times t [] is = refl
none_from_times t (x ∷ ids) is = go (eqb x.0 t) (none_from_times t ids) is
  where
    rest : List ℕ
    rest = filter (λ u. eqb u t) (map (λ (pair : ℕ × ℕ). pair.0) ids)

    go : (b : Bool) → (length rest ≡ 0 → find (is_id_of t) ids ≡ None) → length (cond b (x.0 ∷ rest) rest) ≡ 0 → cond b (Some x) (find (is_id_of t) ids) ≡ None
    go true none e = cc
    go false none e = none e

pub id_with_same : (t : ℕ) (ids : List (ℕ × ℕ)) → times t (map (λ (pair : ℕ × ℕ). pair.0) ids) ≡ 0 → id_of t (with_id t ids) ≡ next_id ids
id_with_same t ids none = ap of_pair (found_at_end (is_id_of t) ids (t, next_id ids) (none_from_times t ids none) (eqb_same t))

-- the threads of two harts are two
abbrev hart_of : Option ThreadState → ℕ
hart_of None = 0
hart_of (Some ThreadState.Ready) = 0
hart_of (Some (ThreadState.Running h)) = h.0
hart_of (Some (ThreadState.Waiting at)) = 0

pub others_apart : (harts h k t u : ℕ) (ts : Threads) (sc : Scheduling) → IsTables harts ts sc → running_on h ts ≡ Some t → running_on k ts ≡ Some u → k ≢ h → u ≢ t
others_apart harts h k t u ts sc tables at there ne same =
    ne (sym (ap hart_of (running_is harts k u ts sc tables there)) ∙ ap (λ n. hart_of (state_of n ts)) same ∙ ap hart_of (running_is harts h t ts sc tables at))

-- and a ready thread is neither
pub ready_apart : (harts k t u : ℕ) (ts : Threads) (sc : Scheduling) → IsTables harts ts sc → is_ready t ts ≡ true → running_on k ts ≡ Some u → u ≢ t
ready_apart harts k t u ts sc tables ready there same =
    let no : false ≡ true =
    sym (ap (λ o. option_map_or is_ready_state o false) (running_is harts k u ts sc tables there)) ∙ ap (λ n. is_ready n ts) same ∙ ready in
    absurd (cc)

-- which ids the harts know to be held
holds_is : (s : Setting) (p : Plain) (k id credit : ℕ) → holds id (hart_at s p k credit) ≡ is_held_by p.kernel.ids id (running_on k p.kernel.threads)
holds_is s p k id credit = go (running_on k p.kernel.threads)
  where
    go : (o : Option ℕ) → (is_some (option_map thread o) && eqb (id_on (here_in_plain s p k) o) id) ≡ is_held_by p.kernel.ids id o
    go None = refl
    go (Some t) = refl

first_hold : (s : Setting) (p : Plain) (m : Parts) (id : ℕ) (some : HartState) → IsTied s p m → (n : ℕ) → n ≤ length m.harts.items
    → list_any (holds id) (take n m.harts.items) ≡ is_held_below p.kernel.threads p.kernel.ids id n
first_hold s p m id some tied zero few = refl
first_hold s p m id some tied (suc n) few =
    let xs = m.harts.items in
    let lt : n < length xs = omega arith in
    let more : n + 1 ≡ suc n = omega arith in
    let at = hart_there s p m n (get_or xs n some) tied (omega (arith, tied.all_harts, lt)) (slice_get-get_or xs n some lt) in
    ap (λ k. list_any (holds id) (take k xs)) (sym more)
    ∙ list_any_more (holds id) xs n some lt
    ∙ ap (λ b. b || holds id (get_or xs n some)) (first_hold s p m id some tied n (omega arith))
    ∙ ap (λ b. is_held_below p.kernel.threads p.kernel.ids id n || b) (ap (holds id) at ∙ holds_is s p n id (credit_of xs n))

pub held_here : (v : Stand) (m : Parts) (h : ℕ) → IsPlace v m h
    → harts_that (λ id. list_any (holds id) m.harts.items) 8 ≡ held_ids v.plain.kernel.ids
held_here v m h place =
    ap (λ (test : ℕ → Bool). harts_that test 8) (fun_ext (λ id.
    ap (list_any (holds id)) (sym (take-length m.harts.items))
    ∙ first_hold v.setting v.plain m id idle_hart place.tied (length m.harts.items) (omega arith)
    ∙ ap (is_held_below v.plain.kernel.threads v.plain.kernel.ids id) place.tied.all_harts
    ∙ sym (stand_taken v id place.stands place.limits.eight_harts)))

-- a set of the smaller ids has room for one more
pub one_more_fits : (test : ℕ → Bool) (n set : ℕ) → n < 8 → set ≡ harts_that test n → Fits w8 (set + 1 * 2 ^ n % 256)
one_more_fits test zero set lt is = let below = harts_that-fits test 0 in omega (arith, below, is)
one_more_fits test (suc zero) set lt is = let below = harts_that-fits test 1 in omega (arith, below, is)
one_more_fits test (suc (suc zero)) set lt is = let below = harts_that-fits test 2 in omega (arith, below, is)
one_more_fits test (suc (suc (suc zero))) set lt is = let below = harts_that-fits test 3 in omega (arith, below, is)
one_more_fits test (suc (suc (suc (suc zero)))) set lt is = let below = harts_that-fits test 4 in omega (arith, below, is)
one_more_fits test (suc (suc (suc (suc (suc zero))))) set lt is = let below = harts_that-fits test 5 in omega (arith, below, is)
one_more_fits test (suc (suc (suc (suc (suc (suc zero)))))) set lt is = let below = harts_that-fits test 6 in omega (arith, below, is)
one_more_fits test (suc (suc (suc (suc (suc (suc (suc zero))))))) set lt is = let below = harts_that-fits test 7 in omega (arith, below, is)
one_more_fits test (suc (suc (suc (suc (suc (suc (suc (suc n)))))))) set lt is = absurd (omega (arith, lt))
