-- What holds of the ready list and the affinities is kept by each call.
use Rattle.std.proofs.Common.{◌≡◌, ℕ, ◌<◌, Bool, true, false, not, ◌||◌, cond, List, [], ◌∷◌, ◌++◌, map, filter, length, Some, eqb, refl, sym, ap, ◌∙◌, subst, arith, length-append}
use Rattle.std.specs.Cmp.{nat_eq_equiv}
use Rattle.std.specs.List.{AllByRecursion, IsDistinct, list_any}
use Rattle.std.specs.Map.{lookup}
use Rattle.std.specs.Option.{IsSome}
use Rattle.std.proofs.lemmas.Bool.{false≢true}
use Rattle.std.proofs.lemmas.Bool.Decides.{Decides-eqb, nat_tests}
use Rattle.std.proofs.lemmas.List.{map-append, length-map}
use Rattle.std.proofs.lemmas.List.Folds.{list_any-append}
use Rattle.std.proofs.lemmas.List.Sums.{length-filter, count_by-le-length}
use Rattle.std.proofs.lemmas.Map.Keys.{IsDistinct-push}
use Rattle.std.proofs.lemmas.Map.Made.{IsDistinct-keys_filter}
use Rattle.std.proofs.lemmas.Map.Steps.{length-le_from_keys}
use Rattle.mach_types.specs.Kernel.Scheduling.{Scheduling, is_of, set_if}
use Rattle.mach_types.proofs.Laws.{AllByRecursion-filter, AllByRecursion-push, AllByRecursion-weaker, IsDistinct-filter, IsDistinct-one}
use Rattle.scheduler.proofs.Lists.{at_member, neither}
use Rattle.scheduler.specs.Holding.{IsScheduling}

-- the two lists of a scheduling
abbrev pub lists : List ℕ → List (ℕ × ℕ) → Scheduling
lists order pairs = record { order = order; affinities = pairs }

-- a number is compared from either side
turned : (t : ℕ) (us : List ℕ) → list_any (eqb t) us ≡ list_any (λ u. eqb u t) us
turned t [] = refl
turned t (u ∷ us) =
    let first = nat_eq_equiv.symm t u in
    let rest = turned t us in
    cc

numbers_turned : (t : ℕ) (pairs : List (ℕ × ℕ)) → list_any (eqb t) (map (λ pair. pair.0) pairs) ≡ list_any (is_of t) pairs
numbers_turned t [] = refl
numbers_turned t (p ∷ ps) =
    let first = nat_eq_equiv.symm t p.0 in
    let rest = numbers_turned t ps in
    cc

other_number : (n t u : ℕ) → eqb n t ≡ true → eqb u t ≡ false → eqb n u ≡ false
other_number n t u same apart = grind (arith, nat_tests)

-- a thread that is held has an entry
has_entry : (t : ℕ) (pairs : List (ℕ × ℕ)) → list_any (is_of t) pairs ≡ true → IsSome (lookup (eqb t) pairs)
has_entry t [] e = absurd (false≢true e)
has_entry t (p ∷ ps) e = go (eqb t p.0) refl (has_entry t ps)
  where
    go : (b : Bool) → eqb t p.0 ≡ b → (list_any (is_of t) ps ≡ true → IsSome (lookup (eqb t) ps)) → IsSome (cond b (Some p.1) (lookup (eqb t) ps))
    go true same rest = refl
    go false same rest = rest (ap (λ b. b || list_any (is_of t) ps) (sym (nat_eq_equiv.symm p.0 t ∙ same)) ∙ e)

-- the start
pub kept_at_start : (order : List ℕ) (pairs : List (ℕ × ℕ)) (set : ℕ) → order ≡ 1 ∷ [] → pairs ≡ (1, set) ∷ [] → set < 256 → IsScheduling (lists order pairs)
kept_at_start order pairs set e f small =
    let start : IsScheduling (lists (1 ∷ []) ((1, set) ∷ [])) = record {
      held_once = IsDistinct-one 1;
      room = omega arith;
      sets = (small, tt);
      ready_once = IsDistinct-one 1;
      ready_are_held = (refl, tt);
    } in
    rw (e, f) start

-- a new thread
pub kept_by_thread : (order : List ℕ) (pairs later : List (ℕ × ℕ)) (t set : ℕ) → IsScheduling (lists order pairs) → later ≡ pairs ++ (t, set) ∷ []
    → list_any (is_of t) pairs ≡ false → length pairs < 64 → set < 256 → IsScheduling (lists order later)
kept_by_thread order pairs later t set s e not_held room small =
    let one : List (ℕ × ℕ) = (t, set) ∷ [] in
    let after : IsScheduling (lists order (pairs ++ one)) = record {
      held_once = subst (IsDistinct eqb) (sym (map-append (λ (pair : ℕ × ℕ). pair.0) pairs one))
          (IsDistinct-push nat_eq_equiv (map (λ (pair : ℕ × ℕ). pair.0) pairs) t s.held_once (numbers_turned t pairs ∙ not_held));
      room = omega (arith, length-append pairs one);
      sets = AllByRecursion-push (λ (pair : ℕ × ℕ). pair.1 < 256) pairs (t, set) s.sets small;
      ready_once = s.ready_once;
      ready_are_held = AllByRecursion-weaker (λ u. list_any (is_of u) pairs ≡ true) (λ u. list_any (is_of u) (pairs ++ one) ≡ true)
          (λ u held. list_any-append (is_of u) pairs one ∙ ap (λ b. b || list_any (is_of u) one) held) order s.ready_are_held;
    } in
    subst (λ (ps : List (ℕ × ℕ)). IsScheduling (lists order ps)) (sym e) after

-- a thread that is forgotten
others_held : (t u : ℕ) → eqb u t ≡ false → (pairs : List (ℕ × ℕ)) → list_any (is_of u) (filter (λ pair. not (is_of t pair)) pairs) ≡ list_any (is_of u) pairs
others_held t u apart [] = refl
others_held t u apart (p ∷ ps) = go (is_of t p) refl (others_held t u apart ps)
  where
    go : (b : Bool) → is_of t p ≡ b → list_any (is_of u) (filter (λ pair. not (is_of t pair)) ps) ≡ list_any (is_of u) ps
        → list_any (is_of u) (cond (not b) (p ∷ filter (λ pair. not (is_of t pair)) ps) (filter (λ pair. not (is_of t pair)) ps)) ≡ list_any (is_of u) (p ∷ ps)
    go true same rest = rest ∙ sym (ap (λ b. b || list_any (is_of u) ps) (other_number p.0 t u same apart))
    go false same rest = ap (λ b. is_of u p || b) rest

still_held : (t : ℕ) (pairs : List (ℕ × ℕ)) (us : List ℕ) → list_any (λ u. eqb u t) us ≡ false → AllByRecursion (λ u. list_any (is_of u) pairs ≡ true) us
    → AllByRecursion (λ u. list_any (is_of u) (filter (λ pair. not (is_of t pair)) pairs) ≡ true) us
still_held t pairs [] not_ready held = tt
still_held t pairs (u ∷ us) not_ready held =
    let others = neither (eqb u t) (list_any (λ v. eqb v t) us) not_ready in
    (others_held t u others.0 pairs ∙ held.0, still_held t pairs us others.1 held.1)

pub kept_by_forget : (order : List ℕ) (pairs later : List (ℕ × ℕ)) (t : ℕ) → IsScheduling (lists order pairs) → later ≡ filter (λ pair. not (is_of t pair)) pairs
    → list_any (λ u. eqb u t) order ≡ false → IsScheduling (lists order later)
kept_by_forget order pairs later t s e not_ready =
    let other : ℕ × ℕ → Bool = λ pair. not (is_of t pair) in
    let after : IsScheduling (lists order (filter other pairs)) = record {
      held_once = IsDistinct-keys_filter eqb other pairs s.held_once;
      room = omega (arith, length-filter other pairs, count_by-le-length other pairs);
      sets = AllByRecursion-filter (λ (pair : ℕ × ℕ). pair.1 < 256) other pairs s.sets;
      ready_once = s.ready_once;
      ready_are_held = still_held t pairs order not_ready s.ready_are_held;
    } in
    subst (λ (ps : List (ℕ × ℕ)). IsScheduling (lists order ps)) (sym e) after

-- a thread that becomes ready
pub kept_by_ready : (order later : List ℕ) (pairs : List (ℕ × ℕ)) (t : ℕ) → IsScheduling (lists order pairs) → later ≡ order ++ t ∷ []
    → list_any (is_of t) pairs ≡ true → list_any (λ u. eqb u t) order ≡ false → IsScheduling (lists later pairs)
kept_by_ready order later pairs t s e held not_ready =
    let after : IsScheduling (lists (order ++ t ∷ []) pairs) = record {
      held_once = s.held_once;
      room = s.room;
      sets = s.sets;
      ready_once = IsDistinct-push nat_eq_equiv order t s.ready_once (turned t order ∙ not_ready);
      ready_are_held = AllByRecursion-push (λ u. list_any (is_of u) pairs ≡ true) order t s.ready_are_held held;
    } in
    subst (λ (us : List ℕ). IsScheduling (lists us pairs)) (sym e) after

-- there is room for it, since not more are ready than held
pub room_for_ready : (order : List ℕ) (pairs : List (ℕ × ℕ)) (t : ℕ) → IsScheduling (lists order pairs) → list_any (is_of t) pairs ≡ true
    → list_any (λ u. eqb u t) order ≡ false → length order < 64
room_for_ready order pairs t s held not_ready =
    let later : List ℕ = order ++ t ∷ [] in
    let after = kept_by_ready order later pairs t s refl held not_ready in
    let fits = length-le_from_keys nat_eq_equiv later pairs after.ready_once
    (λ u e. has_entry u pairs (at_member (λ v. list_any (is_of v) pairs ≡ true) later u after.ready_are_held e)) in
    let all = s.room in
    omega (arith, length-append order (t ∷ []))

-- a thread that is taken out
pub kept_by_take : (order later : List ℕ) (pairs : List (ℕ × ℕ)) (t : ℕ) → IsScheduling (lists order pairs) → later ≡ filter (λ u. not (eqb u t)) order
    → IsScheduling (lists later pairs)
kept_by_take order later pairs t s e =
    let other : ℕ → Bool = λ u. not (eqb u t) in
    let after : IsScheduling (lists (filter other order) pairs) = record {
      held_once = s.held_once;
      room = s.room;
      sets = s.sets;
      ready_once = IsDistinct-filter eqb other order s.ready_once;
      ready_are_held = AllByRecursion-filter (λ u. list_any (is_of u) pairs ≡ true) other order s.ready_are_held;
    } in
    subst (λ (us : List ℕ). IsScheduling (lists us pairs)) (sym e) after

-- other harts of a thread
pub same_number : (t set : ℕ) (p : ℕ × ℕ) → (set_if t set p).0 ≡ p.0
same_number t set p = go (is_of t p) refl
  where
    go : (b : Bool) → is_of t p ≡ b → (cond b (t, set) p).0 ≡ p.0
    go true same = sym ((Decides-eqb p.0 t).0 same)
    go false same = refl

pub same_numbers : (t set : ℕ) (pairs : List (ℕ × ℕ)) → map (λ pair. pair.0) (map (set_if t set) pairs) ≡ map (λ pair. pair.0) pairs
same_numbers t set [] = refl
same_numbers t set (p ∷ ps) =
    let first = same_number t set p in
    let rest = same_numbers t set ps in
    cc

held_alike : (t set u : ℕ) (pairs : List (ℕ × ℕ)) → list_any (is_of u) (map (set_if t set) pairs) ≡ list_any (is_of u) pairs
held_alike t set u [] = refl
held_alike t set u (p ∷ ps) =
    let first = ap (λ n. eqb n u) (same_number t set p) in
    let rest = held_alike t set u ps in
    cc

small_sets : (t set : ℕ) → set < 256 → (pairs : List (ℕ × ℕ)) → AllByRecursion (λ pair. pair.1 < 256) pairs
    → AllByRecursion (λ pair. pair.1 < 256) (map (set_if t set) pairs)
small_sets t set small [] each = tt
small_sets t set small (p ∷ ps) each = (
  elim (is_of t p) as (λ b. (cond b (t, set) p).1 < 256) [ true ↦ small | false ↦ each.0 ],
  small_sets t set small ps each.1,
)

pub kept_by_affinity : (order : List ℕ) (pairs later : List (ℕ × ℕ)) (t set : ℕ) → IsScheduling (lists order pairs) → later ≡ map (set_if t set) pairs
    → set < 256 → IsScheduling (lists order later)
kept_by_affinity order pairs later t set s e small =
    let changed = map (set_if t set) pairs in
    let after : IsScheduling (lists order changed) = record {
      held_once = subst (IsDistinct eqb) (sym (same_numbers t set pairs)) s.held_once;
      room = omega (arith, length-map pairs (set_if t set));
      sets = small_sets t set small pairs s.sets;
      ready_once = s.ready_once;
      ready_are_held = AllByRecursion-weaker (λ u. list_any (is_of u) pairs ≡ true) (λ u. list_any (is_of u) changed ≡ true)
          (λ u held. held_alike t set u pairs ∙ held) order s.ready_are_held;
    } in
    subst (λ (ps : List (ℕ × ℕ)). IsScheduling (lists order ps)) (sym e) after
