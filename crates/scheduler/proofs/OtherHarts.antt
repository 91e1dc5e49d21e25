-- The harts of the threads after those of one were changed.
use Rattle.std.proofs.Common.{◌≡◌, ◌≢◌, ℕ, Bool, true, false, ◌||◌, cond, List, [], ◌∷◌, find, map, Option, Some, None, eqb, refl, ap, ◌∙◌, arith}
use Rattle.std.specs.List.{list_any}
use Rattle.std.specs.Option.{option_map, option_map_or}
use Rattle.std.proofs.lemmas.Bool.Decides.{Decides-eqb, nat_tests}
use Rattle.mach_types.specs.Kernel.Scheduling.{Scheduling, is_of, set_if, affinity_of, with_affinity}
use Rattle.scheduler.proofs.Finds.{found_passes}
use Rattle.scheduler.proofs.Kept.{same_number}
use Rattle.scheduler.specs.Holding.{is_held}

-- each thread's entry, changed where it is that of the thread
entry_after : (t set u : ℕ) (pairs : List (ℕ × ℕ)) → find (is_of u) (map (set_if t set) pairs) ≡ option_map (set_if t set) (find (is_of u) pairs)
entry_after t set u [] = refl
entry_after t set u (p ∷ ps) =
    ap (λ n. cond (eqb n u) (Some (set_if t set p)) (find (is_of u) (map (set_if t set) ps))) (same_number t set p)
    ∙ elim (is_of u p) as (λ b. cond b (Some (set_if t set p)) (find (is_of u) (map (set_if t set) ps)) ≡ option_map (set_if t set) (cond b (Some p) (find (is_of u) ps))) [ true ↦ refl | false ↦ entry_after t set u ps ]

pub no_entry : (t : ℕ) (pairs : List (ℕ × ℕ)) → find (is_of t) pairs ≡ None → list_any (is_of t) pairs ≡ false
no_entry t [] e = refl
no_entry t (p ∷ ps) e = go (is_of t p) e (no_entry t ps)
  where
    go : (b : Bool) → cond b (Some p) (find (is_of t) ps) ≡ None → (find (is_of t) ps ≡ None → list_any (is_of t) ps ≡ false)
        → (b || list_any (is_of t) ps) ≡ false
    go true e rest = cc
    go false e rest = rest e

pub affinity_of-changed : (t set : ℕ) (s : Scheduling) → is_held t s ≡ true → affinity_of t (with_affinity t set s) ≡ set
affinity_of-changed t set s held =
    ap (λ (o : Option (ℕ × ℕ)). option_map_or (λ pair. pair.1) o 0) (entry_after t set t s.affinities)
    ∙ go (find (is_of t) s.affinities) refl
  where
    go : (o : Option (ℕ × ℕ)) → find (is_of t) s.affinities ≡ o → option_map_or (λ pair. pair.1) (option_map (set_if t set) o) 0 ≡ set
    go None e =
        let none = no_entry t s.affinities e in
        cc
    go (Some p) e = ap (λ b. (cond b (t, set) p).1) (found_passes (is_of t) s.affinities p e)

pub affinity_of-other : (t set u : ℕ) (s : Scheduling) → eqb u t ≡ false → affinity_of u (with_affinity t set s) ≡ affinity_of u s
affinity_of-other t set u s apart =
    ap (λ (o : Option (ℕ × ℕ)). option_map_or (λ pair. pair.1) o 0) (entry_after t set u s.affinities)
    ∙ go (find (is_of u) s.affinities) refl
  where
    go : (o : Option (ℕ × ℕ)) → find (is_of u) s.affinities ≡ o
        → option_map_or (λ pair. pair.1) (option_map (set_if t set) o) 0 ≡ option_map_or (λ pair. pair.1) o 0
    go None e = refl
    go (Some p) e =
        let number = (Decides-eqb p.0 u).0 (found_passes (is_of u) s.affinities p e) in
        ap (λ b. (cond b (t, set) p).1) (ap (λ n. eqb n t) number ∙ apart)

pub other_test : (u t : ℕ) → u ≢ t → eqb u t ≡ false
other_test u t other = grind (arith, nat_tests)
