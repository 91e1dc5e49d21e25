-- The first of the kernel's writes that ends a reservation.
use Rattle.std.proofs.Common.{◌≡◌, ℕ, ◌+◌, ◌<◌, List, [], ◌∷◌, length, get_or, drop, refl, sym, ap, ◌∙◌, Bool, true, false, cond, Some, None, is_none}
use Rattle.std.proofs.lemmas.List.{drop_more}
use Rattle.mach_types.specs.declared.user_memory.Write.{Write}
use Rattle.mach_types.specs.declared.user_memory.Write.TheVariants.{Stored, Zeroed}
use Rattle.rv_inst.specs.Execution.{has_reserved}
use Rattle.fact_types.specs.declared.facts.Fact.{Fact}
use Rattle.fact_types.specs.declared.facts.Fact.TheVariants.{Lost}
use Rattle.event_facts.specs.KernelEvents.{taken_by}
use Rattle.event_facts.specs.Reservations.{hart_of, lost_facts}

module _ (k r : ℕ) (ws : List Write) where
  abbrev told : Bool → ℕ → List Fact
  told b at = cond (is_none (cond b None (Some r))) (Lost (hart_of k) r at ∷ []) (lost_facts k (Some r) ws)

  takes : (b : Bool) (at by : ℕ) → cond b (Some at) None ≡ Some by → told b at ≡ Lost (hart_of k) r by ∷ []
  takes true at by is = let same : at ≡ by = cc in ap (λ n. Lost (hart_of k) r n ∷ []) same
  takes false at by is = absurd cc

  leaves : (b : Bool) (at : ℕ) → cond b (Some at) None ≡ None → told b at ≡ lost_facts k (Some r) ws
  leaves true at is = absurd cc
  leaves false at is = refl

  taken : (w : Write) (by : ℕ) → taken_by r w ≡ Some by → lost_facts k (Some r) (w ∷ ws) ≡ Lost (hart_of k) r by ∷ []
  taken (Stored w) by is = takes (has_reserved r w.at w.size) w.at by is
  taken (Zeroed at n) by is = takes (has_reserved r at n) at by is

  left : (w : Write) → taken_by r w ≡ None → lost_facts k (Some r) (w ∷ ws) ≡ lost_facts k (Some r) ws
  left (Stored w) is = leaves (has_reserved r w.at w.size) w.at is
  left (Zeroed at n) is = leaves (has_reserved r at n) at is

-- the same of the write at an index, where what comes of those from there on is what comes of all
pub taken_at : (k r : ℕ) (ws : List Write) (i by : ℕ) (d : Write) (all : List Fact) → i < length ws → taken_by r (get_or ws i d) ≡ Some by
    → lost_facts k (Some r) (drop i ws) ≡ all → Lost (hart_of k) r by ∷ [] ≡ all
taken_at k r ws i by d all within is rest =
    sym (taken k r (drop (i + 1) ws) (get_or ws i d) by is) ∙ sym (ap (λ (xs : List Write). lost_facts k (Some r) xs) (drop_more ws i d within)) ∙ rest

pub left_at : (k r : ℕ) (ws : List Write) (i : ℕ) (d : Write) (all : List Fact) → i < length ws → taken_by r (get_or ws i d) ≡ None
    → lost_facts k (Some r) (drop i ws) ≡ all → lost_facts k (Some r) (drop (i + 1) ws) ≡ all
left_at k r ws i d all within is rest =
    sym (left k r (drop (i + 1) ws) (get_or ws i d) is) ∙ sym (ap (λ (xs : List Write). lost_facts k (Some r) xs) (drop_more ws i d within)) ∙ rest
