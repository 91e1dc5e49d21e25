-- A ledger with no acts: no sequence goes on or hangs, and an entry with which none begins makes nothing of it.
use Rattle.std.proofs.Common.{◌≡◌, ℕ, zero, suc, ◌<◌, List, [], ◌∷◌, ◌&&◌, length, get_or, find, refl, sym, ap, ◌∙◌, arith, Bool, true, false, cond, Option, Some, None, is_none}
use Rattle.std.specs.List.{list_all}
use Rattle.std.specs.Option.{option_map}
use Rattle.mach_types.proofs.Laws.{eqb_same}
use Rattle.mach_types.specs.Events.{is_run}
use Rattle.mach_types.specs.declared.events.Tid.{Tid}
use Rattle.block_view.specs.Following.{IsAtRest, IsLetGo}
use Rattle.block_view.specs.Following.IsLetGo.{Gone}
use Rattle.block_view.specs.Ledgers.{HasPlaces, Kept, begins, going_on, hanging_of, is_of, noted, settled, settled_act, settled_act_by, settled_by, turn_in, turn_noted, with_act_alone}
use Rattle.block_view.specs.declared.forms.Act.{Act}
use Rattle.block_view.specs.declared.ledger.Going.{Going}
use Rattle.block_view.specs.declared.ledger.Hanging.{Hanging}
use Rattle.block_view.specs.declared.passing.Passed.{Passed}
use Rattle.block_view.specs.declared.turns.Turn.{Turn}
use Rattle.block_view.specs.declared.turns.Turn.TheVariants.{Begins, Ends}
use Rattle.block_view.proofs.Noting.{noted_alone}

-- what goes on nowhere, and what hangs of no thread
none_of_all : (xs : List (Option Going)) → ((h : ℕ) → get_or xs h None ≡ None) → list_all is_none xs ≡ true
none_of_all [] at = refl
none_of_all (x ∷ xs) at = ap (λ (o : Option Going). is_none o && list_all is_none xs) (at 0) ∙ none_of_all xs (λ h. at (suc h))

nothing_hangs : (xs : List Hanging) → ((tid : Tid) → find (is_of tid) xs ≡ None) → xs ≡ []
nothing_hangs [] at = refl
nothing_hangs (x ∷ xs) at =
    let found : Some x ≡ None = sym (ap (λ b. cond b (Some x) (find (is_of x.tid) xs)) (eqb_same x.tid.0)) ∙ at x.tid in
    absurd cc

module _ (k : Kept) (places : HasPlaces k) (none : k.acts ≡ []) where
  no_place : (n : ℕ) → n < length k.acts → ⊥
  no_place n lt = let empty : length k.acts ≡ 0 = ap length none in omega arith

  none_on : (h : ℕ) → going_on k h ≡ None
  none_on h = by_going (going_on k h) refl
    where
      by_going : (o : Option Going) → going_on k h ≡ o → going_on k h ≡ None
      by_going None is = is
      by_going (Some g) is = absurd (no_place g.place (places.going h g is))

  none_hangs : (tid : Tid) → hanging_of k tid ≡ None
  none_hangs tid = by_hanging (hanging_of k tid) refl
    where
      by_hanging : (o : Option Hanging) → hanging_of k tid ≡ o → hanging_of k tid ≡ None
      by_hanging None is = is
      by_hanging (Some x) is = absurd (no_place x.place (places.hanging tid x is))

  module _ (p : Passed) (other : begins p ≡ false) where
    as_settled : settled p k ≡ k
    as_settled = by_run (is_run p.entry.kind)
      where
        by_run : (b : Bool) → cond b (settled_by p (hanging_of k p.entry.tid) k) k ≡ k
        by_run true = ap (λ o. settled_by p o k) (none_hangs p.entry.tid)
        by_run false = refl

    no_act : settled_act p k ≡ None
    no_act = by_run (is_run p.entry.kind)
      where
        by_run : (b : Bool) → cond b (settled_act_by p (hanging_of k p.entry.tid) k) None ≡ None
        by_run true = ap (λ o. settled_act_by p o k) (none_hangs p.entry.tid)
        by_run false = refl

    as_noted : noted p k ≡ with_act_alone p k
    as_noted = noted_alone p k (none_on p.entry.hart.0) other ∙ ap (with_act_alone p) as_settled

    -- it is as if it had let go of the act that the entry is by itself
    pub lets_go : IsLetGo (noted p k) k
    lets_go =
        let none_goes : list_all is_none (noted p k).going ≡ true = ap (λ (x : Kept). list_all is_none x.going) as_noted ∙ none_of_all k.going none_on in
        let none_hang : (noted p k).hanging ≡ [] = ap (λ (x : Kept). x.hanging) as_noted ∙ nothing_hangs k.hanging none_hangs in
        Gone (record { going = none_goes; hanging = none_hang })
        ((λ i. record k { acts = none i }) ∙ ap (λ (x : Kept). let empty : List Act = [] in record x { acts = empty }) (sym as_noted))

    pub no_turn : None ≡ turn_noted p k
    unfolding turn_noted
    no_turn =
        sym
        (ap (λ o. turn_in o p k) (none_on p.entry.hart.0)
        ∙ ap (λ (b : Bool). cond b (option_map Begins p.inside) (option_map Ends (settled_act p k))) other
        ∙ ap (option_map Ends) no_act)
