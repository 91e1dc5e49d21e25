-- What an entry makes of a ledger, by its cases.
use Rattle.std.proofs.Common.{◌≡◌, ℕ, ◌<◌, List, length, get_or, refl, sym, ap, ◌∙◌, subst, arith, Bool, true, false, cond, Option, Some, None}
use Rattle.std.specs.Option.{option_map}
use Rattle.std.proofs.lemmas.List.{get_or_default}
use Rattle.mach_types.specs.Events.{is_run}
use Rattle.block_view.specs.Ledgers.{HasPlaces, Kept, begins, begun, ended_at, going_on, hanging_of, is_more, noted, noted_in, settled, settled_act, settled_act_by, settled_by, stopped, stopped_act, taken_in, turn_in, turn_noted, verdict_by, with_act_alone, with_end, with_end_at, without_hanging}
use Rattle.block_view.specs.declared.forms.Act.{Act}
use Rattle.block_view.specs.declared.ledger.Going.{Going}
use Rattle.block_view.specs.declared.ledger.Hanging.{Hanging}
use Rattle.block_view.specs.declared.passing.Passed.{Passed}
use Rattle.block_view.specs.declared.turns.Turn.TheVariants.{Begins, Ends}
use Rattle.block_view.proofs.Changes.{length-changed_at}

-- what is read of a hart is what goes on there
pub going_here : (k : Kept) (h place : ℕ) (o o' : Option Going) → o ≡ o' → place ≡ h → h < length k.going → o ≡ get_or k.going place o
    → going_on k h ≡ o'
going_here k h place o o' is same lt read =
    get_or_default k.going h None o lt ∙ sym (subst (λ n. o ≡ get_or k.going n o) same read) ∙ is

-- the sequence that hangs of a thread that begins to run ends, if there is one
pub settled_some : (p : Passed) (k : Kept) (x : Hanging) → is_run p.entry.kind ≡ true → hanging_of k p.entry.tid ≡ Some x
    → settled p k ≡ without_hanging p.entry.tid (with_end_at x.place (verdict_by p) k)
settled_some p k x run is =
    ap (λ b. cond b (settled_by p (hanging_of k p.entry.tid) k) k) run ∙ ap (λ o. settled_by p o k) is

pub settled_none : (p : Passed) (k : Kept) → is_run p.entry.kind ≡ true → hanging_of k p.entry.tid ≡ None → settled p k ≡ k
settled_none p k run is = ap (λ b. cond b (settled_by p (hanging_of k p.entry.tid) k) k) run ∙ ap (λ o. settled_by p o k) is

pub settled_else : (p : Passed) (k : Kept) → is_run p.entry.kind ≡ false → settled p k ≡ k
settled_else p k other = ap (λ b. cond b (settled_by p (hanging_of k p.entry.tid) k) k) other

-- and so does the one whose act stands at a place
pub settled_at : (p : Passed) (k : Kept) (place : ℕ) → is_run p.entry.kind ≡ true → option_map (λ x. x.place) (hanging_of k p.entry.tid) ≡ Some place
    → without_hanging p.entry.tid (with_end_at place (verdict_by p) k) ≡ settled p k
settled_at p k place run is = by_hanging (hanging_of k p.entry.tid) refl is
  where
    by_hanging : (o : Option Hanging) → hanging_of k p.entry.tid ≡ o → option_map (λ x. x.place) o ≡ Some place
        → without_hanging p.entry.tid (with_end_at place (verdict_by p) k) ≡ settled p k
    by_hanging None at is = absurd cc
    by_hanging (Some x) at is =
        let same : x.place ≡ place = cc in
        ap (λ n. without_hanging p.entry.tid (with_end_at n (verdict_by p) k)) (sym same) ∙ sym (settled_some p k x run at)

-- its act, or none
pub settled_act_at : (p : Passed) (k : Kept) (place : ℕ) → is_run p.entry.kind ≡ true → option_map (λ x. x.place) (hanging_of k p.entry.tid) ≡ Some place
    → ended_at place (verdict_by p) k ≡ settled_act p k
settled_act_at p k place run is = by_hanging (hanging_of k p.entry.tid) refl is
  where
    by_hanging : (o : Option Hanging) → hanging_of k p.entry.tid ≡ o → option_map (λ x. x.place) o ≡ Some place → ended_at place (verdict_by p) k ≡ settled_act p k
    by_hanging None at is = absurd cc
    by_hanging (Some x) at is =
        let same : x.place ≡ place = cc in
        ap (λ n. ended_at n (verdict_by p) k) (sym same)
        ∙ sym (ap (λ b. cond b (settled_act_by p (hanging_of k p.entry.tid) k) None) run ∙ ap (λ o. settled_act_by p o k) at)

pub no_act_settled : (p : Passed) (k : Kept) → is_run p.entry.kind ≡ true → option_map (λ x. x.place) (hanging_of k p.entry.tid) ≡ None → None ≡ settled_act p k
no_act_settled p k run is = by_hanging (hanging_of k p.entry.tid) refl is
  where
    by_hanging : (o : Option Hanging) → hanging_of k p.entry.tid ≡ o → option_map (λ x. x.place) o ≡ None → None ≡ settled_act p k
    by_hanging None at is = sym (ap (λ b. cond b (settled_act_by p (hanging_of k p.entry.tid) k) None) run ∙ ap (λ o. settled_act_by p o k) at)
    by_hanging (Some x) at is = absurd cc

pub no_act_else : (p : Passed) (k : Kept) → is_run p.entry.kind ≡ false → None ≡ settled_act p k
no_act_else p k other = sym (ap (λ b. cond b (settled_act_by p (hanging_of k p.entry.tid) k) None) other)

-- as many acts as before
pub length-settled : (p : Passed) (k : Kept) → length (settled p k).acts ≡ length k.acts
length-settled p k = by_run (is_run p.entry.kind)
  where
    by_hanging : (o : Option Hanging) → length (settled_by p o k).acts ≡ length k.acts
    by_hanging None = refl
    by_hanging (Some x) = length-changed_at (with_end (verdict_by p)) k.acts x.place

    by_run : (b : Bool) → length (cond b (settled_by p (hanging_of k p.entry.tid) k) k).acts ≡ length k.acts
    by_run true = by_hanging (hanging_of k p.entry.tid)
    by_run false = refl

-- the sequence that goes on on a hart stands among the acts
pub place_stays : (p : Passed) (k : Kept) (g : Going) (acts : List Act) → HasPlaces k → going_on k p.entry.hart.0 ≡ Some g
    → acts ≡ (settled p k).acts → g.place < length acts
place_stays p k g acts places on is =
    let lt = places.going p.entry.hart.0 g on in omega (arith, ap length is, length-settled p k)

-- THE FOUR CASES

pub noted_more : (p : Passed) (k : Kept) (g : Going) → going_on k p.entry.hart.0 ≡ Some g → is_more p ≡ true → noted p k ≡ taken_in g p (settled p k)
unfolding noted
noted_more p k g on more =
    ap (λ o. noted_in o p (settled p k)) on
    ∙ ap (λ b. cond b (taken_in g p (settled p k)) (with_act_alone p (stopped g p (settled p k)))) more

pub noted_stopped : (p : Passed) (k : Kept) (g : Going) → going_on k p.entry.hart.0 ≡ Some g → is_more p ≡ false
    → noted p k ≡ with_act_alone p (stopped g p (settled p k))
unfolding noted
noted_stopped p k g on other =
    ap (λ o. noted_in o p (settled p k)) on
    ∙ ap (λ b. cond b (taken_in g p (settled p k)) (with_act_alone p (stopped g p (settled p k)))) other

pub noted_begun : (p : Passed) (k : Kept) → going_on k p.entry.hart.0 ≡ None → begins p ≡ true → noted p k ≡ begun p (settled p k)
unfolding noted
noted_begun p k none starts =
    ap (λ o. noted_in o p (settled p k)) none
    ∙ ap (λ b. cond b (begun p (settled p k)) (with_act_alone p (settled p k))) starts

pub noted_alone : (p : Passed) (k : Kept) → going_on k p.entry.hart.0 ≡ None → begins p ≡ false → noted p k ≡ with_act_alone p (settled p k)
unfolding noted
noted_alone p k none other =
    ap (λ o. noted_in o p (settled p k)) none
    ∙ ap (λ b. cond b (begun p (settled p k)) (with_act_alone p (settled p k))) other

-- WHAT IS TOLD IN THEM

pub turn_more : (p : Passed) (k : Kept) (g : Going) → going_on k p.entry.hart.0 ≡ Some g → is_more p ≡ true → None ≡ turn_noted p k
unfolding turn_noted
turn_more p k g on more =
    sym (ap (λ o. turn_in o p k) on ∙ ap (λ b. cond b None (option_map Ends (stopped_act g p (settled p k)))) more)

pub turn_stopped : (p : Passed) (k : Kept) (g : Going) → going_on k p.entry.hart.0 ≡ Some g → is_more p ≡ false
    → option_map Ends (stopped_act g p (settled p k)) ≡ turn_noted p k
unfolding turn_noted
turn_stopped p k g on other =
    sym (ap (λ o. turn_in o p k) on ∙ ap (λ b. cond b None (option_map Ends (stopped_act g p (settled p k)))) other)

pub turn_begun : (p : Passed) (k : Kept) → going_on k p.entry.hart.0 ≡ None → begins p ≡ true → option_map Begins p.inside ≡ turn_noted p k
unfolding turn_noted
turn_begun p k none starts =
    sym (ap (λ o. turn_in o p k) none ∙ ap (λ b. cond b (option_map Begins p.inside) (option_map Ends (settled_act p k))) starts)

pub turn_alone : (p : Passed) (k : Kept) → going_on k p.entry.hart.0 ≡ None → begins p ≡ false → option_map Ends (settled_act p k) ≡ turn_noted p k
unfolding turn_noted
turn_alone p k none other =
    sym (ap (λ o. turn_in o p k) none ∙ ap (λ b. cond b (option_map Begins p.inside) (option_map Ends (settled_act p k))) other)
