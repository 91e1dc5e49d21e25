-- A search finds the place, and the set rises still.
use Rattle.std.proofs.Common.{◌≡◌, ℕ, Bool, true, false, cond, List, Ok, Err, subst, sym, ap, ◌∙◌}
use Rattle.std.specs.List.{insert}
use Rattle.std.specs.List.Sorted.{IsBinarySearchResult}
use Rattle.std.specs.Ordering.{nat_cmp}
use Rattle.std.specs.Result.{is_ok}
use Rattle.drawn_machine.specs.PcSets.{IsRising, with_pc}
use Rattle.drawn_machine.proofs.PcSets.{rising-with, with-found, with-missing}
use Rattle.drawn_machine.proofs.pc_set.PcSet.find_or_insert.Goals as goal

either : (b : Bool) (xs ys : List ℕ) → IsRising xs → IsRising ys → IsRising (cond b xs ys)
either true xs ys one other = one
either false xs ys one other = other

pub invariant_of-self-in-Err : goal.invariant_of-self-in-Err
invariant_of-self-in-Err c =
    let items = c.self.inside.pcs.items in
    let pc = c.args.pc in
    let place = c.in-Err.place in
    let up : IsRising items = c.self.invariant in
    let is : IsBinarySearchResult (λ y. nat_cmp y pc) items (Err place) =
    subst (λ (xs : List ℕ). IsBinarySearchResult (λ y. nat_cmp y pc) xs (Err place)) c.deref.ensures.value
    (let e = c.in-Err.ensures in e.position) in
    let more : IsRising (insert items place pc) = subst IsRising (with-missing items pc place up is) (rising-with pc items up) in
    subst IsRising (sym c.insert.ensures.items) (either (is_ok c.insert.result) (insert items place pc) items more up)

pub returns-in_ok-insert-in-Err : goal.returns-in_ok-insert-in-Err
returns-in_ok-insert-in-Err c =
    let items = c.self.inside.pcs.items in
    let pc = c.args.pc in
    let place = c.in-Err.place in
    let is : IsBinarySearchResult (λ y. nat_cmp y pc) items (Err place) =
    subst (λ (xs : List ℕ). IsBinarySearchResult (λ y. nat_cmp y pc) xs (Err place)) c.deref.ensures.value
    (let e = c.in-Err.ensures in e.position) in
    let with : with_pc pc items ≡ insert items place pc = with-missing items pc place c.self.invariant is in
    let new = c.in_ok-insert-in-Err.ensures.items in
    let view = c.self.view_is in cc

pub returns-in-Ok : goal.returns-in-Ok
returns-in-Ok c =
    let items = c.self.inside.pcs.items in
    let pc = c.args.pc in
    let place = c.in-Ok.place in
    let is : IsBinarySearchResult (λ y. nat_cmp y pc) items (Ok place) =
    subst (λ (xs : List ℕ). IsBinarySearchResult (λ y. nat_cmp y pc) xs (Ok place)) c.deref.ensures.value
    (let e = c.in-Ok.ensures in e.position) in
    let with : with_pc pc items ≡ items = with-found items pc place c.self.invariant is in
    let view = c.self.view_is in cc
