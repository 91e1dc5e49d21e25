use Rattle.std.proofs.Common.{◌∙◌, ap, arith, ◌≡◌, ◌≤◌, ◌<◌, ◌++◌, [], ◌∷◌, Some, None, length, position}
use Rattle.explored_runs.specs.declared.explored.Found.{Found}
use Rattle.explored_runs.specs.declared.explored.Others.{Others}
use Rattle.explored_runs.specs.Accounts.{came_to}
use Rattle.explored_runs.proofs.Outcomes.{found_full, found_known, found_new, others_full, others_known}
use Rattle.explored_runs.proofs.explored.tell_outcome.Goals as goal

pub returns-in-Some-clause-found : goal.returns-in-Some-clause-found
returns-in-Some-clause-found c =
    let at : position (came_to c.args.made) c.args.found.now.items ≡ Some c.in-Some.place = cc in
    found_known c.args.made c.args.found.now.items c.in-Some.place c.index_mut.result.now at c.index_mut.ensures.value

pub returns-in-Some-clause-others : goal.returns-in-Some-clause-others
returns-in-Some-clause-others c =
    let at : position (came_to c.args.made) c.args.found.now.items ≡ Some c.in-Some.place = cc in
    others_known c.args.made c.args.found.now.items c.in-Some.place c.index_mut.result.now c.args.others.now at

pub returns-in-None-clause-found : goal.returns-in-None-clause-found
returns-in-None-clause-found c =
    let none : position (came_to c.args.made) c.args.found.now.items ≡ None = cc in
    let full : 64 ≤ length c.args.found.now.items = omega (arith, c.len.ensures, c.if-len-ge-MOST_FOUND.true) in
    found_full c.args.made c.args.found.now.items none full

pub returns-in-None-clause-others : goal.returns-in-None-clause-others
returns-in-None-clause-others c =
    let none : position (came_to c.args.made) c.args.found.now.items ≡ None = cc in
    let full : 64 ≤ length c.args.found.now.items = omega (arith, c.len.ensures, c.if-len-ge-MOST_FOUND.true) in
    ap (λ (o : Others). Some o) c.with_other.ensures
    ∙ others_full c.args.made c.args.found.now.items c.args.others.now none full

pub returns-in_ok-push-in-None-2-clause-found : goal.returns-in_ok-push-in-None-2-clause-found
returns-in_ok-push-in-None-2-clause-found c =
    let none : position (came_to c.args.made) c.args.found.now.items ≡ None = cc in
    let room : length c.args.found.now.items < 64 = omega (arith, c.len.ensures, c.if-len-ge-MOST_FOUND.false) in
    c.in_ok-push-in-None-2.ensures.items
    ∙ ap (λ (f : Found). c.args.found.now.items ++ f ∷ []) c.first_of.ensures
    ∙ found_new c.args.made c.args.found.now.items none room
