use Rattle.std.proofs.Common.{List, sym, ap, subst}
use Rattle.mach_types.specs.declared.events.Entry.{Entry}
use Rattle.machine_lock.specs.Logs.{Follows}
use Rattle.machine_lock.specs.Passes.{PassView}
use Rattle.machine_lock.specs.Turnstiles.{origin_of, start_of}
use Rattle.hart_workers.proofs.GrowthLemmas.{goes_on_follows, grew_one}
use Rattle.hart_workers.specs.Worked.{GoesOn}
use Rattle.hart_workers.proofs.turns.turn.Goals as goal

pub give_turn-requires-clause-legal : goal.give_turn-requires-clause-legal
give_turn-requires-clause-legal g c =
    let m = c.take_turn-turn.result.machine in
    let new = c.go_on-advance.new.machine in
    let start = start_of c.args.lock.now in
    let on : Follows (g.M.Meaning.next (g.M.Meaning.setting m)) (g.M.Meaning.log m) (g.M.Meaning.log new) = goes_on_follows _ _ _ _ _ _ c.go_on-advance.ensures.went_on in
    subst (λ (l : List Entry). Follows (g.M.Meaning.next (g.M.Meaning.setting start)) l (g.M.Meaning.log new)) (sym (ap (λ (p : PassView g.row.M.Denot). p.seen) c.take_turn-turn.ensures.pass))
    (subst (λ (s : g.M.Meaning.Setting). Follows (g.M.Meaning.next s) (g.M.Meaning.log m) (g.M.Meaning.log new)) c.take_turn-turn.ensures.got.same on)

pub returns-clause-grew : goal.returns-clause-grew
returns-clause-grew g c =
    let m = c.take_turn-turn.result.machine in
    let new = c.go_on-advance.new.machine in
    let on : Follows (g.M.Meaning.next (g.M.Meaning.setting m)) (g.M.Meaning.log m) (g.M.Meaning.log new) = goes_on_follows _ _ _ _ _ _ c.go_on-advance.ensures.went_on in
    grew_one g.M.Meaning.setting g.M.Meaning.log g.M.Meaning.next (origin_of c.args.lock.now) c.args.pass.now c.take_turn-turn.new.pass c.give_turn.new.pass m new c.requires.idle c.take_turn-turn.ensures.pass c.give_turn.ensures.pass c.take_turn-turn.ensures.got
    (subst (λ (s : g.M.Meaning.Setting). Follows (g.M.Meaning.next s) (g.M.Meaning.log m) (g.M.Meaning.log new)) c.take_turn-turn.ensures.got.same on)

pub returns-clause-went_on : goal.returns-clause-went_on
returns-clause-went_on g c =
    let m = c.take_turn-turn.result.machine in
    let new = c.go_on-advance.new.machine in
    let start = start_of c.args.lock.now in
    let seen = ap (λ (p : PassView g.row.M.Denot). p.seen) c.give_turn.ensures.pass in
    let on = subst (λ (s : g.M.Meaning.Setting). GoesOn (g.M.Meaning.next s) (g.M.Meaning.ended s) c.args.hart (g.M.Meaning.log m) (g.M.Meaning.log new) c.go_on-advance.result) c.take_turn-turn.ensures.got.same c.go_on-advance.ensures.went_on in
    record { found = g.M.Meaning.log m; later = c.take_turn-turn.ensures.got.later; goes_on = subst (λ (l : List Entry). GoesOn (g.M.Meaning.next (g.M.Meaning.setting start)) (g.M.Meaning.ended (g.M.Meaning.setting start)) c.args.hart (g.M.Meaning.log m) l c.go_on-advance.result) (sym seen) on }
