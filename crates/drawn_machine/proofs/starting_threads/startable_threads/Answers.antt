use Rattle.std.proofs.Common.{sym, ◌∙◌, ap, arith, ℕ, ◌≡◌, ◌+◌}
use Rattle.drawings.specs.Scenes.{passing}
use Rattle.drawn_machine.proofs.Starting.{all_startable, has_room, none_so_far, starts}
use Rattle.drawn_machine.proofs.starting_threads.startable_threads.Goals as goal

pub loop-earlier-init : goal.loop-earlier-init
loop-earlier-init c =
    c.new-startable.ensures
    ∙ none_so_far c.args.threads.now.threads c.args.ready.now c.args.opened c.args.hart.0 c.live-live.ensures.table.threads

pub push_if-requires : goal.push_if-requires
push_if-requires c =
    λ passes. has_room c.args.threads.now.threads c.args.ready.now c.args.opened c.args.hart.0 (c.loop-earlier.earlier + 1) 64
    c.loop-earlier.startable.items (omega (arith, c.live-live.ensures.count, c.live-live.ensures.table.threads.few)) c.loop-earlier.invariant
    (sym c.may_start-starts.ensures ∙ passes)

pub returns : goal.returns
returns c =
    let ts = c.args.threads.now.threads in
    let all : c.loop-earlier.earlier ≡ ts.given = omega arith in
    c.loop-earlier.invariant
    ∙ ap (λ (n : ℕ). passing (starts ts c.args.ready.now c.args.opened c.args.hart.0) (n + 1)) all
    ∙ all_startable ts c.args.ready.now c.args.opened c.args.hart.0
