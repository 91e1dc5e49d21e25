use Rattle.std.proofs.Common.{◌≡◌, ◌+◌, map, Vec, Global, sym, ap, ◌∙◌, refl, arith}
use Rattle.place_text.specs.Live.{told}
use Rattle.place_text.specs.declared.threads.LiveThread.{LiveThread}
use Rattle.place_text.proofs.LiveThreads.{live_more, none_more, told_at_end, told_at_start, told_up_to}
use Rattle.place_text.proofs.threads.live_threads.Goals as goal
use Rattle.place_text.proofs.threads.live_threads.Goals.{in-Some+in_ok-push, in_default}

pub loop-earlier-init : goal.loop-earlier-init
loop-earlier-init c =
    let table = c.args.threads.now in
    ap (map told) c.in_ok-live.ensures.items ∙ sym (told_at_start table.saved table.threads c.live.ensures.table.threads)

pub loop-earlier-preserved : goal.loop-earlier-preserved
loop-earlier-preserved c =
    let saved = c.args.threads.now.saved in
    let ts = c.args.threads.now.threads in
    elim c.match-state.branch [
      | in-Some+in_ok-push w ↦
          live_more saved _ _ (record { tid = record { 0 = c.loop-earlier.earlier + 1 }; state = w.in-Some.state; pc = w.resting_pc-pc.result })
          c.loop-earlier.earlier ts c.live.ensures.table.threads
          c.loop-earlier.invariant refl (sym c.state.ensures ∙ w.in-Some.is) w.resting_pc-pc.ensures
          (ap (λ (v : Vec LiveThread Global). v.items) w.live-is ∙ w.in_ok-push.ensures.items)
      | in_default w ↦
          ap (λ (v : Vec LiveThread Global). map told v.items) w.live-is
          ∙ none_more saved _ c.loop-earlier.earlier ts c.live.ensures.table.threads c.loop-earlier.invariant (sym c.state.ensures ∙ w.in_default.is)
    ]

pub returns-clause-live : goal.returns-clause-live
returns-clause-live c =
    let saved = c.args.threads.now.saved in
    let ts = c.args.threads.now.threads in
    let all : c.loop-earlier.earlier ≡ ts.given = omega arith in
    c.loop-earlier.invariant ∙ ap (λ n. told_up_to saved n ts.live) all ∙ told_at_end saved ts c.live.ensures.table.threads
