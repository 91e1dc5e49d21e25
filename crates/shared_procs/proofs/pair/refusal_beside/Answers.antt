-- A thread begins to run where no thread of the other process does, and where its own process goes on.
use Rattle.mach_types.specs.declared.events.Choice.TheVariants as asked
use Rattle.shared_procs.proofs.Common.{◌≡◌, not, true, false, refl, sym, ap, ◌∙◌, Choice, goes_on, half, here_two, refusal_as, refusal_of, setting}
use Rattle.shared_procs.proofs.Refusals.{begins_with, else_as}
use Rattle.shared_procs.proofs.pair.refusal_beside.Goals as goal
use Rattle.shared_procs.proofs.pair.refusal_beside.Goals.{in-Run+else-runs_on+else-not-goes_on, in_default}

pub returns-then-runs_on-clause-why : goal.returns-then-runs_on-clause-why
returns-then-runs_on-clause-why c s m p asks =
    let h = c.args.hart.0 in
    sym
    (ap (λ (choice : Choice). refusal_as s m p h choice) c.in-Run.is
    ∙ begins_with m p h (refusal_of (asked.Run c.in-Run.field-0) (here_two s m p h)) true _
    (sym (c.runs_on.ensures (setting s (not p)) (half (not p) m) asks.beside asks.lt) ∙ c.if-runs_on.true) refl)

pub returns-then-not-goes_on-clause-why : goal.returns-then-not-goes_on-clause-why
returns-then-not-goes_on-clause-why c s m p asks =
    let h = c.args.hart.0 in
    sym
    (ap (λ (choice : Choice). refusal_as s m p h choice) c.in-Run.is
    ∙ begins_with m p h (refusal_of (asked.Run c.in-Run.field-0) (here_two s m p h)) false false
    (sym (c.runs_on.ensures (setting s (not p)) (half (not p) m) asks.beside asks.lt) ∙ c.if-runs_on.false)
    (sym (c.goes_on.ensures (setting s p) (half p m) asks.own) ∙ c.if-not-goes_on.true))

pub refusal-requires : goal.refusal-requires
refusal-requires c =
    let s = c.requires.setting in
    let m = c.requires.pair in
    let p = c.requires.process in
    let asks = c.requires.asked in
    let goes : goes_on m p ≡ true =
    elim c.match-choice.branch [
      | in-Run+else-runs_on+else-not-goes_on w ↦ sym (w.goes_on.ensures (setting s p) (half p m) asks.own) ∙ w.if-not-goes_on.false
      | in_default w ↦ asks.goes (λ t is. w.in_default.not-Run t is)
    ] in
    record { setting = s; pair = m; process = p; acting = asks.acting goes }

pub returns-clause-why : goal.returns-clause-why
returns-clause-why c s m p asks =
    let h = c.args.hart.0 in
    elim c.match-choice.branch [
      | in-Run+else-runs_on+else-not-goes_on w ↦
          let goes : goes_on m p ≡ true = sym (w.goes_on.ensures (setting s p) (half p m) asks.own) ∙ w.if-not-goes_on.false in
          c.refusal.ensures.why s m p (asks.acting goes)
          ∙ ap (λ (choice : Choice). refusal_of choice (here_two s m p h)) w.in-Run.is
          ∙ sym
          (ap (λ (choice : Choice). refusal_as s m p h choice) w.in-Run.is
          ∙ begins_with m p h (refusal_of (asked.Run w.in-Run.field-0) (here_two s m p h)) false true
          (sym (w.runs_on.ensures (setting s (not p)) (half (not p) m) asks.beside asks.lt) ∙ w.if-runs_on.false) goes)
      | in_default w ↦
          c.refusal.ensures.why s m p (asks.acting (asks.goes (λ t is. w.in_default.not-Run t is)))
          ∙ else_as s m p h c.args.choice (λ t is. w.in_default.not-Run t is)
    ]
