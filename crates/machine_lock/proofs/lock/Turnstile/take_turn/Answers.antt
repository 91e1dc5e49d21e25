use Rattle.std.proofs.Common.{rules, ◌≡◌, [], ◌∷◌, length, sym, refl, ap, ◌∙◌, subst}
use Rattle.std.specs.Prelude.{Some, None}
use mathlib.Core.Option.{none}
use Rattle.atomic_table.specs.Table.{step}
use Rattle.machine_lock.specs.Steps.{Got}
use Rattle.machine_lock.specs.Views.{staged}
use Rattle.machine_lock.specs.Passes.{PassView, is_out}
use Rattle.machine_lock.specs.declared.history.Stage.TheVariants.{Served}
use Rattle.machine_lock.proofs.Keeps.{draws, looks, served, held, was_held, took, rest_none}
use Rattle.machine_lock.proofs.LogLemmas.{follows_length}
use Rattle.machine_lock.proofs.NumberLemmas.{owns_longer}
use Rattle.machine_lock.specs.Turnstiles.{turnstile_of}
use Rattle.machine_lock.proofs.PassLemmas.{whose, idle, whole_served, seen_as, turnstile_kept}
use Rattle.machine_lock.proofs.lock.Turnstile.take_turn.Given as given
use Rattle.machine_lock.proofs.lock.Turnstile.take_turn.Goals as goal
use Rattle.machine_lock.proofs.lock.Turnstile.take_turn.Goals.{After-load}

pub fetch_add-ticket-requires : goal.fetch_add-ticket-requires
fetch_add-ticket-requires g c =
    let s = c.pass.inside.seat in
    let of = whose (turnstile_of c.args.self.now) s c.args.pass.now c.pass.invariant c.pass.view_is c.requires.own in
    let at = idle s c.args.pass.now c.pass.invariant c.pass.view_is c.requires.idle in (
      of.0,
      search rules,
      draws g.M.Meaning.setting g.M.Meaning.log g.M.Meaning.next c.args.self.now.table.shared.key _ _ s.me of.1 at.0 (search rules),
    )

pub load-requires : goal.load-requires
load-requires g c =
    let s = c.pass.inside.seat in
    let of = whose (turnstile_of c.args.self.now) s c.args.pass.now c.pass.invariant c.pass.view_is c.requires.own in
    let d = c.fetch_add-ticket.ensures.2 in
    let m = c.loop.invariant.1 ∙ d.2 in (
      c.loop.invariant.0 ∙ (c.fetch_add-ticket.ensures.0 ∙ of.0),
      search rules,
      looks g.M.Meaning.setting g.M.Meaning.log g.M.Meaning.next c.args.self.now.table.shared.key _ _ c.loop.pass-inside.seat.me d.0 (ap (λ p. p.0.origin) m ∙ of.1) (ap (λ p. p.0.stage) m),
    )

-- the pass that reads its own ticket has the machine of the slot
found : (g : given.Over) (c : After-load g) → c.load.result ≡ c.fetch_add-ticket.result → (x : g.row.M.Denot)
    × (c.load.new.seat.me ≡ (staged c.pass.inside.seat.me.0 (g.M.Meaning.log x) (Served c.fetch_add-ticket.ensures.2.0), (0, Some x) ∷ []))
    × Got g.M.Meaning.setting g.M.Meaning.log g.M.Meaning.next c.args.self.now.table.shared.key c.pass.inside.seat.me.0.seen x
found g c hit =
    let s = c.pass.inside.seat in
    let table = c.args.self.now.table.shared in
    let of = whose (turnstile_of c.args.self.now) s c.args.pass.now c.pass.invariant c.pass.view_is c.requires.own in
    let at = idle s c.args.pass.now c.pass.invariant c.pass.view_is c.requires.idle in
    let d = c.fetch_add-ticket.ensures.2 in
    served g.M.Meaning.setting g.M.Meaning.log g.M.Meaning.next table.key (step table.table_id.slots 1 0 0 none) s.me c.loop.pass-inside.seat.me c.load.new.seat.me d.0 c.load.result c.fetch_add-ticket.result of.1 at.1 (c.loop.invariant.1 ∙ d.2) d.1 c.load.ensures.2 hit

pub exchange-old-requires : goal.exchange-old-requires
exchange-old-requires g c =
    let of = whose (turnstile_of c.args.self.now) c.pass.inside.seat c.args.pass.now c.pass.invariant c.pass.view_is c.requires.own in
    let got = found g (goal.at.exchange-old-requires g c).After-load c.if-load-ticket.true in
    (c.load.ensures.0 ∙ (c.loop.invariant.0 ∙ (c.fetch_add-ticket.ensures.0 ∙ of.0)), (Some got.0, held g.M.Meaning.setting g.M.Meaning.log g.M.Meaning.next c.args.self.now.table.shared.key _ _ (Some got.0) got.1))

pub unreachable-requires : goal.unreachable-requires
unreachable-requires g c =
    let got = found g (goal.at.unreachable-requires g c).After-load c.if-load-ticket.true in
    let is = was_held g.M.Meaning.setting g.M.Meaning.log g.M.Meaning.next c.args.self.now.table.shared.key _ _ (Some got.0) c.exchange-old.result got.1 c.exchange-old.ensures.2 in
    c.in_default.not-Some got.0 (sym is)

pub invariant_of-pass : goal.invariant_of-pass
invariant_of-pass g c =
    let s = c.pass.inside.seat in
    let w = c.pass.invariant in
    let key = c.args.self.now.table.shared.key in
    let of = whose (turnstile_of c.args.self.now) s c.args.pass.now w c.pass.view_is c.requires.own in
    let t = c.fetch_add-ticket.ensures.2.0 in
    let got = found g (goal.at.invariant_of-pass g c).After-load c.if-load-ticket.true in
    let v = staged s.me.0 (g.M.Meaning.log got.0) (Served t) in
    whole_served c.exchange-old.new.seat key v t (c.exchange-old.ensures.3 ∙ rest_none g.M.Meaning.setting g.M.Meaning.log g.M.Meaning.next key _ v (Some got.0) got.1) of.1 refl refl w.sound.part
    (owns_longer s.me.0.mine (length s.me.0.seen) (length (g.M.Meaning.log got.0)) (follows_length (g.M.Meaning.next (g.M.Meaning.setting key.start.value)) s.me.0.seen (g.M.Meaning.log got.0) got.2.later) w.sound.owns)

pub returns-then-load-ticket-clause-pass : goal.returns-then-load-ticket-clause-pass
returns-then-load-ticket-clause-pass g c =
    let s = c.pass.inside.seat in
    let got = found g (goal.at.returns-then-load-ticket-clause-pass g c).After-load c.if-load-ticket.true in
    let same = took g.M.Meaning.setting g.M.Meaning.log g.M.Meaning.next c.args.self.now.table.shared.key _ _ got.0 c.in-Some-old.machine c.exchange-old.result got.1 c.exchange-old.ensures.2 c.in-Some-old.is in
    let now = c.exchange-old.new.seat in
    let me = c.exchange-old.ensures.3 ∙ (rest_none g.M.Meaning.setting g.M.Meaning.log g.M.Meaning.next c.args.self.now.table.shared.key _ _ (Some got.0) got.1 ∙ ap (λ (x : g.row.M.Denot). (staged s.me.0 (g.M.Meaning.log x) (Served c.fetch_add-ticket.ensures.2.0), (0, None) ∷ [])) same) in
    seen_as now _ (turnstile_kept s now c.args.pass.now c.pass.view_is (c.exchange-old.ensures.0 ∙ (c.load.ensures.0 ∙ (c.loop.invariant.0 ∙ c.fetch_add-ticket.ensures.0))) (ap (λ m. m.0.origin) me))
    (ap (λ m. m.0.seen) me) (ap (λ m. m.0.mine) me ∙ ap (λ (p : PassView g.row.M.Denot). p.mine) c.pass.view_is) (ap (λ m. m.0.parts) me ∙ ap (λ (p : PassView g.row.M.Denot). p.parts) c.pass.view_is) (ap (λ m. is_out m.0.stage) me)

pub returns-then-load-ticket-clause-got : goal.returns-then-load-ticket-clause-got
returns-then-load-ticket-clause-got g c =
    let got = found g (goal.at.returns-then-load-ticket-clause-got g c).After-load c.if-load-ticket.true in
    let same = took g.M.Meaning.setting g.M.Meaning.log g.M.Meaning.next c.args.self.now.table.shared.key _ _ got.0 c.in-Some-old.machine c.exchange-old.result got.1 c.exchange-old.ensures.2 c.in-Some-old.is in
    subst (λ (p : PassView g.row.M.Denot). Got g.M.Meaning.setting g.M.Meaning.log g.M.Meaning.next c.args.self.now.table.shared.key p.seen c.in-Some-old.machine) c.pass.view_is
    (subst (λ (x : g.row.M.Denot). Got g.M.Meaning.setting g.M.Meaning.log g.M.Meaning.next c.args.self.now.table.shared.key c.pass.inside.seat.me.0.seen x) same got.2)
