use Rattle.std.proofs.Common.{rules, ◌≡◌, length, sym, ap, ◌∙◌, subst}
use Rattle.std.specs.Prelude.{Some}
use Rattle.std.specs.Option.{unwrap_or}
use mathlib.Core.Option as opt
use Rattle.machine_lock.specs.Numbers.{Owns}
use Rattle.machine_lock.specs.Passes.{PassView}
use Rattle.machine_lock.specs.Steps.{Got}
use Rattle.machine_lock.proofs.Keeps.{closes}
use Rattle.machine_lock.specs.Turnstiles.{turnstile_of}
use Rattle.machine_lock.proofs.PassLemmas.{whose, idle}
use Rattle.machine_lock.proofs.lock.Turnstile.close.Given as given
use Rattle.machine_lock.proofs.lock.Turnstile.close.Goals as goal

pub close_with-closed-requires : goal.close_with-closed-requires
close_with-closed-requires g c =
    let s = c.pass.inside.seat in
    let table = c.args.self.table.shared in
    (whose (turnstile_of c.args.self) s c.args.pass c.pass.invariant c.pass.view_is c.requires.own).0

pub unreachable-requires : goal.unreachable-requires
unreachable-requires g c =
    let s = c.pass.inside.seat in
    let table = c.args.self.table.shared in
    let of = whose (turnstile_of c.args.self) s c.args.pass c.pass.invariant c.pass.view_is c.requires.own in
    let at = idle s c.args.pass c.pass.invariant c.pass.view_is c.requires.idle in
    let t = closes g.M.Meaning.setting g.M.Meaning.log g.M.Meaning.next table.key _ _ _ _ of.1 at.0 (search rules) c.close_with-closed.ensures.values.2 in
    c.in_default.not-Some t.0 (opt.some-injective _ _ (sym c.take-last.ensures.value ∙ t.1))

-- what is known of the machine that is taken out
known : (g : given.Over) (c : goal.In-Some g)
    → Got g.M.Meaning.setting g.M.Meaning.log g.M.Meaning.next c.args.self.table.shared.key c.pass.inside.seat.me.0.seen c.in-Some.machine
    × Owns c.pass.inside.seat.me.0.mine (length (g.M.Meaning.log c.in-Some.machine))
known g c =
    let s = c.pass.inside.seat in
    let table = c.args.self.table.shared in
    let of = whose (turnstile_of c.args.self) s c.args.pass c.pass.invariant c.pass.view_is c.requires.own in
    let at = idle s c.args.pass c.pass.invariant c.pass.view_is c.requires.idle in
    let t = closes g.M.Meaning.setting g.M.Meaning.log g.M.Meaning.next table.key _ _ _ _ of.1 at.0 (search rules) c.close_with-closed.ensures.values.2 in
    let is : Some t.0 ≡ Some c.in-Some.machine = sym (opt.some-injective _ _ (sym c.take-last.ensures.value ∙ t.1)) ∙ c.in-Some.is in
    let same : t.0 ≡ c.in-Some.machine = ap (λ o. unwrap_or o t.0) is in (
      subst (λ (m : g.row.M.Denot). Got g.M.Meaning.setting g.M.Meaning.log g.M.Meaning.next table.key s.me.0.seen m) same t.2,
      subst (λ (m : g.row.M.Denot). Owns s.me.0.mine (length (g.M.Meaning.log m))) same t.3,
    )

pub returns-clause-got : goal.returns-clause-got
returns-clause-got g c =
    subst (λ (p : PassView g.row.M.Denot). Got g.M.Meaning.setting g.M.Meaning.log g.M.Meaning.next c.args.self.table.shared.key p.seen c.in-Some.machine) c.pass.view_is (known g c).0

pub returns-clause-mine : goal.returns-clause-mine
returns-clause-mine g c = subst (λ (p : PassView g.row.M.Denot). Owns p.mine (length (g.M.Meaning.log c.in-Some.machine))) c.pass.view_is (known g c).1
