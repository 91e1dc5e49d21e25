use Rattle.std.proofs.Common.{rules, ◌∷◌, length, sym, refl, ap, ◌∙◌, subst}
use Rattle.std.specs.Prelude.{Some}
use Rattle.atomic_table.specs.Table.{rest}
use Rattle.machine_lock.specs.Passes.{PassView}
use Rattle.machine_lock.specs.Rule.{Runs}
use Rattle.machine_lock.specs.Views.{gave}
use Rattle.machine_lock.proofs.Keeps.{returns}
use Rattle.machine_lock.proofs.LogLemmas.{follows_length}
use Rattle.machine_lock.proofs.NumberLemmas.{owns_more}
use Rattle.machine_lock.specs.Turnstiles.{turnstile_of, origin_of, start_of}
use Rattle.machine_lock.proofs.PassLemmas.{whose, served, whole_away}
use Rattle.machine_lock.proofs.lock.Turnstile.give_turn.Goals as goal

pub fetch_add-requires : goal.fetch_add-requires
fetch_add-requires g c =
    let s = c.pass.inside.seat in
    let x = c.args.turn.machine in
    let table = c.args.self.now.table.shared in
    let of = whose (turnstile_of c.args.self.now) s c.args.pass.now c.pass.invariant c.pass.view_is c.requires.own in
    let at = served s c.args.pass.now c.pass.invariant c.pass.view_is c.requires.out in
    let e = c.exchange-old.ensures in
    let m = e.3 in
    let legal : Runs g.M.Meaning.setting g.M.Meaning.log g.M.Meaning.next table.key s.me.0.seen (g.M.Meaning.log x) =
    subst (λ (p : PassView g.row.M.Denot). Runs g.M.Meaning.setting g.M.Meaning.log g.M.Meaning.next (origin_of c.args.self.now) p.seen (g.M.Meaning.log x)) (sym c.pass.view_is) c.requires.legal in (
      e.0 ∙ of.0,
      search rules,
      returns g.M.Meaning.setting g.M.Meaning.log g.M.Meaning.next table.key _ _ c.exchange-old.new.seat.me x at.0 (ap (λ p. p.0.origin) m ∙ of.1) (ap (λ p. p.0.stage) m ∙ at.1)
          (ap (λ p. p.1) m ∙ ap (λ p. (0, Some x) ∷ rest p.1) (sym m))
          c.requires.setting
          (subst (λ p. Runs g.M.Meaning.setting g.M.Meaning.log g.M.Meaning.next table.key p.0.seen (g.M.Meaning.log x)) (sym m) legal),
    )

pub invariant_of-pass : goal.invariant_of-pass
invariant_of-pass g c =
    let s = c.pass.inside.seat in
    let w = c.pass.invariant in
    let x = c.args.turn.machine in
    let table = c.args.self.now.table.shared in
    let of = whose (turnstile_of c.args.self.now) s c.args.pass.now w c.pass.view_is c.requires.own in
    let at = served s c.args.pass.now w c.pass.view_is c.requires.out in
    let m = c.exchange-old.ensures.3 in
    let legal : Runs g.M.Meaning.setting g.M.Meaning.log g.M.Meaning.next (origin_of c.args.self.now) s.me.0.seen (g.M.Meaning.log x) =
    subst (λ (p : PassView g.row.M.Denot). Runs g.M.Meaning.setting g.M.Meaning.log g.M.Meaning.next (origin_of c.args.self.now) p.seen (g.M.Meaning.log x)) (sym c.pass.view_is) c.requires.legal in
    let after = c.fetch_add.ensures.2 x (ap (λ p. p.1) m ∙ ap (λ p. (0, Some x) ∷ rest p.1) (sym m)) in
    whole_away c.fetch_add.new.seat table.key (gave s.me.0 (g.M.Meaning.log x)) (after ∙ ap (λ p. (gave p.0 (g.M.Meaning.log x), rest p.1)) m ∙ ap (λ l. (gave s.me.0 (g.M.Meaning.log x), rest l)) at.2) of.1 refl refl w.sound.part
    (owns_more s.me.0.mine (length s.me.0.seen) (length (g.M.Meaning.log x)) (follows_length (g.M.Meaning.next (g.M.Meaning.setting (start_of c.args.self.now))) s.me.0.seen (g.M.Meaning.log x) legal) w.sound.owns)
