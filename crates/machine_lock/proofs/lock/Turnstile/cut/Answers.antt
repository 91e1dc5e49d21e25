use Rattle.std.proofs.Common.{rules, ap, refl, ◌∙◌}
use Rattle.machine_lock.specs.Passes.{IsWhole}
use Rattle.machine_lock.specs.Views.{left_of, right_of}
use Rattle.machine_lock.proofs.Keeps.{splits}
use Rattle.machine_lock.specs.Turnstiles.{turnstile_of}
use Rattle.machine_lock.proofs.PassLemmas.{whose, idle, whole_away}
use Rattle.machine_lock.proofs.lock.Turnstile.cut.Given as given
use Rattle.machine_lock.proofs.lock.Turnstile.cut.Goals as goal

pub split_seat-requires : goal.split_seat-requires
split_seat-requires g c =
    let s = c.pass.inside.seat in
    let of = whose (turnstile_of c.args.self.now) s c.args.pass.now c.pass.invariant c.pass.view_is c.requires.own in
    let at = idle s c.args.pass.now c.pass.invariant c.pass.view_is c.requires.idle in (
      of.0,
      search rules,
      splits g.M.Meaning.setting g.M.Meaning.log g.M.Meaning.next c.args.self.now.table.shared.key s.id s.me.0 g.K.Count.parts of.1 at.0 (search rules),
    )

-- both halves of the pass are whole
halves : (g : given.Over) (c : goal.After-split_seat g) → IsWhole c.split_seat.new.seat × IsWhole c.split_seat.result
halves g c =
    let s = c.pass.inside.seat in
    let v = s.me.0 in
    let w = c.pass.invariant in
    let key = c.args.self.now.table.shared.key in
    let of = whose (turnstile_of c.args.self.now) s c.args.pass.now w c.pass.view_is c.requires.own in
    let at = idle s c.args.pass.now w c.pass.view_is c.requires.idle in (
      whole_away c.split_seat.new.seat key (left_of g.K.Count.parts v) (c.split_seat.ensures.2 ∙ ap (λ l. (left_of g.K.Count.parts v, l)) at.1) of.1 w.looked at.0 (search rules) w.sound.owns,
      whole_away c.split_seat.result key (right_of g.K.Count.parts v) c.split_seat.ensures.4 of.1 w.looked refl (search rules) record { rises = tt; below = λ z i. absurd i },
    )

pub invariant_of-pass : goal.invariant_of-pass
invariant_of-pass g c = (halves g c).0

pub invariant_of-result : goal.invariant_of-result
invariant_of-result g c = (halves g c).1
