use Rattle.std.proofs.Common.{rules, List, [], ◌∷◌, refl, subst}
use Rattle.std.specs.Prelude.{Option, Some}
use Rattle.atomic_table.specs.Table.{opening}
use Rattle.machine_lock.specs.declared.history.Origin.{Origin}
use Rattle.machine_lock.specs.Rule.{Kept}
use Rattle.machine_lock.specs.Views.{opening_view}
use Rattle.machine_lock.proofs.Keeps.{opens}
use Rattle.machine_lock.proofs.PassLemmas.{whole_away}
use Rattle.machine_lock.proofs.lock.Turnstile.new.Goals as goal

pub new-requires : goal.new-requires
new-requires g c =
    let k : Origin g.row.M.Denot = record { start = c.of.result; seats = c.args.seats } in
    subst (λ (l : List (Option g.row.M.Denot)). Kept g.M.Meaning.setting g.M.Meaning.log g.M.Meaning.next k (opening (0 ∷ 0 ∷ []) l (opening_view g.M.Meaning.log k))) {x = Some c.args.machine ∷ []} {y = c.push.new.self.items} (search rules)
    (opens g.M.Meaning.setting g.M.Meaning.log g.M.Meaning.next k c.args.machine c.of.ensures c.ranges.seats.fits)

pub invariant_of-result : goal.invariant_of-result
invariant_of-result g c =
    let k : Origin g.row.M.Denot = record { start = c.of.result; seats = c.args.seats } in
    whole_away c.in-Ok.seat k (opening_view g.M.Meaning.log k) (search rules) refl refl refl c.requires.seats record { rises = tt; below = λ z i. absurd i }
