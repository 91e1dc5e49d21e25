use Rattle.std.proofs.Common.{◌≡◌, ◌<◌, ◌≤◌, ◌++◌, length, reverse, sym, ap, subst, ◌∙◌, arith}
use Rattle.place_search.specs.Logs.{log_at}
use Rattle.place_search.specs.declared.row.Row.{Row}
use Rattle.place_search.proofs.Logs.{parent_there, path_first, path_next}
use Rattle.place_search.proofs.paths.log_of.Goals as goal

pub back-preserved : goal.back-preserved
back-preserved c =
    let rows = c.args.rows.now in
    let at = c.back.at in
    let some : 0 < at = omega arith in
    let is = sym c.index-rows-at.is in
    record {
      place = subst (λ (r : Row). r.parent ≤ length rows) is (parent_there rows at _ c.requires.parents c.back.invariant.place some);
      path = subst (λ (r : Row). log_at rows r.parent ++ reverse c.put_back.new.log.items ≡ log_at rows c.args.place) is
          (path_next rows at _ c.back.log.items c.put_back.new.log.items (log_at rows c.args.place) c.requires.parents c.back.invariant.place some
          (c.in_ok-put_back.ensures ∙ ap (λ (r : Row). c.back.log.items ++ r.entries.items) (sym is)) c.back.invariant.path);
    }

pub returns : goal.returns
returns c =
    let none : c.back.at ≡ 0 = omega arith in
    c.reverse.ensures.items ∙ path_first c.args.rows.now c.back.at c.back.log.items _ none c.back.invariant.path
