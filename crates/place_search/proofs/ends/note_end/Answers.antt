use Rattle.std.proofs.Common.{◌≡◌, true, false, inl, inr, refl}
use Rattle.std.specs.List.{list_any}
use Rattle.place_search.specs.Ends.{is_so}
use Rattle.place_search.proofs.Outcomes.{found_by, none_by}
use Rattle.place_search.proofs.ends.note_end.Goals as goal

pub returns-then-is_found-clause-ok : goal.returns-then-is_found-clause-ok
returns-then-is_found-clause-ok c =
    let known : list_any (is_so c.args.end c.args.console.now) c.args.outcomes.now.items ≡ true = cc (c.if-is_found.ensures, c.deref.ensures.value) in
    inl (found_by c.args.end c.args.console.now c.args.outcomes.now.items known, refl)

pub returns-clause-ok : goal.returns-clause-ok
returns-clause-ok c =
    let none : list_any (is_so c.args.end c.args.console.now) c.args.outcomes.now.items ≡ false = cc (c.if-is_found.ensures, c.deref.ensures.value) in
    inr (record {
      outcome = record { end = c.args.end; console = c.in_ok-console.console; log = c.in_ok-log.log };
      items = c.in_ok-push.ensures.items;
      end_is = refl;
      console_is = c.in_ok-console.ensures;
      log_is = c.in_ok-log.ensures;
      new = none_by c.args.end c.args.console.now c.args.outcomes.now.items none;
    })
