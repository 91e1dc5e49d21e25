use Rattle.std.proofs.Common.{◌≡◌, ◌≤◌, Global, List, Vec, Contains, length, not, false, sym, ap, ◌∙◌, subst, arith}
use Rattle.std.proofs.lemmas.List.Quantifiers.{position-Some}
use Rattle.std.proofs.lemmas.Result.{IfOk-weaker}
use Rattle.mach_types.specs.declared.events.Entry.{Entry}
use Rattle.place_search.specs.Logs.{log_at, logs_of}
use Rattle.place_search.specs.declared.row.Row.{Row}
use Rattle.place_search.proofs.Logs.{has_first, has_log}
use Rattle.place_search.proofs.trying.Searcher.first_log.Goals as goal

pub returns-in-Some-clause-visited : goal.returns-in-Some-clause-visited
returns-in-Some-clause-visited c =
    let rows = c.args.self.now.visited.rows.items in
    let place = c.in-Some.place in
    let first = position-Some not c.args.marks.now place false (sym c.in-Some.ensures) in
    let lt = first.0 in
    let size = c.requires.marks in
    let there : place ≤ length rows = omega arith in
    IfOk-weaker c.log_of.result (λ (log : Vec Entry Global). log.items ≡ log_at c.deref.result.now place) (λ (log : Vec Entry Global). Contains (logs_of rows) log.items)
    (λ log is. subst (λ (l : List Entry). Contains (logs_of rows) l) (sym (is ∙ ap (λ (r : List Row). log_at r place) c.deref.ensures.value)) (has_log rows place there)) c.log_of.ensures

pub returns-in-None-clause-visited : goal.returns-in-None-clause-visited
returns-in-None-clause-visited c =
    let rows = c.args.self.now.visited.rows.items in
    subst (λ (log : List Entry). Contains (logs_of rows) log) (sym c.new.ensures.items) (has_first rows)
