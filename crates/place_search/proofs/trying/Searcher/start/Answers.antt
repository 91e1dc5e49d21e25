use Rattle.std.proofs.Common.{◌≡◌, ◌≤◌, ◌<◌, ℕ, List, [], length, sym, ap, ◌∙◌, subst, arith}
use Rattle.place_search.specs.declared.row.Row.{Row}
use Rattle.std.proofs.lemmas.List.Elements.{All-nil}
use Rattle.place_search.specs.Logs.{AreSingle}
use Rattle.block_model.proofs.Laws.{start_run}
use Rattle.place_search.specs.Searching.{setting_for, ways_of}
use Rattle.place_search.specs.Logs.{logs_of}
use Rattle.place_search.specs.Preemptions.{ArePaid, budget_of, cost_of}
use Rattle.place_search.proofs.Graphs.{no_edges}
use Rattle.place_search.proofs.Preemptions.{paid_first}
use Rattle.place_search.proofs.Starts.{ends_first, keyed_first, started_same}
use Rattle.place_search.proofs.trying.Searcher.start.Goals as goal

few_rows : (rows : List Row) (most : ℕ) → rows ≡ [] → 1 ≤ most → length rows < most
few_rows rows most none some = let size : length rows ≡ 0 = ap (λ (r : List Row). length r) none in omega arith

pub stand_after-requires-clause-run : goal.stand_after-requires-clause-run
stand_after-requires-clause-run c = start_run (setting_for c.args.task.now)

pub returns-clause-searching : goal.returns-clause-searching
returns-clause-searching c =
    let s = setting_for c.args.task.now in
    let made = c.stand_after.new.self in
    let started = started_same s c.in_ok-made.made.start made.start c.in_ok-stand_after.ensures.start c.in_ok-made.ensures.started in
    record {
      visited = keyed_first s c.args.task.now.signals made.start c.first-visited.result c.note.new.self c.first-visited.ensures (start_run s) made.parts c.in_ok-stand_after.ensures.stands
          c.in_ok-note.ensures.ok c.deref.result.now c.put.new.self (c.deref.ensures.value ∙ c.in_ok-key.ensures) c.in_ok-put.ensures.ok;
      started = started;
      code = c.in_ok-stand_after.ensures.code ∙ c.in_ok-made.ensures.code;
      standing = c.in_ok-stand_after.ensures.standing;
      graph = no_edges s (ways_of c.args.task.now) (logs_of c.note.new.self.rows.items) c.new.result c.new.ensures.edges c.new.ensures.ended;
      few = few_rows c.note.new.self.rows.items c.args.task.now.most (c.in_ok-note.ensures.ok.rows ∙ c.first-visited.ensures.rows) c.requires.some;
      single = λ off. subst (λ (rows : List Row). AreSingle rows) (sym (c.in_ok-note.ensures.ok.rows ∙ c.first-visited.ensures.rows)) (All-nil (λ (row : Row). length row.entries.items ≡ 1));
      paid = subst (ArePaid (cost_of c.args.task.now.preemptions) (budget_of c.args.task.now.preemptions)) (sym (c.in_ok-note.ensures.ok.rows ∙ c.first-visited.ensures.rows))
          (paid_first (cost_of c.args.task.now.preemptions) (budget_of c.args.task.now.preemptions));
    }

pub returns-clause-ends : goal.returns-clause-ends
returns-clause-ends c =
    let s = setting_for c.args.task.now in
    ends_first s c.args.task.now.signals c.stand_after.new.self.start c.first-visited.result c.note.new.self c.first-visited.ensures (start_run s) c.stand_after.new.self.parts c.in_ok-stand_after.ensures.stands c.in_ok-note.ensures.ok
