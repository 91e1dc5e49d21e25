use Rattle.std.proofs.Common.{List, [], ◌≡◌, Contains, sym, subst}
use Rattle.mach_types.specs.declared.events.Entry.{Entry}
use Rattle.place_search.specs.Logs.{logs_of}
use Rattle.place_search.specs.declared.row.Row.{Row}
use Rattle.place_search.proofs.Logs.{has_first}
use Rattle.place_search.proofs.trying.Searcher.close.Goals as goal

empty_there : (rows : List Row) (log : List Entry) → log ≡ [] → Contains (logs_of rows) log
empty_there rows log none = subst (λ (l : List Entry). Contains (logs_of rows) l) (sym none) (has_first rows)

pub returns-in-Err-clause-nearest : goal.returns-in-Err-clause-nearest
returns-in-Err-clause-nearest c = empty_there c.args.self.now.visited.rows.items c.unknown-unknown.result.hopeless.nearest.items c.unknown-unknown.ensures

pub returns-in-Places-clause-nearest : goal.returns-in-Places-clause-nearest
returns-in-Places-clause-nearest c = empty_there c.args.self.now.visited.rows.items c.unknown-unknown.result.hopeless.nearest.items c.unknown-unknown.ensures

pub returns-in-Deep-clause-nearest : goal.returns-in-Deep-clause-nearest
returns-in-Deep-clause-nearest c = empty_there c.args.self.now.visited.rows.items c.unknown-unknown.result.hopeless.nearest.items c.unknown-unknown.ensures

pub returns-in-Memory-clause-nearest : goal.returns-in-Memory-clause-nearest
returns-in-Memory-clause-nearest c = empty_there c.args.self.now.visited.rows.items c.unknown-unknown.result.hopeless.nearest.items c.unknown-unknown.ensures

pub returns-in-Within-clause-nearest : goal.returns-in-Within-clause-nearest
returns-in-Within-clause-nearest c = empty_there c.args.self.now.visited.rows.items c.unknown-unknown.result.hopeless.nearest.items c.unknown-unknown.ensures
