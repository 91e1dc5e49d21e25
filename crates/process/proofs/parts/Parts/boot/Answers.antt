-- Parts that have done nothing yet are the plain machine's at its start.
use Rattle.process.proofs.Common.{◌≡◌, ◌∙◌, ap, None, refl, program_of, start_file, start_table, none_registered, areas_by_number, Parts}
use Rattle.process.proofs.Starts.{tied-start}
use Rattle.process.proofs.parts.Parts.boot.Goals as goal

pub returns-clause-tied : goal.returns-clause-tied
returns-clause-tied c =
    let parts : Parts = record {
      pages = c.in_ok-pages.pages;
      harts = c.in_ok-harts.harts;
      kernel = record { threads = c.in_ok-threads.threads; signals = c.new-signals.result; ready = c.new-ready.result; areas = c.new-areas.result; registered = none_registered; console = c.in_ok-console.console; random = 0 };
      ended = None;
    } in
    let first : c.in_ok-threads.threads ≡ start_table (start_file (program_of c.args.image.now)) = c.in_ok-threads.ensures.start ∙ ap start_table c.first_file.ensures in
    tied-start c.args.image.now c.args.limits parts c.requires.image.permissions c.in_ok-pages.ensures.permissions c.in_ok-pages.ensures.held
    (c.in_ok-pages.ensures.free ∙ c.in_ok-pool.ensures.free) c.in_ok-pages.ensures.break_at c.in_ok-pages.ensures.break_start
    c.in_ok-harts.ensures.count c.in_ok-harts.ensures.idle first c.new-signals.ensures c.new-ready.ensures refl c.in_ok-console.ensures refl
    (ap areas_by_number c.new-areas.ensures) c.in_ok-threads.ensures.table refl
