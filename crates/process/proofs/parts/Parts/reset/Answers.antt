use Rattle.process.proofs.Common.{◌≡◌, ◌∙◌, All, ap, length, refl, subst, sym, length-map, program_of, start_file, idle_hart, start_table, areas_by_number, HartState}
use Rattle.process.proofs.Starts.{all_idle, tied-start}
use Rattle.process.proofs.parts.Parts.reset.Goals as goal

pub returns-clause-idle : goal.returns-clause-idle
returns-clause-idle c = subst (All (λ hart. hart ≡ idle_hart)) (sym c.rest_all.ensures) (all_idle c.args.self.now.harts.items)

pub returns-clause-tied : goal.returns-clause-tied
returns-clause-tied c =
    let tables = c.restart_kernel.ensures in
    let first : c.restart_kernel.new.kernel.threads ≡ start_table (start_file (program_of c.args.image.now)) =
    tables.threads ∙ ap start_table c.first_file.ensures in
    let count : length c.rest_all.new.harts.items ≡ c.args.limits.harts =
    ap length c.rest_all.ensures ∙ length-map c.args.self.now.harts.items (λ (_ : HartState). idle_hart) ∙ c.requires.harts in
    tied-start c.args.image.now c.args.limits _ c.requires.image.permissions c.reset.ensures.permissions c.reset.ensures.held
    (c.reset.ensures.free ∙ c.requires.frames) c.reset.ensures.break_at c.reset.ensures.break_start count (returns-clause-idle c) first
    tables.signals tables.scheduling tables.registered tables.console tables.random (ap areas_by_number tables.areas) tables.table refl
