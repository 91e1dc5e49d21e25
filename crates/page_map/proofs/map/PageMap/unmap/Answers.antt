use Rattle.std.proofs.Common.{◌≡◌, ◌/◌, ◌∙◌, None, refl, sym, arith}
use Rattle.mach_types.specs.Kernel.Pages.{run}
use Rattle.mach_types.specs.Kernel.PageCalls.{munmap_refusal}
use Rattle.page_map.specs.Map.{permission_in}
use Rattle.page_map.proofs.Runs.{over-code, run-in}
use Rattle.page_map.proofs.Unrefused.{removable}
use Rattle.page_map.proofs.map.PageMap.unmap.Goals as goal

pub returns-clause-code : goal.returns-clause-code
returns-clause-code c =
    let free : munmap_refusal (permission_in c.args.self.now) c.args.at c.args.len ≡ None = sym c.unmap_refusal.ensures ∙ c.in_default.is in
    let may = removable (permission_in c.args.self.now) c.args.at c.args.len free in
    over-code c.args.self.now c.remove_pages.new.self (run (c.args.at / 4096) c.pages_of-count.result None) c.remove_pages.ensures.pages refl
    (λ n inside. let both = run-in (c.args.at / 4096) c.pages_of-count.result n None inside in
    may.bare n both.0 (omega (arith, both.1, c.pages_of-count.ensures)))
