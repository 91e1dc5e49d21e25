use Rattle.std.proofs.Common.{◌≡◌, true, Some, None, sym, ap, ◌∙◌}
use Rattle.std.specs.Option.{option_map_or}
use Rattle.block_model.specs.Here.{view}
use Rattle.block_model.specs.Plain.{here_in_plain}
use Rattle.block_model.specs.Sequences.{area_here}
use Rattle.mach_types.specs.Kernel.Areas.{area_of}
use Rattle.process.specs.Harts.{file_of}
use Rattle.process.proofs.Laws.{hart_tied, view_is}
use Rattle.settling.specs.Settles.{are_past}
use Rattle.settling.proofs.Reading.{file_is, runs_is, settles_is}
use Rattle.settling.proofs.resting.is_settling.Goals as goal

pub returns-in_default-local_pc : goal.returns-in_default-local_pc
returns-in_default-local_pc c = λ s p tied lt code.
    let h = c.args.hart.0 in
    let here = here_in_plain s p h in
    let x = c.index-state.result.now in
    let own = hart_tied s p c.args.parts.now h x tied lt c.index-state.ensures in
    let at = runs_is s p h _ x c.in-Some.tid own (sym c.in-Some.is) in
    settles_is here c.in-Some.tid.0 (file_of x) c.args.code.now None at (file_is s p h _ x c.in-Some.tid.0 own at) code c.in_default-local_pc.ensures

pub returns-in-Some-area_of : goal.returns-in-Some-area_of
returns-in-Some-area_of c = λ s p tied lt code.
    let h = c.args.hart.0 in
    let here = here_in_plain s p h in
    let x = c.index-state.result.now in
    let t = c.in-Some.tid.0 in
    let pc = c.in-Some-local_pc.pc in
    let area = c.in-Some-area_of.area in
    let own = hart_tied s p c.args.parts.now h x tied lt c.index-state.ensures in
    let at = runs_is s p h _ x c.in-Some.tid own (sym c.in-Some.is) in
    let has : Some area ≡ area_here here t = sym c.in-Some-area_of.is ∙ c.area_of.ensures ∙ ap (area_of t) tied.tables.areas in
    c.are_past.ensures ∙ ap (λ byte. are_past byte area x.pc pc) (view_is s p c.args.parts.now h _ x tied own)
    ∙ ap (λ o. option_map_or (λ area. are_past (view here) area x.pc pc) o true) has
    ∙ settles_is here t (file_of x) c.args.code.now (Some pc) at (file_is s p h _ x t own at) code (sym c.in-Some-local_pc.is ∙ c.local_pc.ensures)

pub returns-in-None : goal.returns-in-None
returns-in-None c = λ s p tied lt code.
    let h = c.args.hart.0 in
    let here = here_in_plain s p h in
    let x = c.index-state.result.now in
    let t = c.in-Some.tid.0 in
    let pc = c.in-Some-local_pc.pc in
    let own = hart_tied s p c.args.parts.now h x tied lt c.index-state.ensures in
    let at = runs_is s p h _ x c.in-Some.tid own (sym c.in-Some.is) in
    let none : None ≡ area_here here t = sym c.in-None.is ∙ c.area_of.ensures ∙ ap (area_of t) tied.tables.areas in
    ap (λ o. option_map_or (λ area. are_past (view here) area x.pc pc) o true) none
    ∙ settles_is here t (file_of x) c.args.code.now (Some pc) at (file_is s p h _ x t own at) code (sym c.in-Some-local_pc.is ∙ c.local_pc.ensures)
