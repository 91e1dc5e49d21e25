use Rattle.process.proofs.Common.{◌≡◌, sym, ap, ◌∙◌, option_map_or, is_inside, HartState, file_on, here_in_plain, named_here, is_inside_named}
use Rattle.mach_types.specs.declared.sequences.Named.TheVariants as names
use Rattle.process.proofs.HartStates.{hart_tied}
use Rattle.process.proofs.parts.Parts.is_inside.Goals as goal

pub returns-in-Good : goal.returns-in-Good
returns-in-Good c s p t tied lt at =
    let here = here_in_plain s p c.args.hart.0 in
    let sequence = c.in-Good.sequence in
    let own = hart_tied s p c.args.self.now c.args.hart.0 c.index.result.now tied lt c.index.ensures in
    let pc : c.index.result.now.pc ≡ (here.file t).pc = ap (λ (y : HartState). y.pc) own ∙ ap (λ o. (file_on here o).pc) at in
    let is : names.Good sequence ≡ named_here here t = sym c.in-Good.is ∙ c.named.ensures s p tied lt ∙ ap (λ o. option_map_or (named_here here) o names.Nothing) at in
    c.is_inside.ensures ∙ ap (is_inside sequence) pc ∙ ap (λ n. is_inside_named n (here.file t).pc) is
