use Rattle.std.proofs.Common.{sym, ◌∙◌}
use Rattle.shared_procs.proofs.Segments.{outside}
use Rattle.shared_procs.proofs.Windows.{read_inside, read_outside}
use Rattle.shared_procs.proofs.window.WindowUserMem.get.Goals as goal

pub returns-then-is_within : goal.returns-then-is_within
returns-then-is_within c =
    let v = c.args.self.now in
    c.word.ensures ∙ read_inside v.segment.now v.pages.now c.args.at c.args.size (sym c.is_within.ensures ∙ c.if-is_within.true)

pub returns-else-is_within : goal.returns-else-is_within
returns-else-is_within c =
    let v = c.args.self.now in
    let out = outside c.args.at c.args.size c.requires (sym c.is_within.ensures ∙ c.if-is_within.false) in
    c.get.ensures ∙ read_outside v.pages.now c.keeps.ensures.gap v.segment.now c.args.at c.args.size out
