use Rattle.std.proofs.Common.{◌∙◌, ◌+◌, ◌/◌, sym, ap, ◌&&◌, Bool}
use Rattle.page_map.specs.Map.{may_write, permission_in}
use Rattle.page_map.proofs.Accesses.{access_size}
use Rattle.page_map.proofs.Readings.{writable_across_pages}
use Rattle.page_map.proofs.map.PageMap.writable_across.Goals as goal

pub returns-then-can_write : goal.returns-then-can_write
returns-then-can_write c =
    let m = c.args.self.now in
    c.can_write-then-can_write.ensures
    ∙ ap (λ (b : Bool). b && may_write (permission_in m (c.args.at / 4096 + 1))) (sym c.if-can_write.true ∙ c.can_write.ensures)
    ∙ sym (writable_across_pages m c.args.at c.args.size (access_size c.args.size c.requires.size).1 c.requires.across)

pub returns-else-can_write : goal.returns-else-can_write
returns-else-can_write c =
    let m = c.args.self.now in
    c.if-can_write.false
    ∙ ap (λ (b : Bool). b && may_write (permission_in m (c.args.at / 4096 + 1))) (sym c.if-can_write.false ∙ c.can_write.ensures)
    ∙ sym (writable_across_pages m c.args.at c.args.size (access_size c.args.size c.requires.size).1 c.requires.across)
