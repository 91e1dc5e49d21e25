use Rattle.std.proofs.Common.{rules, sym}
use Rattle.page_map.proofs.Writings.{made-bytes, made-code, made-held}
use Rattle.page_map.proofs.map.PageMap.set_in_page.Goals as goal

pub returns-clause-stored : goal.returns-clause-stored
returns-clause-stored c =
    let m = c.args.self.now in
    let m' = c.write_in_page.new.self in
    let done = c.write_in_page.ensures in
    record {
      bytes = made-bytes m m' c.args.at c.args.size c.args.value done.pages 4 c.requires.page done.size;
      held = made-held m m' c.args.at c.args.size c.args.value done.pages c.requires.page done.size;
      permissions = search rules;
      code = made-code m m' c.args.at c.args.size c.args.value done.pages (sym c.if-not-can_write.ensures) done.permission;
      free = done.free;
      break_at = done.break_at;
      break_start = done.break_start;
    }
