use Rattle.page_map.proofs.Alike.{stored-alike}
use Rattle.page_map.proofs.access.PageMapUserMem.set.Goals as goal

pub returns-then-is_in_page-clause-alike : goal.returns-then-is_in_page-clause-alike
returns-then-is_in_page-clause-alike c =
    let set = c.set_in_page in
    stored-alike c.args.self.now set.new.self set.result c.args.at c.args.size c.args.value set.ensures.answer set.ensures.stored

pub returns-else-is_in_page-clause-alike : goal.returns-else-is_in_page-clause-alike
returns-else-is_in_page-clause-alike c =
    let set = c.set_across in
    stored-alike c.args.self.now set.new.self set.result c.args.at c.args.size c.args.value set.ensures.answer set.ensures.stored
