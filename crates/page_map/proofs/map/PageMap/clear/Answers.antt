use Rattle.page_map.proofs.Maps.{page-empty}
use Rattle.page_map.proofs.map.PageMap.clear.Goals as goal

pub returns-clause-pages : goal.returns-clause-pages
returns-clause-pages c n = page-empty _ n c.clear.ensures
