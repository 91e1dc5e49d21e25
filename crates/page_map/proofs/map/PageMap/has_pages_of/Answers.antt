use Rattle.std.proofs.lemmas.Bool.{OnTrue_at, OnTrue_from}
use Rattle.page_map.proofs.TakenPages.{alike-permissions}
use Rattle.page_map.proofs.map.PageMap.has_pages_of.Goals as goal

pub returns : goal.returns
returns c = OnTrue_from c.stands_as.result _ (λ yes.
    alike-permissions c.args.self.now c.args.other.now (OnTrue_at yes c.stands_as.ensures) c.has_places.ensures.placed c.has_places.ensures.there
    c.has_places-2.ensures.placed c.has_places-2.ensures.there)
