use Rattle.std.proofs.Common.{◌∙◌, Option, sym, ap}
use Rattle.std.specs.Option.{option_map}
use Rattle.page_map.specs.Map.{Page, may_write}
use Rattle.page_map.proofs.Writings.{write_alone}
use Rattle.page_map.proofs.map.PageMap.can_write.Goals as goal

pub returns-in-Some : goal.returns-in-Some
returns-in-Some c =
    let found = c.in-Some.ensures in
    sym (write_alone c.in-Some.page.now.permission found.permission)
    ∙ ap (λ (o : Option Page). may_write (option_map (λ (p : Page). p.permission) o)) found.page
