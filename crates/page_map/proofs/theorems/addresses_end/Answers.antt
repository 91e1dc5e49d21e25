use Rattle.std.proofs.Common.{ap, arith}
use Rattle.std.specs.Option.{option_map}
use Rattle.page_map.specs.Map.{Page}
use Rattle.page_map.specs.MapLaws.{page_in-past}
use Rattle.page_map.proofs.theorems.addresses_end.Goals as goal

pub returns : goal.returns
returns c m n past = ap (option_map (λ (p : Page). p.permission)) (page_in-past m n (omega arith))
