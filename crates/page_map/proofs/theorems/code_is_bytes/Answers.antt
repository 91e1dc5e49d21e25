use Rattle.page_map.specs.MapLaws.{byte_if-small}
use Rattle.page_map.proofs.theorems.code_is_bytes.Goals as goal

pub returns : goal.returns
returns c m a b is = byte_if-small 1 m a b is
