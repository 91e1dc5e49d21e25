-- The pages with which a program starts (own).
use Rattle.std.specs.Prelude.{◌≡◌, []}
use Rattle.block_model.specs.Setting.{Setting}
use Rattle.page_map.specs.Map.{Map}
use Rattle.process.specs.declared.parts.Parts.{Parts}
use Rattle.same_places.specs.Replayed.{StandAfter}

-- these are the pages of parts that stand at the start of a run
pub record IsStart (s : Setting) (start : Map) : Type 0 where
  pub first : Parts
  pub stands : StandAfter s [] first
  pub pages : first.pages ≡ start
