use Rattle.std.proofs.Common.{◌/◌, ◌%◌}
use Rattle.page_map.specs.Map.{page_in}
use Rattle.page_map.proofs.Readings.{if-held}
use Rattle.page_map.proofs.theorems.held_bytes_are_seen.Goals as goal

pub returns-clause-bytes : goal.returns-clause-bytes
returns-clause-bytes c m a = if-held 4 (a % 4096) (page_in m (a / 4096))

pub returns-clause-code : goal.returns-clause-code
returns-clause-code c m a = if-held 1 (a % 4096) (page_in m (a / 4096))
