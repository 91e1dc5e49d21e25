use Rattle.page_map.proofs.Alike.{alike_holds, writable_is_visible}
use Rattle.page_map.proofs.theorems.alike_maps_hold_writes.Goals as goal

pub returns-clause-held : goal.returns-clause-held
returns-clause-held c m m' ws alike visible bytes a = alike_holds m m' ws alike visible bytes a

pub returns-clause-writable : goal.returns-clause-writable
returns-clause-writable c m at n all = writable_is_visible m at n all
