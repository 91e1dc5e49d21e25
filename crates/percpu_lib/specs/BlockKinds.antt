-- What an emitter is told of a block, and the kind that it is (own).
use Rattle.percpu_lib.specs.Kinds.{Kind, adds, allocs, frees, pops, pushes}
use Rattle.percpu_lib.specs.RingKinds.{RingKind, gets, puts}
use Rattle.percpu_lib.specs.declared.blocks.BlockKind.{BlockKind}
use Rattle.percpu_lib.specs.declared.blocks.BlockKind.TheVariants as kind
use Rattle.percpu_lib.specs.declared.rings.RingWay.{RingWay}
use Rattle.percpu_lib.specs.declared.rings.RingWay.TheVariants as way

abbrev pub kind_of : BlockKind → Kind
kind_of kind.Adds = adds
kind_of kind.Pushes = pushes
kind_of kind.Pops = pops
kind_of kind.Allocs = allocs
kind_of kind.Frees = frees

abbrev pub ring_kind_of : RingWay → RingKind
ring_kind_of way.In = puts
ring_kind_of way.Out = gets
