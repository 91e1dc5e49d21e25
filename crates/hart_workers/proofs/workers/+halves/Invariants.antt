use Rattle.std.proofs.Common.{◌+◌, ◌*◌}
use Rattle.hart_workers.proofs.workers.+halves.Given as goal

abbrev pub decreases-drive_many : goal.decreases-drive_many
decreases-drive_many g l = 3 * l.count + 2

abbrev pub decreases-drive_halves : goal.decreases-drive_halves
decreases-drive_halves g l = 3 * (l.count + l.half) + 1

abbrev pub decreases-drive_halves-lower : goal.decreases-drive_halves-lower
decreases-drive_halves-lower g l = 3 * l.count + 3

abbrev pub decreases-drive_halves-upper : goal.decreases-drive_halves-upper
decreases-drive_halves-upper g l = 3 * l.half + 3
