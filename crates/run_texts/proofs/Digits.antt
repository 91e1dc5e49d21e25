-- Each hart of a run is one digit.
use Rattle.std.proofs.Common.{◌≡◌, ◌<◌, ◌≤◌, All, List, arith, subst, sym}
use Rattle.mach_types.specs.declared.events.Entry.{Entry}
use Rattle.block_model.specs.Run.{IsBlockRun}
use Rattle.block_model.specs.Setting.{Seen, Setting}
use Rattle.block_model.proofs.Laws.{all_harts}

pub digits : (s : Setting) (log : List Entry) → s.limits.harts ≤ 8 → IsBlockRun s log
    → All (λ (e : Entry). e.hart.0 < 8) log
digits s log eight run = λ k d lt. let small = all_harts s log run k d lt in omega (arith, small, eight)

-- of one at whose end a machine is
pub digits_of : (s : Setting) (m : Seen) → s.limits.harts ≤ 8 → m.setting ≡ s → IsBlockRun m.setting m.log
    → All (λ (e : Entry). e.hart.0 < 8) m.log
digits_of s m eight setting run =
    digits m.setting m.log (subst (λ (t : Setting). t.limits.harts ≤ 8) (sym setting) eight) run
