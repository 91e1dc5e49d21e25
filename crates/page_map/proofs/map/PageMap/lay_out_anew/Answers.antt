use Rattle.std.proofs.Common.{◌≤◌, ℕ, subst, sym}
use Rattle.page_map.proofs.Starts.{end-below}
use Rattle.page_map.proofs.map.PageMap.lay_out_anew.Goals as goal

pub clear-requires : goal.clear-requires
clear-requires c =
    let image = c.requires in
    subst (λ (at : ℕ). at ≤ 137438953472) (sym image.break_at) (end-below c.args.image.now.pages.items image.below image.some_page)
