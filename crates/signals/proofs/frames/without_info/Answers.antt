use Rattle.std.proofs.Common.{ℕ, List, ◌∷◌, ◌++◌, [], slice_index, ap, ◌∙◌}
use Rattle.std.proofs.lemmas.List.{set_at}
use Rattle.signals.proofs.frames.without_info.Goals as goal

pub returns : goal.returns
returns c =
    let registers = c.copy_from_slice.new.self in
    let mask = slice_index c.args.words.now 21 in
    set_at registers 0 (0 ∷ []) mask 32 c.copy_from_slice.ensures.len ∙ ap (λ (ws : List ℕ). ws ++ (mask ∷ 0 ∷ [])) c.copy_from_slice.ensures.after
