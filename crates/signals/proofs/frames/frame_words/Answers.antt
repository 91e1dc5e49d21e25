use Rattle.std.proofs.Common.{ℕ, List, ◌∷◌, ◌++◌, [], ap, ◌∙◌}
use Rattle.std.proofs.lemmas.List.{set_at}
use Rattle.signals.proofs.frames.frame_words.Goals as goal

pub returns-clause-words : goal.returns-clause-words
returns-clause-words c =
    let registers = c.copy_from_slice.new.self in
    let placed = set_at registers 0 (0 ∷ []) c.args.mask 31 c.copy_from_slice.ensures.len in
    ap (λ (ws : List ℕ). c.args.saved.now.pc ∷ ws) (placed ∙ ap (λ (ws : List ℕ). ws ++ (c.args.mask ∷ 0 ∷ [])) c.copy_from_slice.ensures.after)
