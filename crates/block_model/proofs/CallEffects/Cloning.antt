-- clone(2).
use Rattle.block_model.proofs.Common.{◌≡◌, ℕ, ◌&&◌, [], ◌∷◌, true, arith, Here, and_parts, are_writable, argument, has_flag, is_writable, next_number, not-false, word_written}
use Rattle.block_model.specs.Calls.Cloning.{clone, clone_child_settid, clone_errors, clone_parent_settid, may_write, written_if}
use Rattle.block_model.proofs.CallEffects.{CallDeed, Bears, by_errors}
use Rattle.block_model.proofs.WritableBytes.{AllWritable, both_writable, written_where}

-- a number is told where a flag asks for it
told : (here : Here) (flags flag p value : ℕ) → may_write here flags flag p ≡ true → AllWritable (is_writable here) (written_if flags flag p value)
told here flags flag p value may =
    written_where (is_writable here) (has_flag flags flag) (are_writable here p 4) (word_written p value ∷ []) may (λ can. ((omega arith, can), tt))

pub deed_clone : (here : Here) (t number : ℕ) → number ≡ 220 → CallDeed here t number (clone here t)
deed_clone here t number is =
    let flags = argument here t 0 in
    let child = next_number here.kernel in
    let parents = argument here t 2 in
    let own = argument here t 4 in
    let first = may_write here flags clone_parent_settid parents in
    let second = may_write here flags clone_child_settid own in
    by_errors (clone_errors here t) _ (λ none.
    let both = and_parts first second (not-false (first && second) none.1.1.0) in
    Bears _ (both_writable (is_writable here) (written_if flags clone_parent_settid parents child) (written_if flags clone_child_settid own child)
    (told here flags clone_parent_settid parents child both.0) (told here flags clone_child_settid own child both.1)) none.1.0 is)
