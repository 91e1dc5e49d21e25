use Rattle.byte_views.specs.Words.{word_at as number_at}
use Rattle.page_map.proofs.Laws.{some_where, word_of_bytes}
use Rattle.shared_procs.proofs.Common.{◌≡◌, ℕ, ◌+◌, ◌-◌, ◌<◌, Some, List, length, slice_index, sym, ap, ◌∙◌, arith, SEGMENT_AT, SEGMENT_SIZE, shared_in}
use Rattle.shared_procs.proofs.Segments.{small_byte}
use Rattle.shared_procs.proofs.segment.Segment.word.Goals as goal

pub returns : goal.returns
returns c =
    let segment : List ℕ = c.args.self.now in
    let at = c.args.at in
    let size = c.args.size in
    let place = at - SEGMENT_AT in
    let lent : c.deref.result.now ≡ segment = c.deref.ensures.value ∙ c.self.view_is in
    let whole : length c.deref.result.now ≡ SEGMENT_SIZE = ap length c.deref.ensures.value ∙ c.self.invariant in
    some_where c.number_in.result _ _ c.number_in.ensures.number (omega (arith, whole, c.requires.from, c.requires.to))
    ∙ ap (λ (xs : List ℕ). Some (number_at xs place size)) lent
    ∙ sym
    (word_of_bytes (λ a. Some (shared_in segment a)) segment at place size
    (λ k lt.
    let there : at + k - SEGMENT_AT ≡ place + k = omega (arith, c.requires.from) in
    let below : slice_index segment (at + k - SEGMENT_AT) < 256 =
    omega (arith, c.number_in.ensures.small (at + k - SEGMENT_AT), ap (λ (xs : List ℕ). slice_index xs (at + k - SEGMENT_AT)) lent) in
    ap Some (small_byte (slice_index segment (at + k - SEGMENT_AT)) below) ∙ ap (λ j. Some (slice_index segment j)) there))
