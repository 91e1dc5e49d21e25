use Rattle.std.proofs.lemmas.Bool.{OnTrue_at}
use Rattle.std.proofs.lemmas.List.{with_items_is}
use Rattle.shared_procs.proofs.Common.{◌≡◌, ◌-◌, length, sym, ap, ◌∙◌, true, arith, byte_over, SEGMENT_AT, SEGMENT_SIZE, shared_in, with_word}
use Rattle.shared_procs.proofs.Segments.{shared-stored}
use Rattle.shared_procs.proofs.segment.Segment.put.Goals as goal

pub returns : goal.returns
returns c =
    λ a past.
    let bytes = c.self.inside.bytes in
    let place = c.args.at - SEGMENT_AT in
    let whole : length bytes.items ≡ SEGMENT_SIZE = c.self.invariant in
    let lent : c.deref_mut.result.now ≡ bytes.items = c.deref_mut.ensures.value in
    let long : length c.write_word.new.bytes ≡ bytes.len = c.write_word.auto.bytes ∙ (ap length lent ∙ sym bytes.ok.0) in
    let made : c.write_word.result ≡ true = c.write_word.ensures.fits.1 (omega (arith, ap length lent, whole, c.requires.from, c.requires.to)) in
    ap (λ xs. shared_in xs a) (with_items_is bytes c.write_word.new.bytes long)
    ∙ ap (λ xs. shared_in xs a) (OnTrue_at made c.write_word.ensures.written)
    ∙ ap (λ xs. shared_in (with_word xs place c.args.size c.args.value) a) lent
    ∙ shared-stored bytes.items c.args.at c.args.size c.args.value a whole c.requires.from c.requires.to past
    ∙ ap (λ xs. byte_over (record { at = c.args.at; size = c.args.size; value = c.args.value }) a (shared_in xs a)) c.self.view_is
