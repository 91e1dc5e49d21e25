-- Where no write cuts bytes that are read, all of them come from where the first does.
use Rattle.std.proofs.Common.{◌≡◌, ℕ, zero, suc, ◌+◌, ◌/◌, ◌%◌, ◌<◌, ◌≤◌, ◌^◌, List, [], ◌∷◌, refl, sym, ap, ◌∙◌, arith, get_or, eqb, leb, ltb, max, Bool, true, false, ◌&&◌, ◌||◌, not, cond, inl, inr, ◌⊎◌}
use Rattle.std.proofs.lemmas.Bool.{and_from, and_left, and_parts, and_right, le-leb, le-ltb, leb-true, lt-leb, lt-ltb, or_cases}
use Rattle.std.specs.List.{list_all, list_any, range_with_len}
use Rattle.mach_types.proofs.Laws.{eqb_same}
use Rattle.rv_inst.specs.Accesses.{bytes}
use Rattle.rv_inst.specs.Words.{sum_64}
use Rattle.block_model.specs.Footprints.{has_byte}
use Rattle.fact_types.specs.declared.facts.Source.{Source}
use Rattle.fact_types.specs.declared.facts.Source.TheVariants.{Start, Memory, Waiting}
use Rattle.event_facts.specs.Cuts.{cut_by_long, cut_by_store, cuts}
use Rattle.event_facts.specs.Facts.{is_of_one}
use Rattle.event_facts.specs.Lines.{memory_source}
use Rattle.event_facts.specs.Sources.{same_source, source_over}
use Rattle.event_facts.specs.Tied.{kept_on, kept_source, line_in}
use Rattle.event_facts.specs.Written.{IsWordOf, last_line, line_at, lines_at}
use Rattle.event_facts.specs.declared.lines.Lines.{Lines}
use Rattle.event_facts.specs.declared.lines.Numbered.{Numbered}
use Rattle.event_facts.specs.declared.long_writes.LongWrite.{LongWrite}
use Rattle.event_facts.specs.declared.written.Word.{Word}

not_false : (b : Bool) → not b ≡ false → b ≡ true
not_false true is = refl
not_false false is = sym is

neither : (x y : Bool) → (x || y) ≡ false → (x ≡ false) × (y ≡ false)
neither true y is = absurd (cc)
neither false y is = (refl, is)

-- a write that cuts none of them has each of them or none
uncut : (from n at size k : ℕ) → cuts from n at size ≡ false → k < size → has_byte (bytes from n) (at + k) ≡ has_byte (bytes from n) at
uncut from n at size k is lt = go (or_cases _ _ (not_false _ is))
  where
    apart : (leb (from + n) at ≡ true) ⊎ (leb (at + size) from ≡ true) → has_byte (bytes from n) (at + k) ≡ has_byte (bytes from n) at
    apart (inl past) =
        let low = leb-true (from + n) at past in
        and_right (leb from (at + k)) (ltb (at + k) (from + n)) (le-ltb (at + k) (from + n) (omega arith))
        ∙ sym (and_right (leb from at) (ltb at (from + n)) (le-ltb at (from + n) (omega arith)))
    apart (inr before) =
        let high = leb-true (at + size) from before in
        and_left (leb from (at + k)) (ltb (at + k) (from + n)) (lt-leb from (at + k) (omega arith))
        ∙ sym (and_left (leb from at) (ltb at (from + n)) (lt-leb from at (omega arith)))

    go : ((leb (from + n) at || leb (at + size) from) ≡ true) ⊎ ((leb from at && leb (at + size) (from + n)) ≡ true)
        → has_byte (bytes from n) (at + k) ≡ has_byte (bytes from n) at
    go (inl either) = apart (or_cases _ _ either)
    go (inr whole) =
        let parts = and_parts (leb from at) (leb (at + size) (from + n)) whole in
        let low = leb-true from at parts.0 in
        let high = leb-true (at + size) (from + n) parts.1 in
        and_from (leb from (at + k)) (ltb (at + k) (from + n)) (le-leb from (at + k) (omega arith)) (lt-ltb (at + k) (from + n) (omega arith))
        ∙ sym (and_from (leb from at) (ltb at (from + n)) (le-leb from at (omega arith)) (lt-ltb at (from + n) (omega arith)))

-- so each byte comes from the same of some stores, where it comes from the same below them
behind_stores : (ws : List Numbered) (at size k : ℕ) (below : Source) → list_any (cut_by_store at size) ws ≡ false → k < size
    → source_over ws (at + k) below ≡ source_over ws at below
behind_stores [] at size k below none lt = refl
behind_stores (w ∷ ws) at size k below none lt =
    let parts = neither (cut_by_store at size w) (list_any (cut_by_store at size) ws) none in
    ap (λ b. source_over ws (at + k) (cond b (Waiting w.line) below)) (uncut w.store.at w.store.size at size k parts.0 lt)
    ∙ behind_stores ws at size k (cond (has_byte (bytes w.store.at w.store.size) at) (Waiting w.line) below) parts.1 lt

-- and was written last in the same line of some longer writes
behind_long : (xs : List LongWrite) (at size k earlier : ℕ) → list_any (cut_by_long at size) xs ≡ false → k < size
    → last_line xs (at + k) earlier ≡ last_line xs at earlier
behind_long [] at size k earlier none lt = refl
behind_long (x ∷ xs) at size k earlier none lt =
    let parts = neither (cut_by_long at size x) (list_any (cut_by_long at size) xs) none in
    ap (λ b. last_line xs (at + k) (cond b x.line earlier)) (uncut x.at x.length at size k parts.0 lt)
    ∙ behind_long xs at size k (cond (has_byte (bytes x.at x.length) at) x.line earlier) parts.1 lt

same_itself : (x : Source) → same_source x x ≡ true
same_itself Start = refl
same_itself (Memory n) = eqb_same n
same_itself (Waiting n) = eqb_same n

all_from : (p : ℕ → Bool) (n a : ℕ) → ((k : ℕ) → k < n → p (a + k) ≡ true) → list_all p (range_with_len a n) ≡ true
all_from p zero a each = refl
all_from p (suc n) a each =
    let first : a + 0 ≡ a = omega arith in
    ap (λ b. b && list_all p (range_with_len (a + 1) n)) (ap p (sym first) ∙ each 0 (omega arith))
    ∙ all_from p n (a + 1) (λ k lt. let next : a + 1 + k ≡ a + (k + 1) = omega arith in ap p next ∙ each (k + 1) (omega arith))

-- bytes of one word that was written last in one line, which no write cuts
pub of_one : (x : Lines) (known : Word) (h at size : ℕ) → IsWordOf x.written known → known.number ≡ at / 8 → at < 2 ^ 64 → at % 8 + size ≤ 8
    → ((k : ℕ) → k < size → get_or known.lines (at % 8 + k) 0 ≡ get_or known.lines (at % 8) 0)
    → list_any (cut_by_store at size) (kept_on x h) ≡ false → list_any (cut_by_long at size) x.long.items ≡ false
    → is_of_one (kept_source x h) at size ≡ true
of_one x known h at size word number fits within alike uncut_by uncut_by_long =
    all_from (λ k. same_source (kept_source x h (sum_64 at k)) (kept_source x h at)) size 0
    (λ k lt. ap (λ s. same_source s (kept_source x h at)) (same (0 + k) (omega arith)) ∙ same_itself (kept_source x h at))
  where
    lines_there : (a : ℕ) → a / 8 ≡ at / 8 → lines_at x.written (a / 8) ≡ known.lines
    lines_there a there = ap (lines_at x.written) (there ∙ sym number) ∙ sym word.lines

    line_there : (k : ℕ) → k < size → line_at x.written (at + k) ≡ line_at x.written at
    line_there k lt =
        let number_there : (at + k) / 8 ≡ at / 8 = omega arith in
        let place : (at + k) % 8 ≡ at % 8 + k = omega arith in
        (λ i. get_or (lines_there (at + k) number_there i) (place i) 0) ∙ alike k lt ∙ ap (λ ls. get_or ls (at % 8) 0) (sym (lines_there at refl))

    same : (k : ℕ) → k < size → kept_source x h (sum_64 at k) ≡ kept_source x h at
    same k lt =
        let small : sum_64 at k ≡ at + k = omega arith in
        ap (kept_source x h) small
        ∙ (λ i. source_over (kept_on x h) (at + k) (memory_source (max (line_there k lt i) (behind_long x.long.items at size k 0 uncut_by_long lt i))))
        ∙ behind_stores (kept_on x h) at size k (memory_source (line_in x at)) uncut_by lt
