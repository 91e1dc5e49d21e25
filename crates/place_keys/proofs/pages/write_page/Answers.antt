use Rattle.std.proofs.Common.{◌≡◌, ◌∙◌, ◌+◌, ◌-◌, ◌*◌, ◌/◌, ◌<◌, ◌≤◌, ℕ, List, Option, Some, None, ap, sym, refl, arith}
use Rattle.std.specs.Option.{option_map}
use Rattle.std.proofs.lemmas.Bool.Decides.{Decides-eqb}
use Rattle.std.proofs.lemmas.Slice.Eq.{slice_eq-Decides}
use Rattle.page_map.specs.Map.{Map, Page, page_in}
use Rattle.place_keys.specs.PageWords.{memory_word, page_word, start_word}
use Rattle.place_keys.proofs.Codes.{if_ok}
use Rattle.place_keys.proofs.DifferenceCodes.{skipped}
use Rattle.place_keys.proofs.MemoryWords.{memory_there, unmapped_word}
use Rattle.place_keys.proofs.pages.write_page.Goals as goal

-- the words of the page that has these bytes
words_of : (m start : Map) (n k : ℕ) (bytes : List ℕ) (o : Option Page) → k < 512 → page_in m n ≡ o → Some bytes ≡ option_map (λ (p : Page). p.bytes) o → memory_word start m (512 * n + k) ≡ page_word bytes k
words_of m start n k bytes None lt at e = cc
words_of m start n k bytes (Some p) lt at e =
    let same : p.bytes ≡ bytes = cc in
    memory_there m n k lt start p at ∙ ap (λ (bs : List ℕ). page_word bs k) same

-- one word that is as at the start
same_word : (m start : Map) (n : ℕ) (bytes first : List ℕ) → first ≡ bytes → ((k : ℕ) → k < 512 → memory_word start m (512 * n + k) ≡ page_word bytes k)
    → ((k : ℕ) → k < 512 → start_word start (512 * n + k) ≡ page_word first k) → (j : ℕ) → 512 * n ≤ j → j < 512 * n + 512 → memory_word start m j ≡ start_word start j
same_word m start n bytes first same now old j low high =
    let place : j ≡ 512 * n + (j - 512 * n) = omega arith in
    let lt : j - 512 * n < 512 = omega arith in
    ap (memory_word start m) place ∙ now (j - 512 * n) lt ∙ ap (λ (bs : List ℕ). page_word bs (j - 512 * n)) (sym same) ∙ sym (old (j - 512 * n) lt) ∙ ap (start_word start) (sym place)

no_page : (o : Option Page) → None ≡ option_map (λ (p : Page). p.bytes) o → o ≡ None
no_page None e = refl
no_page (Some p) e = cc

pub returns-in_default-clause-order : goal.returns-in_default-clause-order
returns-in_default-clause-order c = let order : c.args.past ≤ 512 * c.args.number = c.requires.order in omega arith

pub returns-in_default-clause-written : goal.returns-in_default-clause-written
returns-in_default-clause-written c =
    let n = c.args.number in
    let start = c.args.start.now in
    let m = c.args.pages.now in
    skipped (start_word start) (memory_word start m) c.args.words.now.items c.args.past (512 * n) (512 * n + 512) c.requires.order (omega arith)
    (λ j low high.
    let number : j / 512 ≡ n = omega arith in
    unmapped_word start m j (ap (page_in m) number ∙ no_page (page_in m n) c.in_default.ensures.bytes))

pub returns-then-eq-clause-order : goal.returns-then-eq-clause-order
returns-then-eq-clause-order c = let order : c.args.past ≤ 512 * c.args.number = c.requires.order in omega arith

pub returns-then-eq-clause-written : goal.returns-then-eq-clause-written
returns-then-eq-clause-written c =
    let n = c.args.number in
    let same : c.in-Some.bytes.now ≡ c.start_bytes-old.result.now = (slice_eq-Decides Decides-eqb _ _ _ c.eq.ensures).0 c.if-eq.true in
    skipped (start_word c.args.start.now) (memory_word c.args.start.now c.args.pages.now) c.args.words.now.items c.args.past (512 * n) (512 * n + 512) c.requires.order (omega arith)
    (same_word c.args.pages.now c.args.start.now n c.in-Some.bytes.now c.start_bytes-old.result.now (sym same)
    (λ k lt. words_of c.args.pages.now c.args.start.now n k c.in-Some.bytes.now (page_in c.args.pages.now n) lt refl c.in-Some.ensures.bytes) c.start_bytes-old.ensures.words)

pub returns-clause-order : goal.returns-clause-order
returns-clause-order c = c.write_page_words.ensures.order

pub returns-clause-written : goal.returns-clause-written
returns-clause-written c =
    let n = c.args.number in
    if_ok c.write_page_words.result _ _ (λ last all. all (start_word c.args.start.now) (memory_word c.args.start.now c.args.pages.now) c.start_bytes-old.ensures.words
    (λ k lt. words_of c.args.pages.now c.args.start.now n k c.in-Some.bytes.now (page_in c.args.pages.now n) lt refl c.in-Some.ensures.bytes)) c.write_page_words.ensures.written
