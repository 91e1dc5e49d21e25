-- The pages of a program that may be executed are all that its instructions are read from.
use Rattle.process.proofs.Common.{◌≡◌, ◌≢◌, ℕ, ◌+◌, ◌-◌, ◌/◌, ◌%◌, ◌<◌, ◌&&◌, List, [], ◌∷◌, ◌++◌, length, map, filter, refl, sym, ap, ◌∙◌, arith, Bool, true, false, cond, eqb, ltb, get_or, Option, Some, None, zero, suc, IsStrictlyIncreasing, option_map_or, eqb-true, false≢true, ne_eqb, length-map, AllPairs-from_increasing, is_in, code_word, page_of, return_run, stack_run, Effect, ImagePage, sets_register, fetched, code_of, word_of_page, if◌then◌else◌, AllPairs, cond_both, get_or-map, AllPairs-filter, effect_of, is_executable}
use Rattle.block_model.specs.Stretches.{Stretch, file_after, gone_on, longest, worked}
use Rattle.process.proofs.Fetches.{four_bytes, word_of_image}

-- the number of a page is below that of another
abbrev IsBelow : ImagePage → ImagePage → Type 0
IsBelow p q = p.number < q.number

pairs_of : (pages : List ImagePage) → IsStrictlyIncreasing (map (λ (p : ImagePage). p.number) pages) → AllPairs IsBelow pages
pairs_of pages rising i j d before within =
    let long = length-map pages (λ (p : ImagePage). p.number) in
    let below = AllPairs-from_increasing (map (λ (p : ImagePage). p.number) pages) rising i j d.number before (omega (arith, long, within)) in
    rw (
      ← get_or-map (λ (p : ImagePage). p.number) pages i d d.number (omega (arith, before, within)),
      ← get_or-map (λ (p : ImagePage). p.number) pages j d d.number within,
    ) below

rises : (pages : List ImagePage) → AllPairs IsBelow pages → IsStrictlyIncreasing (map (λ (p : ImagePage). p.number) pages)
rises [] pairs k within = absurd (omega (arith, within))
rises (p ∷ pages) pairs k within =
    let long = length-map (p ∷ pages) (λ (q : ImagePage). q.number) in
    rw (
      get_or-map (λ (q : ImagePage). q.number) (p ∷ pages) k p 0 (omega (arith, long, within)),
      get_or-map (λ (q : ImagePage). q.number) (p ∷ pages) (k + 1) p 0 (omega (arith, long, within)),
    )
    (pairs k (k + 1) p (omega arith) (omega (arith, long, within)))

-- the executable pages of a program rise as all its pages do
pub code_rises : (pages : List ImagePage) → IsStrictlyIncreasing (map (λ (p : ImagePage). p.number) pages)
    → IsStrictlyIncreasing (map (λ (p : ImagePage). p.number) (code_of pages))
code_rises pages rising = rises (code_of pages) (AllPairs-filter IsBelow is_executable pages (pairs_of pages rising))

-- no page behind one has its number
none_behind : (p : ImagePage) (n : ℕ) (pages : List ImagePage) → eqb p.number n ≡ true → ((i : ℕ) (d : ImagePage) → i < length pages → p.number < (get_or pages i d).number)
    → page_of (filter is_executable pages) n ≡ None
none_behind p n [] same above = refl
none_behind p n (q ∷ pages) same above =
    let other : eqb q.number n ≡ false = ne_eqb q.number n (λ is. omega (arith, is, eqb-true p.number n same, above 0 q (omega arith))) in
    let rest = none_behind p n pages same (λ i d within. above (suc i) d (omega (arith, within))) in
    cond_both (is_executable q) (q ∷ filter is_executable pages) (filter is_executable pages) (λ qs. page_of qs n ≡ None)
    (λ executable. rw other rest) (λ not_so. rest)

-- a page where it may be executed
abbrev if_executable : Option ImagePage → Option ImagePage
if_executable None = None
if_executable (Some p) = if is_executable p then Some p else None

page_of_code : (n : ℕ) (pages : List ImagePage) → AllPairs IsBelow pages → page_of (filter is_executable pages) n ≡ if_executable (page_of pages n)
page_of_code n [] pairs = refl
page_of_code n (p ∷ pages) pairs =
    by_number (eqb p.number n) refl
    (page_of_code n pages (λ i j d before within. pairs (suc i) (suc j) d (omega (arith, before)) (omega (arith, within))))
  where
    own : (e : Bool) → eqb p.number n ≡ true → page_of (filter is_executable pages) n ≡ None
        → page_of (cond e (p ∷ filter is_executable pages) (filter is_executable pages)) n ≡ cond e (Some p) None
    own true same none = rw same refl
    own false same none = none

    passed : (e : Bool) → eqb p.number n ≡ false → page_of (filter is_executable pages) n ≡ if_executable (page_of pages n)
        → page_of (cond e (p ∷ filter is_executable pages) (filter is_executable pages)) n ≡ if_executable (page_of pages n)
    passed true other rest = rw other rest
    passed false other rest = rest

    by_number : (b : Bool) → eqb p.number n ≡ b → page_of (filter is_executable pages) n ≡ if_executable (page_of pages n)
        → page_of (filter is_executable (p ∷ pages)) n ≡ if_executable (cond b (Some p) (page_of pages n))
    by_number true same rest =
        own (is_executable p) same (none_behind p n pages same (λ i d within. pairs 0 (suc i) d (omega arith) (omega (arith, within))))
    by_number false other rest = passed (is_executable p) other rest

word_if_executable : (o : Option ImagePage) (k : ℕ) → word_of_page (if_executable o) k ≡ word_of_page o k
word_if_executable None k = refl
word_if_executable (Some p) k = go (is_executable p) refl
  where
    go : (b : Bool) → is_executable p ≡ b → word_of_page (cond b (Some p) None) k ≡ word_of_page (Some p) k
    go true is = refl
    go false is = rw is refl

-- each word that is fetched is the same
code_word_same : (pages : List ImagePage) (a : ℕ) → AllPairs IsBelow pages → a % 4 ≡ 0 → code_word (code_of pages) a ≡ code_word pages a
code_word_same pages a pairs aligned = by_stack (is_in stack_run (a / 4096)) refl
  where
    by_return : (b : Bool) → is_in stack_run (a / 4096) ≡ false → is_in return_run (a / 4096) ≡ b → code_word (code_of pages) a ≡ code_word pages a
    by_return true outside returns = four_bytes (code_of pages) a aligned ∙ (rw (outside, returns) refl ∙ sym (four_bytes pages a aligned))
    by_return false outside elsewhere =
        let other : a / 4096 ≢ 0x3FFFFF0 = λ is. absurd (false≢true (sym elsewhere ∙ (ap (is_in return_run) is ∙ refl))) in
        word_of_image (code_of pages) a aligned outside other
        ∙ (ap (λ o. word_of_page o (a % 4096)) (page_of_code (a / 4096) pages pairs)
        ∙ (word_if_executable (page_of pages (a / 4096)) (a % 4096) ∙ sym (word_of_image pages a aligned outside other)))

    by_stack : (b : Bool) → is_in stack_run (a / 4096) ≡ b → code_word (code_of pages) a ≡ code_word pages a
    by_stack true inside = four_bytes (code_of pages) a aligned ∙ (rw inside refl ∙ sym (four_bytes pages a aligned))
    by_stack false outside = by_return (is_in return_run (a / 4096)) outside refl

fetched_same : (pages : List ImagePage) (pc : ℕ) → AllPairs IsBelow pages → fetched (code_of pages) pc ≡ fetched pages pc
fetched_same pages pc pairs = go (eqb (pc % 4) 0) refl
  where
    go : (b : Bool) → eqb (pc % 4) 0 ≡ b → cond b (code_word (code_of pages) pc) None ≡ cond b (code_word pages pc) None
    go true aligned = code_word_same pages pc pairs (eqb-true (pc % 4) 0 aligned)
    go false aligned = refl

-- so a stretch that is worked over the code is worked over the program
gone_on_same : (pages : List ImagePage) (l : Stretch) → AllPairs IsBelow pages → gone_on (code_of pages) l ≡ gone_on pages l
gone_on_same pages l pairs =
    ap (λ w. let o : Option Effect = effect_of w l.file in
    cond (ltb 0 l.credit && ltb (length l.pcs) longest && option_map_or sets_register o false)
    (record l { file = option_map_or (file_after l.file) o l.file; credit = l.credit - 1; pcs = l.pcs ++ l.file.pc ∷ [] }) l) (fetched_same pages l.file.pc pairs)

pub code_enough : (pages : List ImagePage) (n : ℕ) (l : Stretch) → IsStrictlyIncreasing (map (λ (p : ImagePage). p.number) pages)
    → worked n (code_of pages) l ≡ worked n pages l
code_enough pages n l rising = go n l
  where
    go : (n : ℕ) (l : Stretch) → worked n (code_of pages) l ≡ worked n pages l
    go zero l = refl
    go (suc n) l = ap (worked n (code_of pages)) (gone_on_same pages l (pairs_of pages rising)) ∙ go n (gone_on pages l)
