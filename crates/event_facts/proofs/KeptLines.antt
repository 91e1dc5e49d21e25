-- The stores that are kept of each hart, and where a byte comes from behind them.
use Rattle.std.proofs.Common.{◌≡◌, ◌≢◌, ℕ, ◌+◌, ◌<◌, List, [], ◌∷◌, ◌++◌, length, map, drop, get_or, set, sym, ap, ◌∙◌, arith, Vec, Global}
use Rattle.std.proofs.lemmas.List.{drop_more, get_or-map, get_or-set_other, get_or-set_same, length-map, map-set}
use Rattle.fact_types.specs.declared.facts.Source.{Source}
use Rattle.event_facts.specs.Sources.{source_over}
use Rattle.event_facts.specs.Tied.{items_at}
use Rattle.event_facts.specs.declared.lines.Numbered.{Numbered}

abbrev items : Vec Numbered Global → List Numbered
items v = v.items

-- of a hart of which others are kept now, of another one, and as they are read
pub items-here : (kept : List (Vec Numbered Global)) (i : ℕ) (v : Vec Numbered Global) → i < length kept → items_at (set kept i v) i ≡ v.items
items-here kept i v lt =
    ap (λ (xs : List (List Numbered)). get_or xs i []) (map-set items kept i v)
    ∙ get_or-set_same (map items kept) i v.items [] (omega (arith, length-map kept items))

pub items-other : (kept : List (Vec Numbered Global)) (i j : ℕ) (v : Vec Numbered Global) → j ≢ i → items_at (set kept i v) j ≡ items_at kept j
items-other kept i j v other =
    ap (λ (xs : List (List Numbered)). get_or xs j []) (map-set items kept i v) ∙ get_or-set_other (map items kept) i j v.items [] other

pub items-read : (kept : List (Vec Numbered Global)) (i : ℕ) (v : Vec Numbered Global) → i < length kept → v ≡ get_or kept i v → v.items ≡ items_at kept i
items-read kept i v lt is = ap items is ∙ sym (get_or-map items kept i v [] lt)

-- the source of a byte behind the stores from one on, past the next of them
pub source_step : (ws : List Numbered) (i a : ℕ) (d : Numbered) (below : Source) → i < length ws
    → source_over (drop i ws) a below ≡ source_over (get_or ws i d ∷ drop (i + 1) ws) a below
source_step ws i a d below lt = ap (λ xs. source_over xs a below) (drop_more ws i d lt)

-- the stores of a hart that executed some and of which some entered memory, and those of the others
pub noted_own : (kept : List (Vec Numbered Global)) (r h : ℕ) (v0 v1 v2 : Vec Numbered Global) (n : ℕ) (ys : List Numbered) → r ≡ h → h < length kept
    → v0 ≡ get_or kept r v0 → v1.items ≡ v0.items ++ ys → v2.items ≡ drop n v1.items → items_at (set kept r v2) h ≡ drop n (items_at kept h ++ ys)
noted_own kept r h v0 v1 v2 n ys same lt read pushed dropped =
    let was = items-read kept h v0 lt (read ∙ ap (λ i. get_or kept i v0) same) in
    ap (λ i. items_at (set kept i v2) h) same ∙ items-here kept h v2 lt ∙ dropped ∙ ap (drop n) (pushed ∙ ap (λ xs. xs ++ ys) was)

pub noted_others : (kept : List (Vec Numbered Global)) (r h : ℕ) (v : Vec Numbered Global) → r ≡ h → (k : ℕ) → k ≢ h → items_at (set kept r v) k ≡ items_at kept k
noted_others kept r h v same k other = ap (λ i. items_at (set kept i v) k) same ∙ items-other kept h k v other
