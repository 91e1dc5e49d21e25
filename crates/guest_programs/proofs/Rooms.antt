-- The labels of each block are free when it is appended.
use Rattle.std.proofs.Common.{◌≡◌, ℕ, zero, suc, ◌+◌, ◌<◌, List, [], ◌∷◌, ◌++◌, length, drop, get_or, refl, sym, ap, ◌∙◌, subst, arith}
use Rattle.std.proofs.Common.{Bool, true, false, Option, Some, None, slice_get, replicate, add-one, drop-cons, length-append}
use Rattle.std.specs.List.{list_all}
use Rattle.std.proofs.lemmas.Bool.{and_parts, false≢true}
use Rattle.rv_asm.specs.Assembly.{Assembly, empty}
use Rattle.rv_asm.specs.declared.item.Item.{Item}
use Rattle.rv_asm.specs.declared.item.Item.TheVariants as item
use Rattle.percpu_lib.specs.Lines.{AreEmitted, HasRoom, IsEmitted, is_free, with_item, with_label}
use Rattle.percpu_lib.specs.declared.lines.Line.{Line}
use Rattle.percpu_lib.specs.declared.lines.Line.TheVariants as line
use Rattle.percpu_lib.proofs.HeldWords.{labelled_items}
use Rattle.guest_names.specs.declared.names.Name.{Name}
use Rattle.guest_names.specs.declared.names.Name.TheVariants.{Counter, List as Lists, Pool, Dekker, Signals, Migrate, Ring, Urcu}
use Rattle.guest_programs.specs.Blocks.{bound_by}
use Rattle.guest_programs.specs.Steps.{are_free, has_step_room, have_room, index_behind, lines_of, lines_of_step, own_steps}
use Rattle.guest_programs.specs.declared.layout.TheConstants.{CODE}
use Rattle.guest_programs.specs.declared.labels.TheConstants.{LABELS}
use Rattle.guest_programs.specs.declared.shared.TheConstants.{BEGINNING, ENDING, PINNING, PRINTING, STARTING}
use Rattle.guest_programs.specs.declared.steps.Step.{Step}
use Rattle.guest_programs.specs.declared.steps.Step.TheVariants as step
use Rattle.guest_programs.proofs.Emitted.{both}
use Rattle.guest_programs.proofs.Held.{labels_bound}

-- free labels
free_is : (o : Option (Option ℕ)) → is_free o ≡ true → o ≡ Some None
free_is None is = absurd (false≢true is)
free_is (Some None) is = refl
free_is (Some (Some n)) is = absurd (false≢true is)

of_all : (labels : List (Option ℕ)) (base : ℕ) (ks : List ℕ) (i k : ℕ)
    → list_all (λ m. is_free (slice_get labels (base + m))) ks ≡ true → slice_get ks i ≡ Some k
    → slice_get labels (base + k) ≡ Some None
of_all labels base [] i k all at = absurd cc
of_all labels base (m ∷ ks) zero k all at =
    let same : m ≡ k = cc in
    ap (λ n. slice_get labels (base + n)) (sym same)
    ∙ free_is (slice_get labels (base + m)) (and_parts (is_free (slice_get labels (base + m))) _ all).0
of_all labels base (m ∷ ks) (suc i) k all at =
    of_all labels base ks i k (and_parts (is_free (slice_get labels (base + m))) _ all).1 at

-- so many numbers from one on
abbrev from_on : ℕ → ℕ → List ℕ
from_on m zero = []
from_on m (suc n) = m ∷ from_on (m + 1) n

number_at : (m n k : ℕ) → k < n → slice_get (from_on m n) k ≡ Some (m + k)
number_at m zero k lt = absurd (omega arith)
number_at m (suc n) zero lt = ap Some (omega arith)
number_at m (suc n) (suc k) lt = number_at (m + 1) n k (omega arith) ∙ ap Some (omega arith)

eight_at : (k : ℕ) → k < 8 → slice_get (0 ∷ 1 ∷ 2 ∷ 3 ∷ 4 ∷ 5 ∷ 6 ∷ 7 ∷ []) k ≡ Some k
eight_at k lt = number_at 0 8 k lt ∙ ap Some (omega arith)

pub room_is : (labels : List (Option ℕ)) (base : ℕ) → are_free labels base ≡ true → HasRoom labels base
room_is labels base free k lt = of_all labels base (0 ∷ 1 ∷ 2 ∷ 3 ∷ 4 ∷ 5 ∷ 6 ∷ 7 ∷ []) k k free (eight_at k lt)

-- the step at hand, and those behind it
parted : (labels : List (Option ℕ)) (index : ℕ) (steps : List Step) (i : ℕ) (d : Step) → i < length steps
    → have_room labels index (drop i steps) ≡ true
    → have_room labels index (get_or steps i d ∷ drop (i + 1) steps) ≡ true
parted labels index steps i d lt is =
    let split : drop i steps ≡ get_or steps i d ∷ drop (i + 1) steps =
    drop-cons steps i d lt ∙ ap (λ n. get_or steps i d ∷ drop n steps) (sym (add-one i)) in
    ap (have_room labels index) (sym split) ∙ is

pub room_here : (labels : List (Option ℕ)) (index : ℕ) (steps : List Step) (i : ℕ) (d : Step) → i < length steps
    → have_room labels index (drop i steps) ≡ true → has_step_room labels (get_or steps i d) ≡ true
room_here labels index steps i d lt is =
    (and_parts (has_step_room labels (get_or steps i d)) _ (parted labels index steps i d lt is)).0

-- the index behind emitted lines
one_longer : (xs : List Item) (x : Item) → length (xs ++ x ∷ []) ≡ length xs + 1
one_longer xs x = length-append xs (x ∷ []) ∙ refl

pub emitted_index : (xs : List Line) (a b : Assembly) → IsEmitted xs a b
    → length b.items ≡ index_behind (length a.items) xs
emitted_index [] a b is = ap (λ (x : Assembly). length x.items) is
emitted_index (line.Label n ∷ xs) a b is =
    emitted_index xs (with_label a n) b is
    ∙ ap (λ (ys : List Item). index_behind (length ys) xs) (labelled_items a n)
emitted_index (line.Plain i ∷ xs) a b is =
    emitted_index xs (with_item a (item.Word is.0)) b is.2
    ∙ ap (λ m. index_behind m xs) (one_longer a.items (item.Word is.0))
emitted_index (line.Branch i n ∷ xs) a b is =
    emitted_index xs (with_item a (item.Aimed i n)) b is
    ∙ ap (λ m. index_behind m xs) (one_longer a.items (item.Aimed i n))
emitted_index (line.Data w ∷ xs) a b is =
    emitted_index xs (with_item a (item.Word w)) b is
    ∙ ap (λ m. index_behind m xs) (one_longer a.items (item.Word w))

-- steps have room behind emitted lines where they have it behind the lines
behind : (xs : List Line) (steps : List Step) (a b : Assembly) → AreEmitted xs a b
    → have_room (bound_by a.labels (length a.items) xs) (index_behind (length a.items) xs) steps ≡ true
    → have_room b.labels (length b.items) steps ≡ true
behind xs steps a b emitted is =
    ap (λ (ls : List (Option ℕ)). have_room ls (length b.items) steps) (labels_bound xs a b emitted.are)
    ∙ ap (λ m. have_room (bound_by a.labels (length a.items) xs) m steps) (emitted_index xs a b emitted.are) ∙ is

pub room_next : (steps : List Step) (i : ℕ) (d : Step) (a b : Assembly) → i < length steps
    → have_room a.labels (length a.items) (drop i steps) ≡ true → AreEmitted (lines_of_step (get_or steps i d)) a b
    → have_room b.labels (length b.items) (drop (i + 1) steps) ≡ true
room_next steps i d a b lt is emitted =
    behind (lines_of_step (get_or steps i d)) (drop (i + 1) steps) a b emitted
    (and_parts (has_step_room a.labels (get_or steps i d)) _ (parted a.labels (length a.items) steps i d lt is)).1

-- steps without a block have room
abbrev is_line : Step → Bool
is_line (step.Of l) = true
is_line (step.Block k base table) = false

pub lines_have_room : (labels : List (Option ℕ)) (index : ℕ) (steps : List Step) → list_all is_line steps ≡ true
    → have_room labels index steps ≡ true
lines_have_room labels index [] all = refl
lines_have_room labels index (step.Of l ∷ rest) all =
    lines_have_room (bound_by labels index (l ∷ [])) (index_behind index (l ∷ [])) rest all
lines_have_room labels index (step.Block k base table ∷ rest) all = absurd (false≢true all)

-- the lines that all guests have
abbrev shared_lines : List Line
shared_lines = lines_of BEGINNING ++ (lines_of STARTING ++ (lines_of ENDING ++ (lines_of PRINTING ++ lines_of PINNING)))

own_after : (name : Name)
    → have_room (bound_by (replicate LABELS None) 0 shared_lines) (index_behind 0 shared_lines) (own_steps name) ≡ true
own_after Counter = refl
own_after Lists = refl
own_after Pool = refl
own_after Dekker = refl
own_after Signals = refl
own_after Migrate = refl
own_after Ring = refl
own_after Urcu = refl

pub own_room : (name : Name) (own : List Step) (a b1 b2 b3 b4 b5 : Assembly) → a ≡ empty CODE LABELS → own ≡ own_steps name
    → AreEmitted (lines_of BEGINNING) a b1 → AreEmitted (lines_of STARTING) b1 b2 → AreEmitted (lines_of ENDING) b2 b3
    → AreEmitted (lines_of PRINTING) b3 b4 → AreEmitted (lines_of PINNING) b4 b5
    → have_room b5.labels (length b5.items) own ≡ true
own_room name own a b1 b2 b3 b4 b5 same is e1 e2 e3 e4 e5 =
    ap (have_room b5.labels (length b5.items)) is
    ∙ behind shared_lines (own_steps name) (empty CODE LABELS) b5
    (both (lines_of BEGINNING) _ (empty CODE LABELS) b1 b5
    (subst (λ (y : Assembly). AreEmitted (lines_of BEGINNING) y b1) same e1)
    (both (lines_of STARTING) _ b1 b2 b5 e2
    (both (lines_of ENDING) _ b2 b3 b5 e3
    (both (lines_of PRINTING) (lines_of PINNING) b3 b4 b5 e4 e5))))
    (own_after name)
