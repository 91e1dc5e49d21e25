-- Two neighbouring entries of a block run may be exchanged, if they are plain events of different harts of which neither touches the
-- other's bytes.
use Rattle.block_model.proofs.Common.{◌≡◌, ℕ, ◌+◌, ◌<◌, List, [], ◌∷◌, ◌++◌, length, refl, sym, ap, ◌∙◌, subst, append-nil, append_assoc, length-append, None, Ok, AreApart, Choice, Entry, IsBlockRun, IsRunHistory, Kernel, Plain, Seen, Setting, choice_of, decide, decide_in, done_of, entry_in, event, final, fold, fold-append, here_in_plain, here_of, history, plain_after, plain_next, plain_over, plain_start, refusal_of, running_on, unless}
use Rattle.block_model.proofs.Laws.{IsFit, IsNext, at_kind, decided, history-append, next_event, run_before, run_on, same_here, same_state}
use Rattle.block_model.specs.PlainEvents.{footprint, is_plain}
use Rattle.block_model.specs.Swaps.{IsEquivalentRun, MaySwap, footprint_after}
use Rattle.block_model.proofs.Swaps.Pairs.{ArePair, exchanged, kernel_stays, next}

-- RUNS

-- the last entry of a run was decided
pub last_decided : (s : Setting) (log : List Entry) (e : Entry) → IsBlockRun s (log ++ e ∷ []) → decide s (history s log) e.hart.0 (choice_of e) ≡ Ok e
last_decided s log e run =
    let whole : IsRunHistory s (event s (history s log) e ∷ history s log) = subst (IsRunHistory s) (history-append s log e) run.allowed in
    whole.1

pub plain_after-append : (s : Setting) (log more : List Entry) → plain_after s (log ++ more) ≡ fold (plain_next s) (plain_after s log) more
unfolding plain_after
plain_after-append s log more = fold-append (plain_next s) (plain_start s) log more

abbrev pub seen : Setting → List Entry → Seen
seen s log = record { setting = s; seed = 0; log = log }

-- what is decided hangs on the plain machine and on how many entries there are
decided_alike : (s : Setting) (a b : List Entry) (h : ℕ) (c : Choice) → IsBlockRun s a → IsBlockRun s b → plain_after s a ≡ plain_after s b → length a ≡ length b
    → decide s (history s a) h c ≡ decide s (history s b) h c
decided_alike s a b h c run_a run_b same long =
    decided (seen s a) h c run_a
    ∙ ap (λ n. decide_in n (plain_over (plain_after s a)) c (here_in_plain s (plain_after s a) h)) long
    ∙ ap (λ m. decide_in (length b) (plain_over m) c (here_in_plain s m h)) same
    ∙ sym (decided (seen s b) h c run_b)

-- so what goes on from one of two such logs goes on from the other
pub goes_on : (s : Setting) (a b more : List Entry) → plain_after s a ≡ plain_after s b → length a ≡ length b → IsBlockRun s b → IsBlockRun s (a ++ more) → IsBlockRun s (b ++ more)
goes_on s a b [] same long run_b run = subst (λ (l : List Entry). IsBlockRun s l) (sym (append-nil b)) run_b
goes_on s a b (e ∷ more) same long run_b run =
    let longer = subst (λ (l : List Entry). IsBlockRun s l) (sym (append_assoc a (e ∷ []) more)) run in
    let run_a = run_before s a (e ∷ more) run in
    let is = last_decided s a e (run_before s (a ++ e ∷ []) more longer) in
    let next_b = run_on (seen s b) e.hart.0 (choice_of e) e run_b (sym (decided_alike s a b e.hart.0 (choice_of e) run_a run_b same long) ∙ is) in
    let same_next = plain_after-append s a (e ∷ []) ∙ ap (λ m. plain_next s m e) same ∙ sym (plain_after-append s b (e ∷ [])) in
    let long_next = length-append a (e ∷ []) ∙ ap (λ n. n + 1) long ∙ sym (length-append b (e ∷ [])) in
    subst (λ (l : List Entry). IsBlockRun s l) (append_assoc b (e ∷ []) more) (goes_on s (a ++ e ∷ []) (b ++ e ∷ []) more same_next long_next next_b longer)

-- TWO ENTRIES

-- an event that is allowed at a place of the plain machine
allowed_here : (s : Setting) (log : List Entry) (h : ℕ) (c : Choice) (e : Entry) → IsBlockRun s log → plain_over (plain_after s log) ≡ None → length log < s.limits.steps → h < s.limits.harts
    → refusal_of c (here_of (seen s log) h) ≡ None → entry_in c (here_of (seen s log) h) ≡ e → decide s (history s log) h c ≡ Ok e
allowed_here s log h c e run over room lt free is =
    at_kind (seen s log) h c run over room lt ∙ ap (unless (entry_in c (here_of (seen s log) h))) free ∙ ap Ok is

-- two entries at the end of a log, by what the plain machine says there
pub record IsSwapped (s : Setting) (earlier : List Entry) (e f : Entry) : Type 0 where
  pub one : IsBlockRun s (earlier ++ f ∷ [])
  pub both : IsBlockRun s ((earlier ++ f ∷ []) ++ e ∷ [])
  pub same : plain_after s ((earlier ++ f ∷ []) ++ e ∷ []) ≡ plain_after s ((earlier ++ e ∷ []) ++ f ∷ [])

module _ (s : Setting) (earlier : List Entry) (e f : Entry) (run : IsBlockRun s ((earlier ++ e ∷ []) ++ f ∷ [])) (may : MaySwap s earlier e f) where
  abbrev h : ℕ
  h = e.hart.0

  abbrev k : ℕ
  k = f.hart.0

  abbrev c : Choice
  c = choice_of e

  abbrev d : Choice
  d = choice_of f

  abbrev m : Plain
  m = plain_after s earlier

  run_one : IsBlockRun s (earlier ++ e ∷ [])
  run_one = run_before s (earlier ++ e ∷ []) (f ∷ []) run

  run_none : IsBlockRun s earlier
  run_none = run_before s earlier (e ∷ []) run_one

  next_e : IsNext (seen s earlier) e (done_of c (here_of (seen s earlier) h))
  next_e = next_event (seen s earlier) e (done_of c (here_of (seen s earlier) h)) run_none (last_decided s earlier e run_one) refl

  next_f : IsNext (seen s (earlier ++ e ∷ [])) f (done_of d (here_of (seen s (earlier ++ e ∷ [])) k))
  next_f = next_event (seen s (earlier ++ e ∷ [])) f (done_of d (here_of (seen s (earlier ++ e ∷ [])) k)) run_one (last_decided s (earlier ++ e ∷ []) f run) refl

  there : here_of (seen s (earlier ++ e ∷ [])) k ≡ here_in_plain s (next s h c m) k
  there = ap (λ n. here_in_plain s n k) next_e.next

  -- they are a pair where the log is without them
  pub pair_at : ArePair s h k c d m
  pair_at =
      let is_e = same_here (seen s earlier) h run_none in
      let is_f = same_here (seen s (earlier ++ e ∷ [])) k run_one in
      let plain_e = ap (is_plain c) is_e ∙ may.first in
      let fit_f = subst (λ z. IsFit z (done_of d z)) there next_f.fit in
      record {
        harts = may.harts;
        first = plain_e;
        second = ap (is_plain d) (sym there ∙ is_f) ∙ may.second;
        apart = subst (λ z. AreApart (footprint c (here_of (seen s earlier) h)) (footprint d z)) (sym is_f ∙ there)
            (subst (λ z. AreApart (footprint c z) (footprint_after s (earlier ++ e ∷ []) f)) (sym is_e) may.apart);
        first_file = λ t x at. next_e.fit.apart k t x (λ q. may.harts (sym q)) at;
        second_file = λ t x at. fit_f.apart h t x may.harts (ap (λ (q : Kernel). running_on h q.threads) (kernel_stays s h c m plain_e) ∙ at);
      }

  pub swapped_ends : IsSwapped s earlier e f
  swapped_ends =
      let x = exchanged s h k c d m pair_at in
      let u = seen s (earlier ++ f ∷ []) in
      let free_f = sym x.second_first.refusal ∙ ap (refusal_of d) (sym there) ∙ next_f.free in
      let is_there = sym x.second_first.entry ∙ ap (entry_in d) (sym there) ∙ sym next_f.is in
      let one = run_on (seen s earlier) k d f run_none (allowed_here s earlier k d f run_none next_e.goes next_e.room next_f.lt free_f is_there) in
      let on_f : plain_after s (earlier ++ f ∷ []) ≡ next s k d m = plain_after-append s earlier (f ∷ []) in
      let there_e = ap (λ n. here_in_plain s n h) on_f in
      let goes = ap plain_over on_f ∙ ap (λ o. final o (next s k d m).kernel) x.ended ∙ ap (final m.ended) x.kernel ∙ next_e.goes in
      let long = length-append earlier (e ∷ []) ∙ sym (length-append earlier (f ∷ [])) in
      let room : length (earlier ++ f ∷ []) < s.limits.steps = subst (λ n. n < s.limits.steps) long next_f.room in
      let free_e = ap (refusal_of c) there_e ∙ x.first_second.refusal ∙ next_e.free in
      let is_then = ap (entry_in c) there_e ∙ x.first_second.entry ∙ sym next_e.is in
      record {
        one = one;
        both = run_on u h c e one (allowed_here s (earlier ++ f ∷ []) h c e one goes room next_e.lt free_e is_then);
        same = plain_after-append s (earlier ++ f ∷ []) (e ∷ []) ∙ ap (next s h c) on_f ∙ x.same ∙ sym (plain_after-append s (earlier ++ e ∷ []) (f ∷ []) ∙ ap (next s k d) next_e.next);
      }

pub regrouped : (earlier : List Entry) (x y : Entry) (later : List Entry) → earlier ++ x ∷ y ∷ later ≡ ((earlier ++ x ∷ []) ++ y ∷ []) ++ later
regrouped earlier x y later = sym (append_assoc (earlier ++ x ∷ []) (y ∷ []) later ∙ append_assoc earlier (x ∷ []) (y ∷ later))

-- whatever follows
pub swapped : (s : Setting) (earlier later : List Entry) (e f : Entry) → IsBlockRun s (earlier ++ e ∷ f ∷ later) → MaySwap s earlier e f
    → IsEquivalentRun s (earlier ++ e ∷ f ∷ later) (earlier ++ f ∷ e ∷ later)
swapped s earlier later e f run may =
    let given : IsBlockRun s (((earlier ++ e ∷ []) ++ f ∷ []) ++ later) = subst (λ (l : List Entry). IsBlockRun s l) (regrouped earlier e f later) run in
    let ends = swapped_ends s earlier e f (run_before s ((earlier ++ e ∷ []) ++ f ∷ []) later given) may in
    let long = twice e f ∙ sym (twice f e) in
    let made = goes_on s ((earlier ++ e ∷ []) ++ f ∷ []) ((earlier ++ f ∷ []) ++ e ∷ []) later (sym ends.same) long ends.both given in
    let run_there : IsBlockRun s (earlier ++ f ∷ e ∷ later) = subst (λ (l : List Entry). IsBlockRun s l) (sym (regrouped earlier f e later)) made in
    record {
      block_run = run_there;
      same = sym (same_state (seen s (earlier ++ f ∷ e ∷ later)) run_there)
          ∙ ap (plain_after s) (regrouped earlier f e later) ∙ plain_after-append s ((earlier ++ f ∷ []) ++ e ∷ []) later
          ∙ ap (λ m. fold (plain_next s) m later) ends.same
          ∙ sym (plain_after-append s ((earlier ++ e ∷ []) ++ f ∷ []) later) ∙ ap (plain_after s) (sym (regrouped earlier e f later))
          ∙ same_state (seen s (earlier ++ e ∷ f ∷ later)) run;
    }
  where
    twice : (x y : Entry) → length ((earlier ++ x ∷ []) ++ y ∷ []) ≡ length earlier + 1 + 1
    twice x y = length-append (earlier ++ x ∷ []) (y ∷ []) ∙ ap (λ n. n + 1) (length-append earlier (x ∷ []))
