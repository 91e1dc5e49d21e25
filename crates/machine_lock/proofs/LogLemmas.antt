-- Logs that follow one another.
use Rattle.std.proofs.Common.{◌≡◌, ◌≤◌, List, [], ◌∷◌, ◌++◌, length, sym, refl, ap, ◌∙◌, subst, append_assoc, append-nil, length-append, arith}
use Rattle.std.specs.Prelude.{Bool, true, Option, Some, None}
use Rattle.std.proofs.Math.Nat.{add-zero}
use Rattle.mach_types.specs.declared.events.Advance.{Advance}
use Rattle.mach_types.specs.declared.events.Advance.TheVariants.{Made, NoneNow, Ended}
use Rattle.mach_types.specs.declared.events.Entry.{Entry}
use Rattle.mach_types.specs.declared.events.Hart.{Hart}
use Rattle.machine_lock.specs.Logs.{AllNext, Follows, Adds, Advances}

abbrev first_or : Entry → List Entry → Entry
first_or d [] = d
first_or d (x ∷ xs) = x

abbrev tail_of : List Entry → List Entry
tail_of [] = []
tail_of (x ∷ xs) = xs

abbrev goes_on : Advance → Type 0
goes_on (Made e) = Unit {0}
goes_on NoneNow = Unit {0}
goes_on Ended = ⊥

abbrev is_none : Option Entry → Type 0
is_none None = Unit {0}
is_none (Some e) = ⊥

module _ (next : List Entry → Hart → Option Entry) where
  all_next_append : (past xs ys : List Entry) → AllNext next past xs → AllNext next (past ++ xs) ys → AllNext next past (xs ++ ys)
  all_next_append past [] ys a b = subst (λ (l : List Entry). AllNext next l ys) (append-nil past) b
  all_next_append past (x ∷ xs) ys a b = (a.0, all_next_append (past ++ x ∷ []) xs ys a.1 (subst (λ (l : List Entry). AllNext next l ys) (sym (append_assoc past (x ∷ []) xs)) b))

  all_next_front : (past xs ys : List Entry) → AllNext next past (xs ++ ys) → AllNext next past xs
  all_next_front past [] ys a = tt
  all_next_front past (x ∷ xs) ys a = (a.0, all_next_front (past ++ x ∷ []) xs ys a.1)

  pub follows_self : (xs : List Entry) → Follows next xs xs
  follows_self xs = record { rest = []; whole = append-nil xs; legal = tt }

  pub follows_on : (xs ys zs : List Entry) → Follows next xs ys → Follows next ys zs → Follows next xs zs
  follows_on xs ys zs a b = record {
    rest = a.rest ++ b.rest;
    whole = sym (append_assoc xs a.rest b.rest) ∙ (ap (λ l. l ++ b.rest) a.whole ∙ b.whole);
    legal = all_next_append xs a.rest b.rest a.legal (subst (λ (l : List Entry). AllNext next l b.rest) (sym a.whole) b.legal);
  }

  pub follows_one : (xs : List Entry) (e : Entry) → next xs e.hart ≡ Some e → Follows next xs (xs ++ e ∷ [])
  follows_one xs e is = record { rest = e ∷ []; whole = refl; legal = (is, tt) }

  -- of two beginnings of one list, the shorter begins the longer
  middle : (xs ys r q : List Entry) → xs ++ r ≡ ys ++ q → length xs ≤ length ys → (m : List Entry) × (xs ++ m ≡ ys) × (r ≡ m ++ q)
  middle [] ys r q e l = (ys, refl, e)
  middle (x ∷ xs) [] r q e l = absurd (omega arith)
  middle (x ∷ xs) (y ∷ ys) r q e l = let h : x ≡ y = ap (first_or x) e in let t : xs ++ r ≡ ys ++ q = ap tail_of e in let m = middle xs ys r q t (omega arith) in (m.0, (λ i. h i ∷ m.1 i), m.2)

  pub follows_between : (xs ys zs : List Entry) → Follows next xs zs → Follows next ys zs → length xs ≤ length ys → Follows next xs ys
  follows_between xs ys zs a b l = let m = middle xs ys a.rest b.rest (a.whole ∙ sym b.whole) l in
      record { rest = m.0; whole = m.1; legal = all_next_front xs m.0 b.rest (subst (λ (r : List Entry). AllNext next xs r) m.2 a.legal) }

  pub follows_length : (xs ys : List Entry) → Follows next xs ys → length xs ≤ length ys
  follows_length xs ys f = let e = ap length f.whole in omega (arith, length-append xs f.rest)

  -- no entry was added
  pub adds_none : (hart : Hart) (log : List Entry) → Adds next hart 0 log log
  adds_none hart log = record { follows = record { rest = []; whole = append-nil log; legal = tt }; counted = add-zero (length log); own = λ k d less. absurd (omega arith) }

  pub follows_of_advance : (ended : List Entry → Bool) (hart : Hart) (old new : List Entry) (advance : Advance) → Advances next ended hart old new advance → Follows next old new
  follows_of_advance ended hart old new (Made e) a = subst (Follows next old) (sym a.3) (follows_one old e (subst (λ (h : Hart). next old h ≡ Some e) (sym a.1) a.2))
  follows_of_advance ended hart old new NoneNow a = subst (Follows next old) (sym a.2) (follows_self old)
  follows_of_advance ended hart old new Ended a = subst (Follows next old) (sym a.1) (follows_self old)

  -- an attempt that is told of the end leaves a log at which the run has ended
  pub ended_of_advance : (ended : List Entry → Bool) (hart : Hart) (old new : List Entry) (advance : Advance) → Advances next ended hart old new advance → advance ≡ Ended → ended new ≡ true
  ended_of_advance ended hart old new (Made e) a is = absurd (subst goes_on is tt)
  ended_of_advance ended hart old new NoneNow a is = absurd (subst goes_on is tt)
  ended_of_advance ended hart old new Ended a is = ap ended a.1 ∙ a.0

  -- nothing follows a log at which the run has ended
  pub end_is_last : (ended : List Entry → Bool) → ((log : List Entry) (hart : Hart) → ended log ≡ true → next log hart ≡ None) → (xs ys : List Entry) → ended xs ≡ true → Follows next xs ys → ys ≡ xs
  end_is_last ended still xs ys end f = last_of f.rest f.whole f.legal
    where
      last_of : (rest : List Entry) → xs ++ rest ≡ ys → AllNext next xs rest → ys ≡ xs
      last_of [] whole legal = sym whole ∙ append-nil xs
      last_of (e ∷ es) whole legal = absurd (subst is_none (sym (still xs e.hart end) ∙ legal.0) tt)
