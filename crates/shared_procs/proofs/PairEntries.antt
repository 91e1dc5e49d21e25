-- The entry of an event of a process of a pair, and the number by which it names a thread.
use Rattle.block_model.specs.Deciding.{pc_in}
use Rattle.block_model.proofs.Laws.{thread_given}
use Rattle.shared_procs.proofs.Common.{◌≡◌, ℕ, ◌+◌, ◌<◌, ◌^◌, Bool, true, false, Option, Some, None, is_some, refl, sym, ap, ◌∙◌, arith, Choice, Entry, entry_as, here_at, here_two, IsPlace, kind_of, number_in_log, number_of, Pair, PairSetting, Parts, refusal_of, SECOND_THREADS, Stand, thread_in}

-- BY WHICH NUMBER

same_number : (o : Option ℕ) → number_of o ≡ number_in_log false o
same_number None = refl
same_number (Some t) = refl

none_number : (p : Bool) (o : Option ℕ) → is_some o ≡ false → number_of o ≡ number_in_log p o
none_number p None is = refl
none_number p (Some t) is = cc

some_number : (o : Option ℕ) → is_some o ≡ true → number_of o + SECOND_THREADS ≡ number_in_log true o
some_number None is = cc
some_number (Some t) is = refl

module _ (s : PairSetting) (m : Pair) (p : Bool) (h : ℕ) (c : Choice) where
  abbrev named : Option ℕ
  named = thread_in c (here_two s m p h)

  abbrev entry_with : ℕ → Entry
  entry_with n = record { hart = record { 0 = h }; kind = kind_of c; tid = record { 0 = n }; pc = pc_in (here_two s m p h) named }

  -- of the first process, or of no thread
  pub entry_first : p ≡ false → entry_with (number_of named) ≡ entry_as s m p h c
  entry_first is = ap entry_with (same_number named ∙ ap (λ b. number_in_log b named) (sym is))

  pub entry_none : is_some named ≡ false → entry_with (number_of named) ≡ entry_as s m p h c
  entry_none is = ap entry_with (none_number p named is)

  -- of a thread of the second one
  pub entry_second : p ≡ true → is_some named ≡ true → entry_with (number_of named + SECOND_THREADS) ≡ entry_as s m p h c
  entry_second second is = ap entry_with (some_number named is ∙ ap (λ b. number_in_log b named) (sym second))

-- the number was given, so it fits with that of the second process added
pub named_small : (v : Stand) (m : Parts) (h : ℕ) → IsPlace v m h → (c : Choice) → refusal_of c (here_at v h) ≡ None
    → number_of (thread_in c (here_at v h)) + SECOND_THREADS < 2 ^ 32
named_small v m h place c free =
    let low = thread_given v.setting (here_at v h) c place.stands.sound free in
    let given = place.stands.given in
    let room = place.room in
    let steps = place.limits.most_steps in
    omega (arith, low, given, room, steps)
