-- An instruction of a process whose memory is the same outside the segment: where it learns the same it
-- leaves the same.
use Rattle.rv_inst.specs.Execution.{further, word_seen}
use Rattle.rv_inst.specs.Memory.{amo_result, loaded}
use Rattle.rv_inst.specs.declared.effects.Effect.TheVariants as effect
use Rattle.shared_procs.proofs.Common.{◌≡◌, ℕ, zero, suc, ◌+◌, Bool, true, false, cond, [], ◌∷◌, Option, Some, None, unwrap_or, refl, ap, ◌∙◌, Effect, is_in_segment, is_reserved, joined, Outcome, outcome, Regs, reserved_at, Store, word_at, read_in_segment, reads, succeeds}
use Rattle.shared_procs.proofs.PrivateReservations.{private, same_success}

-- an outcome but for a reservation in the segment
abbrev pub but_shared : Outcome → Outcome
but_shared o = record o { reserved = private o.reserved }

module _ (f g : ℕ → Option ℕ) (out : (a : ℕ) → is_in_segment a ≡ false → f a ≡ g a) where
  word_alike : (at n : ℕ) → read_in_segment f at n ≡ read_in_segment g at n → word_at f at n ≡ word_at g at n
  word_alike at zero same = refl
  word_alike at (suc n) same =
      let both = by (is_in_segment at) refl same in
      ap (λ o. joined o (word_at f (at + 1) n)) both.0 ∙ ap (joined (g at)) (word_alike (at + 1) n both.1)
    where
      by : (b : Bool) → is_in_segment at ≡ b
          → cond b (f at ∷ read_in_segment f (at + 1) n) (read_in_segment f (at + 1) n)
          ≡ cond b (g at ∷ read_in_segment g (at + 1) n) (read_in_segment g (at + 1) n)
          → (f at ≡ g at) × (read_in_segment f (at + 1) n ≡ read_in_segment g (at + 1) n)
      by true is same = (cc, cc)
      by false is same = (out at is, same)

  seen_alike : (at n : ℕ) → read_in_segment f at n ≡ read_in_segment g at n → word_seen f at n ≡ word_seen g at n
  seen_alike at n same = ap (λ o. unwrap_or o 0) (word_alike at n same)

  module _ (regs : Regs) (pc : ℕ) (ra rb : Option ℕ) (kept : private ra ≡ private rb) where
    made_alike : (at : ℕ) (b : Bool) → is_in_segment at ≡ b → cond b (Some (is_reserved ra at)) None ≡ cond b (Some (is_reserved rb at)) None
        → is_reserved ra at ≡ is_reserved rb at
    made_alike at true is same = cc
    made_alike at false is same = same_success ra rb at kept is

    pub outcome_alike : (e : Effect) → reads f e ≡ reads g e → succeeds ra e ≡ succeeds rb e
        → but_shared (outcome f regs pc ra e) ≡ but_shared (outcome g regs pc rb e)
    outcome_alike (effect.Load at size is_signed rd) read made =
        let left : ℕ → Option ℕ → Outcome = λ n r. further regs rd (loaded n size is_signed) pc r in
        ap (λ n. left n (private ra)) (seen_alike at size read) ∙ ap (left (word_seen g at size)) kept
    outcome_alike (effect.Amo op at size value rd) read made =
        let stored : ℕ → Store = λ n. record { at = at; size = size; value = amo_result op size n value } in
        let left : ℕ → Option ℕ → Outcome = λ n r. record (further regs rd (loaded n size true) pc r) { entered = stored n ∷ [] } in
        ap (λ n. left n (private ra)) (seen_alike at size read) ∙ ap (left (word_seen g at size)) kept
    outcome_alike (effect.Lr at size rd) read made =
        ap (λ n. but_shared (further regs rd (loaded n size true) pc (Some (reserved_at at)))) (seen_alike at size read)
    outcome_alike (effect.Sc at size value rd) read made =
        let stored : Store = record { at = at; size = size; value = value } in
        ap (λ b. but_shared (cond b (record (further regs rd 0 pc None) { entered = stored ∷ [] }) (further regs rd 1 pc None)))
        (made_alike at (is_in_segment at) refl made)
    outcome_alike e read made = ap (λ r. outcome f regs pc r e) kept
