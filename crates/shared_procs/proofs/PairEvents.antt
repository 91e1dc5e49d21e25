-- What an event of one process of a pair leaves of both, and of the segment.
use Rattle.process.proofs.PairLaws.{IsMade, uncounted}
use Rattle.shared_procs.proofs.Common.{◌≡◌, ℕ, ◌/◌, Bool, true, false, not, List, [], None, refl, sym, ap, ◌∙◌, subst, AllWritable, AreMade, aside, can_write, Choice, counted, Done, done_of, false≢true, filter, fit_at, Half, half, HartState, Here, here_two, HoldsShared, is_in_segment, is_shared, is_writable, IsFit, IsGap, IsPlace, IsTied, IsUncounted, none_passes, Pair, PairSetting, Parts, permission_of, refusal_of, setting, stand, Write, written, AreUnshared, Pages}
use Rattle.shared_procs.proofs.Segments.{inside_gap}

module _ (s : PairSetting) (m : Pair) (p : Bool) (h : ℕ) where
  -- an event that is known to have done this
  pub made_as : (c : Choice) (d : Done) (mine other mine' other' : Half) (segment' : List ℕ) (z : HartState) → IsPlace (stand s m p) mine.parts h
      → refusal_of c (here_two s m p h) ≡ None → done_of c (here_two s m p h) ≡ d
      → IsMade (stand s m p) h d mine.parts mine'.parts (counted z) z
      → IsTied (setting s (not p)) (aside h d (filter is_shared d.entered) (half (not p) m)) other'.parts
      → HoldsShared (λ a. written (filter is_shared d.entered) a (m.shared a)) segment'
      → mine' ≡ record mine { parts = mine'.parts } → other' ≡ record other { parts = other'.parts }
      → AreMade s m p h (done_of c (here_two s m p h)) mine other mine' other' segment'
  made_as c d mine other mine' other' segment' z place free same is told shared program others =
      subst (λ (e : Done). AreMade s m p h e mine other mine' other' segment') (sym same) (record {
        seen = record {
          own = uncounted (stand s m p) h d mine.parts mine'.parts z place
              (subst (IsFit (here_two s m p h)) same (fit_at (stand s m p) mine.parts h c place free)) is;
          beside = told;
        };
        holds = shared;
        program = program;
        others = others;
      })

  -- one that writes nothing to the segment
  pub unshared : (d : Done) (mine mine' other' : Parts) → IsUncounted (stand s m p) h d mine mine' → filter is_shared d.entered ≡ []
      → IsTied (setting s (not p)) (aside h d [] (half (not p) m)) other' → AreUnshared s m p h d mine mine' other'
  unshared d mine mine' other' is hidden told = record {
    seen = record {
      own = is;
      beside = subst (λ (ws : List Write). IsTied (setting s (not p)) (aside h d ws (half (not p) m)) other') (sym hidden) told;
    };
    hidden = hidden;
  }

  pub made_unshared : (d : Done) (mine other mine' other' : Half) (segment : List ℕ) → AreUnshared s m p h d mine.parts mine'.parts other'.parts
      → HoldsShared m.shared segment → mine' ≡ record mine { parts = mine'.parts } → other' ≡ record other { parts = other'.parts }
      → AreMade s m p h d mine other mine' other' segment
  made_unshared d mine other mine' other' segment is holds program others = record {
    seen = is.seen;
    holds = λ a inside. holds a inside ∙ ap (λ (ws : List Write). written ws a (m.shared a)) (sym is.hidden);
    program = program;
    others = others;
  }

-- no page lies in the gap, in the middle of which the segment is
abbrev pub IsClear : Pages → Type 0
IsClear p = (n : ℕ) → IsGap n → permission_of p.runs n ≡ None

-- so no byte that can be written on a page lies in the segment
module _ (here : Here) (clear : IsClear here.kernel.pages) where
  on_page : (a : ℕ) → is_writable here a ≡ true → is_in_segment a ≡ false
  on_page a may = by (is_in_segment a) refl
    where
      by : (b : Bool) → is_in_segment a ≡ b → b ≡ false
      by false is = refl
      by true is = absurd (false≢true (sym (ap can_write (clear (a / 4096) (inside_gap a is))) ∙ may))

  -- and what the kernel writes there isn't shared
  pub hidden_writes : (ws : List Write) → AllWritable (is_writable here) ws → filter is_shared ws ≡ []
  hidden_writes ws all = none_passes (is_writable here) is_shared (λ w may. on_page w.at may) (λ at count. refl) ws all
