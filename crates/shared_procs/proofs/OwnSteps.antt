-- What of a process in a pair hangs on its own entries, and what an event leaves of it: an own one, one of
-- the other process, and one of none.
use Rattle.shared_procs.proofs.Common.{◌≡◌, ◌≢◌, ℕ, ◌++◌, Bool, true, false, cond, eqb, List, [], Option, Some, None, append-nil, eq-eqb, refl, sym, ap, ◌∙◌, all_stored, AllByRecursion, apply, aside, closing, Done, End, ended_if, eqb-true, false≢true, fun_ext, here_at, IsSameProcess, Kernel, lost_after, only_took, Plain, running_on, Stand, Store, Write}
use Rattle.shared_procs.proofs.Halves.{below_same}
use Rattle.shared_procs.proofs.PrivateReservations.{IsInside, private, private_after, private_twice, unhit}
use Rattle.shared_procs.proofs.SameEvents.{own_part}

abbrev pub where_one_runs : Option ℕ → Option ℕ → Option ℕ
where_one_runs None r = None
where_one_runs (Some t) r = r

abbrev held : Kernel → (ℕ → Option ℕ) → ℕ → Option ℕ
held kernel reserved k = where_one_runs (running_on k kernel.threads) (private (reserved k))

-- files, memory, waiting stores, record and end; and of each hart that runs a thread the reservation outside
-- the segment
abbrev pub own_state : Plain → Plain
own_state x = record x {
  reserved = held x.kernel x.reserved;
  requests = λ h. 0;
  restart = λ h. false;
  awaits = λ h. None;
  events = λ h. 0;
  ran = λ h. 0;
  made = 0;
}

pub same_process : (x y : Plain) → own_state x ≡ own_state y → IsSameProcess x y
same_process x y are = record {
  files = λ t. ap (λ (z : Plain). z.file t) are;
  bytes = λ a. ap (λ (z : Plain). z.byte a) are;
  waiting = λ h. ap (λ (z : Plain). z.waiting h) are;
  kernel = ap (λ (z : Plain). z.kernel) are;
  ended = ap (λ (z : Plain). z.ended) are;
}

-- AN OWN EVENT

-- what one that did this leaves of it
abbrev pub own_next : ℕ → Done → Plain → Plain
own_next h d x = own_state (ended_if d.ended (apply h d x))

lost_where : (o r : Option ℕ) (ws : List Write) → where_one_runs o (private (lost_after ws (where_one_runs o (private r)))) ≡ where_one_runs o (private (lost_after ws r))
lost_where None r ws = refl
lost_where (Some t) r ws = private_after ws (private r) ∙ ap (lost_after ws) (private_twice r) ∙ sym (private_after ws r)

module _ (h : ℕ) (d : Done) (x : Plain) (others : (k : ℕ) → k ≢ h → running_on k d.kernel.threads ≡ running_on k x.kernel.threads) where
  reserved_is : (k : ℕ) → held d.kernel (apply h d x).reserved k ≡ held d.kernel (apply h (own_part d) (own_state x)).reserved k
  reserved_is k = by (eqb h k) refl
    where
      by : (own : Bool) → eqb h k ≡ own
          → where_one_runs (running_on k d.kernel.threads) (private (cond own d.reserved (lost_after d.entered (x.reserved k))))
          ≡ where_one_runs (running_on k d.kernel.threads) (private (cond own (private d.reserved) (lost_after d.entered (held x.kernel x.reserved k))))
      by true is = ap (where_one_runs (running_on k d.kernel.threads)) (sym (private_twice d.reserved))
      by false is =
          let same = others k (λ at. false≢true (sym is ∙ eq-eqb h k (sym at))) in
          sym (lost_where (running_on k d.kernel.threads) (x.reserved k) d.entered)
          ∙ ap (λ o. where_one_runs (running_on k d.kernel.threads) (private (lost_after d.entered (where_one_runs o (private (x.reserved k)))))) same

  pub own_next_is : own_next h d x ≡ own_next h (own_part d) (own_state x)
  own_next_is = by d.ended
    where
      by : (o : Option End) → own_state (ended_if o (apply h d x)) ≡ own_state (ended_if o (apply h (own_part d) (own_state x)))
      by None = ap (λ (f : ℕ → Option ℕ). record (own_state (apply h d x)) { reserved = f }) (fun_ext reserved_is)
      by (Some e) = refl

-- what an event did, with what waited where it ended the process
abbrev pub closed : ℕ → Plain → Done → Done
closed harts x d = record d { entered = d.entered ++ all_stored (closing harts x d.ended) }

closing_alike : (harts : ℕ) (x y : Plain) → x.waiting ≡ y.waiting → (o : Option End) → closing harts x o ≡ closing harts y o
closing_alike harts x y same None = refl
closing_alike harts x y same (Some e) = below_same x y (λ k. ap (λ (f : ℕ → List Store). f k) same) harts

pub closed_alike : (harts : ℕ) (d e : Done) (x y : Plain) → own_state x ≡ own_state y → own_part d ≡ own_part e
    → own_part (closed harts x d) ≡ own_part (closed harts y e)
closed_alike harts d e x y are same =
    ap (closed harts x) same
    ∙ ap (λ ws. record (own_part e) { entered = e.entered ++ all_stored ws }) (closing_alike harts x y (ap (λ (z : Plain). z.waiting) are) e.ended)

-- AN EVENT OF THE OTHER PROCESS

pub others_stay : (h : ℕ) (d : Done) (ws : List Write) (x : Plain) → AllByRecursion IsInside ws → own_state (aside h d ws x) ≡ own_state x
others_stay h d ws x inside =
    ap (λ (f : ℕ → Option ℕ). record (own_state x) { reserved = f })
    (fun_ext (λ k. ap (where_one_runs (running_on k x.kernel.threads)) (unhit ws (x.reserved k) inside)))

-- AN EVENT OF NONE: AN IDLE HART TAKES ITS REQUESTS

module _ (v : Stand) (h : ℕ) (idle : running_on h v.plain.kernel.threads ≡ None) where
  abbrev x : Plain
  x = v.plain

  stays : (b : Bool) (ws : List Store) → cond b (ws ++ []) ws ≡ ws
  stays true ws = append-nil ws
  stays false ws = refl

  kept : (k : ℕ) (b : Bool) → eqb h k ≡ b
      → where_one_runs (running_on k x.kernel.threads) (private (cond b None (x.reserved k))) ≡ held x.kernel x.reserved k
  kept k true is =
      let none : running_on k x.kernel.threads ≡ None = ap (λ j. running_on j x.kernel.threads) (sym (eqb-true h k is)) ∙ idle in
      ap (λ o. where_one_runs o None) none ∙ sym (ap (λ o. where_one_runs o (private (x.reserved k))) none)
  kept k false is = refl

  pub takes_alone : own_state (apply h (only_took (here_at v h)) x) ≡ own_state x
  takes_alone =
      let left : (ℕ → List Store) → (ℕ → Option ℕ) → Plain = λ ws rs. record (own_state x) { waiting = ws; reserved = rs } in
      ap (λ ws. left ws (held x.kernel (apply h (only_took (here_at v h)) x).reserved)) (fun_ext (λ k. stays (eqb h k) (x.waiting k)))
      ∙ ap (left x.waiting) (fun_ext (λ k. kept k (eqb h k) refl))
