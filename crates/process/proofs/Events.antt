-- What ties the parts after an event, for every kind: what is to be shown of each part.
use Rattle.process.proofs.Common.{◌≡◌, ℕ, ◌+◌, ◌<◌, ◌^◌, arith, List, [], ◌∷◌, length, refl, sym, ap, ◌∙◌, Bool, true, false, cond, eqb, Option, Some, None, slice_get, set, suc, is_some, ◌≢◌, eq-eqb, inl, inr, option_map, option_or, cases_eq, ne_eqb, length-set, written, Done, End, HartState, IsTable, Parts, Stand, counted, credit_of, file_among, final, hart_at, is_stuck, AreSaved, HoldsPages, HoldsTables, Plain, apply, here_at, IsFit, lost_by_all, lost_unless, IsAfter, IsPlace, IsReadable, IsTied, IsUncounted, IsCounted}
use Rattle.mach_types.specs.declared.limits.End.TheVariants as over
use Rattle.process.proofs.HartStates.{KeepsIds, beside, beside_unless, credits_kept, get_set_other, get_set_same, harts_tied, of_each, own_after}

-- lists with the same places filled are equally long
pub same_length : (xs ys : List HartState) → ((k : ℕ) → is_some (slice_get ys k) ≡ is_some (slice_get xs k)) → length ys ≡ length xs
same_length [] [] same = refl
same_length [] (y ∷ ys) same = let bad : true ≡ false = same 0 in absurd (cc)
same_length (x ∷ xs) [] same = let bad : false ≡ true = same 0 in absurd (cc)
same_length (x ∷ xs) (y ∷ ys) same = ap suc (same_length xs ys (λ k. same (suc k)))

-- each hart but one lost what was written
abbrev pub HaveLost : ℕ → Done → List HartState → List HartState → Type 0
HaveLost h d xs ys = (k : ℕ) → slice_get ys k ≡ option_map (lost_unless (eqb k h) d.entered) (slice_get xs k)

pub mapped_is : {A B : Type 0} (f : A → B) (o : Option A) → is_some (option_map f o) ≡ is_some o
mapped_is f None = refl
mapped_is f (Some x) = refl

-- where nothing was written they are as they were
pub lost_nothing : (b : Bool) (o : Option HartState) → o ≡ option_map (lost_unless b []) o
lost_nothing b None = refl
lost_nothing true (Some x) = refl
lost_nothing false (Some x) = refl

-- each hart but one is as an event of that one leaves it
abbrev pub AreBeside : ℕ → Done → List HartState → List HartState → Type 0
AreBeside h d xs ys = (k : ℕ) → slice_get ys k ≡ option_map (beside_unless (eqb k h) k h d) (slice_get xs k)

-- an event that begins no barrier and takes no requests
pub record IsQuiet (d : Done) : Type 0 where
  pub none_begun : d.barrier ≡ None
  pub none_taken : d.took ≡ false

-- leaves of them what was not written
beside_quiet : (k h : ℕ) (d : Done) (x : HartState) → k ≢ h → IsQuiet d → lost_by_all d.entered x ≡ beside k h d x
beside_quiet k h d x ne quiet = rw (ne_eqb h k (λ e. ne (sym e)), quiet.none_begun, quiet.none_taken) refl

quiet_one : (k h : ℕ) (d : Done) (o : Option HartState) → IsQuiet d → option_map (lost_unless (eqb k h) d.entered) o ≡ option_map (beside_unless (eqb k h) k h d) o
quiet_one k h d None quiet = refl
quiet_one k h d (Some x) quiet = elim (cases_eq k h) [
  | inl same ↦ ap (λ b. Some (lost_unless b d.entered x)) (eq-eqb k h same) ∙ sym (ap (λ b. Some (beside_unless b k h d x)) (eq-eqb k h same))
  | inr ne ↦
      ap (λ b. Some (lost_unless b d.entered x)) (ne_eqb k h ne) ∙ ap Some (beside_quiet k h d x ne quiet)
      ∙ sym (ap (λ b. Some (beside_unless b k h d x)) (ne_eqb k h ne))
]

pub quietly : (h : ℕ) (d : Done) (xs ys : List HartState) → IsQuiet d → HaveLost h d xs ys → AreBeside h d xs ys
quietly h d xs ys quiet lost k = lost k ∙ quiet_one k h d (slice_get xs k) quiet

pub none_beside : (h : ℕ) (d : Done) (xs : List HartState) → IsQuiet d → d.entered ≡ [] → AreBeside h d xs xs
none_beside h d xs quiet none = quietly h d xs xs quiet (λ k. rw none (lost_nothing (eqb k h) (slice_get xs k)))

-- the parts changed as an event does: its hart is to be y, and is z so far
pub record IsMade (v : Stand) (h : ℕ) (d : Done) (m m' : Parts) (y z : HartState) : Type 0 where
  pub own : y ≡ own_after v.setting v.plain h d (credit_of m.harts.items h)
  pub harts : AreBeside h d (set m.harts.items h z) m'.harts.items
  pub pages : HoldsPages d.kernel.pages v.setting.program.break_at (λ a. written d.entered a (v.plain.byte a)) m'.pages
  pub readable : IsReadable m'.pages
  pub tables : HoldsTables m'.kernel d.kernel
  pub ids : KeepsIds v.plain h d
  pub table : IsTable m'.kernel.threads
  pub saved : AreSaved (λ t. file_among d.files t (v.plain.file t)) m'.kernel.threads
  pub ended : m'.ended ≡ final d.ended d.kernel

abbrev pub IsChange : Stand → ℕ → Done → Parts → Parts → HartState → Type 0
IsChange v h d m m' y = IsMade v h d m m' y y

-- no event has ended the process where the run goes on
pub open_process : (process : Option End) (rest : Option End) → option_or process rest ≡ None → process ≡ None
open_process None rest goes = refl
open_process (Some e) rest goes = cc

or_none : (o p : Option End) → p ≡ None → option_or o p ≡ o
or_none None p none = none
or_none (Some e) p none = refl

pub changed : (v : Stand) (h : ℕ) (d : Done) (m m' : Parts) (y : HartState) → IsPlace v m h → IsFit (here_at v h) d → IsChange v h d m m' y → IsAfter v h d m m'
changed v h d m m' y place fit is = record { tied = tied; credits = credits_kept h d m.harts.items m'.harts.items y (ap (λ (x : HartState). x.credit) is.own) is.harts }
  where
    p : Plain
    p = v.plain

    if_stuck : Bool → Option End
    if_stuck b = cond b (Some over.Stuck) None

    tied : IsTied v.setting (apply h d p) m'
    tied = record {
      all_harts = same_length (set m.harts.items h y) m'.harts.items (λ k. ap is_some (is.harts k) ∙ mapped_is (beside_unless (eqb k h) k h d) (slice_get (set m.harts.items h y) k)) ∙ (length-set m.harts.items h y ∙ place.tied.all_harts);
      harts = harts_tied v.setting p h d m.harts.items m'.harts.items y place.tied.harts place.lt (record { others = fit.others; apart = fit.apart }) is.ids is.own is.harts;
      pages = is.pages;
      readable = is.readable;
      tables = is.tables;
      table = is.table;
      saved = is.saved;
      ended = is.ended ∙ ap (λ o. final o d.kernel) (sym (or_none d.ended p.ended (open_process p.ended (if_stuck (is_stuck p.kernel.threads)) place.goes)));
    }

-- all of an event but its count
pub uncounted : (v : Stand) (h : ℕ) (d : Done) (m m' : Parts) (z : HartState) → IsPlace v m h → IsFit (here_at v h) d → IsMade v h d m m' (counted z) z → IsUncounted v h d m m'
uncounted v h d m m' z place fit is = record {
  room = (z, there, few);
  after = λ m'' then. changed v h d m m'' (counted z) place fit (record {
    own = is.own;
    harts = λ k. of_each (λ j. slice_get m''.harts.items j ≡ option_map (beside_unless (eqb j h) j h d) (slice_get (set m.harts.items h (counted z)) j)) h k (own m'' then) (other m'' then k);
    pages = rw then.pages is.pages;
    readable = rw then.pages is.readable;
    tables = rw then.kernel is.tables;
    ids = is.ids;
    table = rw then.kernel is.table;
    saved = rw then.kernel is.saved;
    ended = then.ended ∙ is.ended;
  });
}
  where
    x : HartState
    x = hart_at v.setting v.plain h (credit_of m.harts.items h)

    there : slice_get m'.harts.items h ≡ Some z
    there = is.harts h ∙ rw (eq-eqb h h refl, get_set_same m.harts.items h x z (place.tied.harts h place.lt)) refl

    few : z.events + 1 < 2 ^ 32
    few =
        let made : z.events + 1 ≡ v.plain.events h + 1 = ap (λ (y : HartState). y.events) is.own in
        let most = place.stands.events h in
        omega (arith, made, most, place.room, place.limits.most_steps)

    own : (m'' : Parts) → IsCounted h m' m'' → slice_get m''.harts.items h ≡ option_map (beside_unless (eqb h h) h h d) (slice_get (set m.harts.items h (counted z)) h)
    own m'' then = then.harts h ∙ rw (eq-eqb h h refl, there, get_set_same m.harts.items h x (counted z) (place.tied.harts h place.lt)) refl

    other : (m'' : Parts) → IsCounted h m' m'' → (k : ℕ) → k ≢ h → slice_get m''.harts.items k ≡ option_map (beside_unless (eqb k h) k h d) (slice_get (set m.harts.items h (counted z)) k)
    other m'' then k ne =
        then.harts k
        ∙ ap (λ b. cond b (option_map counted (slice_get m'.harts.items k)) (slice_get m'.harts.items k)) (ne_eqb k h ne)
        ∙ is.harts k
        ∙ ap (option_map (beside_unless (eqb k h) k h d)) (get_set_other m.harts.items h k z ne ∙ sym (get_set_other m.harts.items h k (counted z) ne))
