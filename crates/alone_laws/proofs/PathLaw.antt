-- A sequence of a block whose thread keeps on a path: after it the thread stands on the path.
use Rattle.std.proofs.Common.{◌≡◌, ℕ, ◌+◌, List, refl, sym, ap, ◌∙◌, Bool, true, false, Some}
use Rattle.mach_types.specs.Bytes.{word_at}
use Rattle.mach_types.specs.Kernel.Areas.{is_inside}
use Rattle.mach_types.specs.declared.sequences.TheConstants.{RSEQ_CS}
use Rattle.mach_types.specs.declared.user_memory.Store.{Store}
use Rattle.rv_inst.specs.Execution.{seen_byte}
use Rattle.alone.specs.Paths.{IsOn, KeepsOn, Path}
use Rattle.block_model.specs.Acts.{Sequence, sequence_on}
use Rattle.block_model.specs.History.{History, file, running}
use Rattle.block_model.specs.Run.{IsRunHistory}
use Rattle.block_model.specs.Setting.{Setting}
use Rattle.alone_laws.specs.Blocks.{Block, IsFairSince, IsSole, StaysInside, pointer_bytes}
use Rattle.alone_laws.specs.Spans.{IsStanding, alone_from, code_of, seen_at}
use Rattle.alone_laws.proofs.Sequences.{sole_so_far}

-- the path of a block from a place of a hart, with what is asked of the stores inside and where it is left
abbrev pub path_of : Setting → Block → ℕ → ℕ → History → (ℕ → Bool) → (List Store → Type 0)
    → (ℕ → (ℕ → ℕ) → List Store → Type 0) → Path
path_of s b h t begun may inside left = record {
  code = code_of s.program.pages;
  seen = seen_at s h begun;
  range = b.range;
  words = b.words;
  may = may;
  old = (file s t begun).file;
  Inside = inside;
  Left = left;
}

module _ (s : Setting) (b : Block) (h t : ℕ) (begun : History) (may : ℕ → Bool) (Inside : List Store → Type 0)
    (Left : ℕ → (ℕ → ℕ) → List Store → Type 0)
    (keeps : KeepsOn (path_of s b h t begun may Inside Left) (alone_from s h t begun 0))
    (covers : (a : ℕ) → pointer_bytes b a ≡ true → b.words a ≡ true)
    (points_in : (es : List Store) → Inside es
    → word_at (seen_byte es (seen_at s h begun)) (b.area.at + RSEQ_CS) 8 ≡ Some b.table)
    (points_out : (at : ℕ) (temps : ℕ → ℕ) (es : List Store) → Left at temps es
    → word_at (seen_byte es (seen_at s h begun)) (b.area.at + RSEQ_CS) 8 ≡ Some b.table) where
  abbrev On : ℕ → Type 0
  On n = IsOn (path_of s b h t begun may Inside Left) (alone_from s h t begun n)

  pub sole : IsSole (code_of s.program.pages) (seen_at s h begun) (alone_from s h t begun 0) b
  sole = record {
    goes = λ n begin here. ((on_it n begin).inside
        (sym (ap (is_inside b.range) (on_it n begin).stands.pc) ∙ here)).1;
    points = λ n begin.
        ap (λ (es : List Store). word_at (seen_byte es (seen_at s h begun)) (b.area.at + RSEQ_CS) 8)
        (on_it n begin).stands.executed
        ∙ pointer n (on_it n begin) (is_inside b.range (on_it n begin).at) refl;
    covers = covers;
  }
    where
      on_it : (n : ℕ) → StaysInside (code_of s.program.pages) (seen_at s h begun) (alone_from s h t begun 0)
          b.range n → On n
      on_it n begin = keeps n begin

      pointer : (n : ℕ) (o : On n) (c : Bool) → is_inside b.range o.at ≡ c
          → word_at (seen_byte o.stores (seen_at s h begun)) (b.area.at + RSEQ_CS) 8 ≡ Some b.table
      pointer n o true is = points_in o.stores (o.inside is).0
      pointer n o false is = points_out o.at o.temps o.stores (o.left is)

  -- after so many of its instructions
  pub path_law : running s h begun ≡ Some t → (before : History) (q : Sequence) → IsRunHistory s before
      → IsFairSince s b h t begun before
      → sequence_on s h before ≡ Some q → q.begun ≡ begun
      → (n : ℕ) × IsStanding s b.words h t begun q.reached (alone_from s h t begun n) × On n
  path_law runs before q run fair is from =
      let so = sole_so_far s b h t begun runs sole before q run fair is from in
      (so.0, so.1.reached, keeps so.0 so.1.below)
