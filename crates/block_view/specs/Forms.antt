-- The forms of acts (own): their words, and where a thread goes on whose sequence was cut.
use Rattle.std.specs.Prelude.{ℕ, List, Option, None, Some, codes}
use Rattle.block_model.specs.declared.acts.SeqEnd.TheVariants as ends
use Rattle.block_view.specs.declared.forms.Form.{Form}
use Rattle.block_view.specs.declared.forms.Form.TheVariants.{Step, Kernel, Sequence}

-- the word of a form
abbrev pub form_word : Form → List ℕ
form_word Step = codes "step"
form_word Kernel = codes "kernel"
form_word (Sequence ends.Dead) = codes "dead"
form_word (Sequence (ends.Cut at)) = codes "cut"
form_word (Sequence ends.Left) = codes "left"
form_word (Sequence ends.Dropped) = codes "dropped"
form_word (Sequence ends.Unended) = codes "open"

-- the abort handler at which a thread goes on whose sequence was cut
abbrev pub cut_at : Form → Option ℕ
cut_at (Sequence (ends.Cut at)) = Some at
cut_at other = None
