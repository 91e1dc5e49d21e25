-- write(2) and writev(2): what is done with spans of bytes, by how many they are, whether they can be read, and the console's room.
use Rattle.sys_calls.proofs.Common.{◌≡◌, ℕ, ◌≤◌, ◌<◌, true, false, not, eqb, leb, List, length, take, ◌∙◌, le-leb, lt-leb, ne_eqb, EFAULT, ENOSPC, CONSOLE_ROOM, Here, memory, refused, Span, all_readable, bytes_of, room, total, wrote, cond-false, cond-true, not_from_false, not_from_true, write_spans}

pub spans_unreadable : (h : Here) (t : ℕ) (spans : List Span) → (total spans ≡ 0 → ⊥) → all_readable h spans ≡ false → write_spans h t spans ≡ refused h t EFAULT
spans_unreadable h t spans some cannot = cond-false (eqb (total spans) 0) _ _ (ne_eqb (total spans) 0 some) ∙ cond-true (not (all_readable h spans)) _ _ (not_from_false _ cannot)

pub spans_full : (h : Here) (t : ℕ) (spans : List Span) → (total spans ≡ 0 → ⊥) → all_readable h spans ≡ true → CONSOLE_ROOM ≤ length h.kernel.console → write_spans h t spans ≡ refused h t ENOSPC
spans_full h t spans some can full =
    cond-false (eqb (total spans) 0) _ _ (ne_eqb (total spans) 0 some) ∙ cond-false (not (all_readable h spans)) _ _ (not_from_true _ can)
    ∙ cond-true (leb CONSOLE_ROOM (length h.kernel.console)) _ _ (le-leb CONSOLE_ROOM (length h.kernel.console) full)

pub spans_wrote : (h : Here) (t : ℕ) (spans : List Span) → (total spans ≡ 0 → ⊥) → all_readable h spans ≡ true → length h.kernel.console < CONSOLE_ROOM
    → write_spans h t spans ≡ wrote h t (take (room h) (bytes_of (memory h) spans))
spans_wrote h t spans some can free =
    cond-false (eqb (total spans) 0) _ _ (ne_eqb (total spans) 0 some) ∙ cond-false (not (all_readable h spans)) _ _ (not_from_true _ can)
    ∙ cond-false (leb CONSOLE_ROOM (length h.kernel.console)) _ _ (lt-leb CONSOLE_ROOM (length h.kernel.console) free)
