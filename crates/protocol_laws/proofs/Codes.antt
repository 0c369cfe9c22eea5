-- The settled codes.
--     cell_apart, cell-back, cell-of     the stored number of a code is not that of no edit yet; what it says is what was stored; and the other way round
--     codes-append                       a log in two parts: the second goes on from the codes of the first
--     codes-length                       as many codes
--     codes_at                           each is the number of the last edit of its line: the settled frame
--     kept-edit                          (xiv) the last edit, from the codes that dropped entries left, is that of the whole log
-- Assumes nothing.
use mathlib.Core.Path.{◌≡◌, refl, sym, ap, ◌∙◌}
use mathlib.Core.List.{List, [], ◌∷◌, ◌++◌, foldl-append}
use Rattle.std.specs.Prelude.{Option, None, Some}
use Prim.Native.Nat.{ℕ, zero, suc, ◌<◌}
use native.Mathlib.Omega.{arith}
use lib.Dec.{eqb}
use lib.ListN.{length, get_or, length-set, length-replicate}
use lib.Seq.{get_or-set_same, get_or-set_other}
use borrow.Author.Tests.{eqb-true, eqb-false}
use Rattle.lists.specs.Tests.{pick}
use Rattle.lists.proofs.Tests.{pick-cases, get_d_replicate}
use Rattle.protocol.specs.Entry.{line_of, code_of}
use Rattle.protocol.specs.Frames.{edit_after, last_edit}
use Rattle.protocol.specs.Codes.{cell, of_cell, no_codes, coded, codes_after}
use Rattle.protocol_laws.proofs.Frames.{edit-append}

pub cell_apart : (code : ℕ) → cell (Some code) ≡ cell None → ⊥
cell_apart code e = omega arith

pub cell-back : (o : Option ℕ) → of_cell (cell o) ≡ o
cell-back None = refl
cell-back (Some code) = refl

pub cell-of : (n : ℕ) → cell (of_cell n) ≡ n
cell-of zero = refl
cell-of (suc n) = refl

pub codes-append : (codes p l : List ℕ) → codes_after codes (p ++ l) ≡ codes_after (codes_after codes p) l
unfolding codes_after
codes-append codes p l = foldl-append coded codes p l

pub codes-length : (codes log : List ℕ) → length (codes_after codes log) ≡ length codes
unfolding codes_after
codes-length codes [] = refl
codes-length codes (v ∷ log) = codes-length (coded codes v) log ∙ length-set codes (line_of v) (cell (Some (code_of v)))

coded-at : (codes : List ℕ) (v line : ℕ) → line < length codes → of_cell (get_or (coded codes v) line 0) ≡ pick (eqb (line_of v) line) (Some (code_of v)) (of_cell (get_or codes line 0))
coded-at codes v line h =
    pick-cases (λ o. of_cell (get_or (coded codes v) line 0) ≡ o) (eqb (line_of v) line) (Some (code_of v)) (of_cell (get_or codes line 0))
    (λ q. rw (eqb-true (line_of v) line q) (ap of_cell (get_or-set_same codes line (suc (code_of v)) 0 h)))
    (λ q. ap of_cell (get_or-set_other codes (line_of v) line (suc (code_of v)) 0 (λ s. eqb-false (line_of v) line q (sym s))))

edits-at : (codes log : List ℕ) (line : ℕ) → line < length codes → of_cell (get_or (codes_after codes log) line 0) ≡ edit_after line (of_cell (get_or codes line 0)) log
unfolding codes_after edit_after
edits-at codes [] line h = refl
edits-at codes (v ∷ log) line h =
    edits-at (coded codes v) log line (rw (length-set codes (line_of v) (suc (code_of v))) h) ∙ ap (λ (o : Option ℕ). edit_after line o log) (coded-at codes v line h)

pub codes_at : (codes log : List ℕ) (line : ℕ) → line < length codes → get_or (codes_after codes log) line 0 ≡ cell (edit_after line (of_cell (get_or codes line 0)) log)
codes_at codes log line h = sym (cell-of (get_or (codes_after codes log) line 0)) ∙ ap cell (edits-at codes log line h)

pub kept-edit : (p l : List ℕ) (line : ℕ) → line < 64 → edit_after line (of_cell (get_or (codes_after no_codes p) line 0)) l ≡ last_edit line (p ++ l)
kept-edit p l line h =
    ap (λ (o : Option ℕ). edit_after line o l)
    (edits-at no_codes p line (rw (length-replicate {A = ℕ} 64 0) h) ∙ ap (λ (c : ℕ). edit_after line (of_cell c) p) (get_d_replicate {A = ℕ} 64 0 line))
    ∙ sym (edit-append line None p l)
