-- What a frame shows.
--     edit-append                 a log in two parts: the second goes on from the edit of the first
--     edit-behind                 what stood before counts where the log has no edit
--     edit-cons                   an entry in front counts where those behind it have no edit
--     edit-none, edit-some        "no edit yet" exactly if no entry of the log is for the line; a code exactly if it is that of the last entry for it
-- Assumes nothing.
use mathlib.Core.Path.{◌≡◌, refl, sym, ap, subst, ◌∙◌}
use mathlib.Core.List.{List, [], ◌∷◌, ◌++◌}
use mathlib.Core.Bool.{Bool, true, false}
use Rattle.std.specs.Prelude.{Option, None, Some}
use mathlib.Core.Logic.{◌↔◌}
use Prim.Native.Nat.{ℕ, zero, suc, ◌<◌}
use native.Mathlib.Nat.{not-suc-le-zero, le_of_suc-le-suc}
use native.Mathlib.Omega.{arith}
use lib.Dec.{eqb}
use lib.ListN.{length, get_or}
use borrow.Author.Tests.{eqb-true, eqb-false}
use Rattle.lists.specs.Tests.{pick}
use Rattle.lists.proofs.Tests.{pick-cases}
use Rattle.protocol.specs.Entry.{line_of, code_of}
use Rattle.protocol.specs.Frames.{edit_after, last_edit, or_else, edit_by, NoneFor, LastFor}

pub edit-append : (line : ℕ) (before : Option ℕ) (p l : List ℕ) → edit_after line before (p ++ l) ≡ edit_after line (edit_after line before p) l
unfolding edit_after
edit-append line before [] l = refl
edit-append line before (v ∷ p) l = edit-append line (pick (eqb (line_of v) line) (Some (code_of v)) before) p l

-- ── an entry and those behind it ──
or_assoc : (a b c : Option ℕ) → or_else (or_else a b) c ≡ or_else a (or_else b c)
or_assoc None b c = refl
or_assoc (Some code) b c = refl

or-pick : (t : Bool) (code : ℕ) (o : Option ℕ) → pick t (Some code) o ≡ or_else (pick t (Some code) None) o
unfolding pick
or-pick true code o = refl
or-pick false code o = refl

pub edit-behind : (line : ℕ) (before : Option ℕ) (l : List ℕ) → edit_after line before l ≡ or_else (last_edit line l) before
unfolding edit_after
edit-behind line before [] = refl
edit-behind line before (v ∷ l) =
    let t : Bool = eqb (line_of v) line in
    edit-behind line (pick t (Some (code_of v)) before) l
    ∙ ap (or_else (last_edit line l)) (or-pick t (code_of v) before)
    ∙ sym (or_assoc (last_edit line l) (edit_by v line) before)
    ∙ ap (λ (o : Option ℕ). or_else o before) (sym (edit-behind line (edit_by v line) l))

pub edit-cons : (line v : ℕ) (l : List ℕ) → last_edit line (v ∷ l) ≡ or_else (last_edit line l) (edit_by v line)
unfolding edit_after
edit-cons line v l = edit-behind line (edit_by v line) l

-- ── none, or the last ──
-- what an edit says of the log
abbrev Says : ℕ → List ℕ → Option ℕ → Type 0
Says line log None = NoneFor line log
Says line log (Some code) = LastFor line log code

-- an entry in front of those that the edit was of
says-cons : (line v : ℕ) (l : List ℕ) (o : Option ℕ) → Says line l o → Says line (v ∷ l) (or_else o (pick (eqb (line_of v) line) (Some (code_of v)) None))
says-cons line v l (Some code) h = record {
  place = suc h.place;
  there = omega (arith, h.there);
  its-line = h.its-line;
  its-code = h.its-code;
  last = last;
}
  where
    last : (later : ℕ) → suc h.place < later → later < suc (length l) → line_of (get_or (v ∷ l) later 0) ≡ line → ⊥
    last zero p q = absurd (not-suc-le-zero p)
    last (suc later) p q = h.last later (le_of_suc-le-suc p) (le_of_suc-le-suc q)
says-cons line v l None h = pick-cases (Says line (v ∷ l)) (eqb (line_of v) line) (Some (code_of v)) None
    (λ q. record { place = 0; there = omega arith; its-line = eqb-true (line_of v) line q; its-code = refl; last = behind })
    (λ q. before q)
  where
    behind : (later : ℕ) → 0 < later → later < suc (length l) → line_of (get_or (v ∷ l) later 0) ≡ line → ⊥
    behind zero p q = absurd (not-suc-le-zero p)
    behind (suc later) p q = h later (le_of_suc-le-suc q)

    before : eqb (line_of v) line ≡ false → NoneFor line (v ∷ l)
    before e zero q = eqb-false (line_of v) line e
    before e (suc place) q = h place (le_of_suc-le-suc q)

edit-says : (line : ℕ) (log : List ℕ) → Says line log (last_edit line log)
unfolding edit_after
edit-says line [] = λ place h. absurd (not-suc-le-zero h)
edit-says line (v ∷ l) = subst (Says line (v ∷ l)) (sym (edit-cons line v l)) (says-cons line v l (last_edit line l) (edit-says line l))

-- nothing else says it
says-one : (line : ℕ) (log : List ℕ) (o p : Option ℕ) → Says line log o → Says line log p → o ≡ p
says-one line log None None g h = refl
says-one line log None (Some c) g h = absurd (g h.place h.there h.its-line)
says-one line log (Some c) None g h = absurd (h g.place g.there g.its-line)
says-one line log (Some c) (Some d) g h =
    ap {B = Option ℕ} Some (sym g.its-code ∙ ap (λ (i : ℕ). code_of (get_or log i 0)) same ∙ h.its-code)
  where
    same : g.place ≡ h.place
    same =
        let not-before : ¬ (g.place < h.place) = λ q. g.last h.place q h.there h.its-line in
        let not_after : ¬ (h.place < g.place) = λ q. h.last g.place q g.there g.its-line in
        omega arith

pub edit-none : (line : ℕ) (log : List ℕ) → (last_edit line log ≡ None) ↔ NoneFor line log
edit-none line log = (λ e. subst (Says line log) e (edit-says line log), says-one line log (last_edit line log) None (edit-says line log))

pub edit-some : (line : ℕ) (log : List ℕ) (code : ℕ) → (last_edit line log ≡ Some code) ↔ LastFor line log code
edit-some line log code = (λ e. subst (Says line log) e (edit-says line log), says-one line log (last_edit line log) (Some code) (edit-says line log))
