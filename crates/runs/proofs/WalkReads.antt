-- The walk.
--     other-map       lines with no edit yet have another one, where the edits so far are by line
--     words-read      it reads the shortest run that has an edit for each line named, or all words
--     frame-read      what it shows is the last edit of each line named
--     shown_read      with the kept codes of the lines that have no edit, each line named has the edit that it has behind them
--     kept-front      with the codes of entries in front, each line named has the edit that it has with these entries
--     none_kept       with no code kept, its last edit
-- Assumes nothing.
use mathlib.Core.Path.{◌≡◌, refl, sym, ap, subst, fun_ext, ◌∙◌}
use mathlib.Core.List.{List, [], ◌∷◌, ◌++◌, map, map-map}
use Rattle.std.specs.Prelude.{Option}
use mathlib.Core.Bool.{Bool, true, false}
use mathlib.Core.Logic.{◌⊎◌, inl, inr}
use Prim.Native.Nat.{ℕ, zero, suc, ◌+◌, ◌-◌, ◌≤◌, ◌<◌}
use native.Mathlib.Nat.{not-suc-le-zero, le_of_suc-le-suc, eq-or-lt_of_le}
use native.Mathlib.Omega.{arith}
use lib.Dec.{leb}
use lib.ListN.{length, get_or, take, drop, take-append-drop, drop_of_length-le}
use lib.Seq.{drop-cons}
use borrow.Author.Tests.{leb-true}
use Rattle.lists.specs.Tests.{pick, all_b}
use Rattle.lists.proofs.Tests.{all-mapped, get_d_replicate, pick-cases}
use Rattle.protocol.specs.Codes.{cell, of_cell, edit_in, no_codes, codes_after}
use Rattle.protocol.specs.Frames.{edit_after, last_edit, or_else, edit_by}
use Rattle.protocol_laws.proofs.Codes.{cell-back, codes_at}
use Rattle.protocol_laws.proofs.Frames.{edit-append, edit-behind, edit-cons}
use Rattle.runs.specs.Runs.{of_frame, edits_of, edits_all, run_has, shortest_run, Shortest}
use Rattle.runs.specs.Walk.{FrameRead, or_other, with_word, answered, behind, walk, walk_back}
use Rattle.runs.proofs.Members.{all-mem, map_each}
use Rattle.runs.proofs.Edits.{some-edits, edits-front}
use Rattle.runs.proofs.Runs.{shortest-one, shortest-is}

-- the edits that a part of the entries gives
abbrev from : List ℕ → List ℕ → List (Option ℕ)
from lines l = map (λ (line : ℕ). last_edit line l) lines

answered-is : (lines l : List ℕ) → answered (from lines l) ≡ edits_all lines l
answered-is lines l = all-mapped _ _ lines ∙ ap (λ (t : ℕ → Bool). all_b t lines) (fun_ext (λ line. some-edits line l))

pub other-map : (other o : ℕ → Option ℕ) (lines : List ℕ) → or_other other lines (map o lines) ≡ map (λ (line : ℕ). or_else (o line) (other line)) lines
other-map other o [] = refl
other-map other o (line ∷ lines) = ap (λ (os : List (Option ℕ)). or_else (o line) (other line) ∷ os) (other-map other o lines)

with-word : (v : ℕ) (lines l : List ℕ) → with_word v lines (from lines l) ≡ from lines (v ∷ l)
with-word v lines l =
    other-map (edit_by v) (λ (line : ℕ). last_edit line l) lines ∙ ap (λ (f : ℕ → Option ℕ). map f lines) (fun_ext (λ line. sym (edit-cons line v l)))

module _ (lines entries : List ℕ) where
  abbrev p : ℕ
  p = length entries

  -- the entries from place i on
  abbrev part : ℕ → List ℕ
  part i = drop i entries

  -- the reading w from place i: where it stopped, what it shows, and that no run up to there had every edit
  record Stopped (i : ℕ) (w : FrameRead) : Type 0 where
    stop : ℕ
    read : stop + w.words ≡ i
    shows : w.frame ≡ from lines (part stop)
    lacks : (j : ℕ) → stop < j → j ≤ i → edits_all lines (part j) ≡ false
    ends : (edits_all lines (part stop) ≡ true) ⊎ (stop ≡ 0)

  here : ℕ → FrameRead
  here i = record { frame = from lines (part i); words = 0 }

  walk-on : (i : ℕ) → i < p → walk (suc i) lines entries (from lines (part (suc i)))
      ≡ pick (edits_all lines (part (suc i))) (here (suc i)) (behind 1 (walk i lines entries (from lines (part i))))
  unfolding walk here
  walk-on i b = rw (answered-is lines (part (suc i)), with-word (get_or entries i 0) lines (part (suc i)), ← drop-cons entries i 0 b)

  stopped : (i : ℕ) → i ≤ p → Stopped i (walk i lines entries (from lines (part i)))
  unfolding walk here
  stopped zero b = record { stop = 0; read = refl; shows = refl; lacks = λ j k m. absurd (not-suc-le-zero {n = 0} (omega arith)); ends = inr refl }
  stopped (suc i) b =
      subst (Stopped (suc i)) (sym (walk-on i b))
      (pick-cases (Stopped (suc i)) (edits_all lines (part (suc i))) (here (suc i)) (behind 1 (walk i lines entries (from lines (part i))))
      (λ q. record { stop = suc i; read = omega arith; shows = refl; lacks = λ j k m. absurd (not-suc-le-zero {n = 0} (omega arith)); ends = inl q })
      (go (stopped i (omega arith))))
    where
      go : Stopped i (walk i lines entries (from lines (part i))) → edits_all lines (part (suc i)) ≡ false → Stopped (suc i) (behind 1 (walk i lines entries (from lines (part i))))
      go s q = record { stop = s.stop; read = omega (arith, s.read); shows = s.shows; lacks = λ j k m. back j k (eq-or-lt_of_le m); ends = s.ends }
        where
          back : (j : ℕ) → s.stop < j → (j ≡ suc i) ⊎ (j < suc i) → edits_all lines (part j) ≡ false
          back j k (inl e) = rw e q
          back j k (inr m) = s.lacks j k (le_of_suc-le-suc m)

  begun : Stopped p (walk_back lines entries)
  unfolding edit_after
  begun = rw (drop_of_length-le entries {i = p} (omega arith)) at (stopped p (omega arith))

  words-shortest : Shortest p (run_has lines entries) (walk_back lines entries).words
  words-shortest = record { within = omega (arith, begun.read); shorter = λ s k. begun.lacks (p - s) (omega (arith, begun.read)) (omega arith); found = found begun.ends (has r) refl }
    where
      r : ℕ
      r = (walk_back lines entries).words

      has : ℕ → Bool
      has = run_has lines entries

      from_end : p - r ≡ begun.stop
      from_end = omega (arith, begun.read)

      found : (edits_all lines (part begun.stop) ≡ true) ⊎ (begun.stop ≡ 0) → (t : Bool) → has r ≡ t → (has r ≡ true) ⊎ ((r ≡ p) × ((s : ℕ) → s ≤ p → has s ≡ false))
      found e true q = inl q
      found (inl e) false q = inl (rw from_end e)
      found (inr e) false q = inr (omega (arith, begun.read), λ s k. none s (eq-or-lt_of_le k))
        where
          none : (s : ℕ) → (s ≡ p) ⊎ (s < p) → has s ≡ false
          none s (inl d) = ap has (d ∙ omega (arith, begun.read)) ∙ q
          none s (inr k) = begun.lacks (p - s) (omega arith) (omega arith)

  pub words-read : (walk_back lines entries).words ≡ shortest_run lines entries
  words-read = shortest-one p (run_has lines entries) (walk_back lines entries).words (shortest_run lines entries) words-shortest (shortest-is lines entries)

  pub frame-read : (walk_back lines entries).frame ≡ map (λ (line : ℕ). last_edit line entries) lines
  frame-read = begun.shows ∙ go begun.ends
    where
      go : (edits_all lines (part begun.stop) ≡ true) ⊎ (begun.stop ≡ 0) → from lines (part begun.stop) ≡ from lines entries
      go (inl e) = sym (edits-front lines (take begun.stop entries) (part begun.stop) e) ∙ ap (from lines) (take-append-drop begun.stop entries)
      go (inr e) = rw e

  -- with the kept codes of the lines that have no edit
  pub shown_read : (codes : List ℕ) → map cell (or_other (edit_in codes) lines (walk_back lines entries).frame) ≡ edits_of lines codes entries
  shown_read codes = ap (map cell) found ∙ map-map cell (λ (line : ℕ). edit_after line (edit_in codes line) entries) lines
    where
      found : or_other (edit_in codes) lines (walk_back lines entries).frame ≡ map (λ (line : ℕ). edit_after line (edit_in codes line) entries) lines
      found =
          ap (or_other (edit_in codes) lines) frame-read ∙ other-map (edit_in codes) (λ (line : ℕ). last_edit line entries) lines
          ∙ ap (λ (f : ℕ → Option ℕ). map f lines) (fun_ext (λ line. sym (edit-behind line (edit_in codes line) entries)))

-- ── entries in front, of which the codes are kept ──
pub kept-front : (lines codes x y : List ℕ) → of_frame lines ≡ true → length codes ≡ 64 → edits_of lines (codes_after codes x) y ≡ edits_of lines codes (x ++ y)
kept-front lines codes x y each long = map_each _ _ lines (λ line m.
    let l : line < length codes = omega (arith, leb-true line 63 (all-mem (λ (k : ℕ). leb k 63) m each)) in
    ap (λ (o : Option ℕ). cell (edit_after line o y)) (ap of_cell (codes_at codes x line l) ∙ cell-back (edit_after line (edit_in codes line) x))
    ∙ ap cell (sym (edit-append line (edit_in codes line) x y)))

pub none_kept : (lines entries : List ℕ) → edits_of lines no_codes entries ≡ map (λ (line : ℕ). cell (last_edit line entries)) lines
none_kept lines entries =
    ap (λ (f : ℕ → ℕ). map f lines) (fun_ext (λ line. ap (λ (k : ℕ). cell (edit_after line (of_cell k) entries)) (get_d_replicate {A = ℕ} 64 0 line)))
