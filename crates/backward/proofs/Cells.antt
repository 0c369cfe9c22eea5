-- The cells of the walk.
--     lacking-set, lacking-most     a store changes the number of cells that are 0 by what it overwrites and what it stores; they are at most all
--     Asking                        while lines are named: the cells of those named so far are 0, all others 1
--     added-kept, added-stored      what the code does when a word is read
--     kept-none, kept-some          what it shows of a line: the kept code, or the edit
--     Walking                       while words are read: what is left to read, from the edits so far, gives what the whole walk gives
-- Assumes nothing.
use mathlib.Core.Path.{◌≡◌, refl, sym, ap, ap₂, subst, fun_ext, ◌∙◌}
use mathlib.Core.List.Memᴰ
use mathlib.Core.List.{List, [], ◌∷◌, map, foldl, map-map, Memᴰ}
use Rattle.std.specs.Prelude.{Option, None, Some}
use Rattle.std.proofs.lemmas.Option.{none-some}
use mathlib.Core.Bool.{Bool, true, false, not, true≢false}
use mathlib.Core.Logic.{◌⊎◌, inl, inr}
use Prim.Native.Nat.{ℕ, zero, suc, ◌+◌, ◌-◌, ◌≤◌, ◌<◌}
use native.Mathlib.Nat.{not-suc-le-zero, le_of_suc-le-suc}
use native.Mathlib.Numerals.{add-one}
use native.Mathlib.Omega.{arith}
use lib.Dec.{eqb, leb, ltb}
use lib.ListN.{length, get_or, set, replicate, length-set, length-replicate, get_or-replicate}
use lib.Seq.{set_out, get_or-set_same, get_or-set_other}
use borrow.Author.Tests.{eqb-true, eqb-false, eq-eqb, ne_eqb, leb-true, ltb-true, ltb-false}
use Rattle.lists.specs.Tests.{pick}
use Rattle.lists.proofs.Tests.{pick_true, pick-false, pick-cases, all-mapped}
use Rattle.lists.proofs.Fold.{FoldedUpTo, fold_next, fold_done}
use Rattle.protocol.specs.Entry.{line_of, code_of}
use Rattle.protocol.specs.Codes.{cell, of_cell, edit_in}
use Rattle.protocol.specs.Vote.{is_none}
use Rattle.protocol.specs.Frames.{or_else, edit_by}
use Rattle.protocol_laws.proofs.Codes.{cell-of}
use Rattle.runs.specs.Runs.{Named}
use Rattle.runs.specs.Walk.{FrameRead, or_other, with_word, answered, behind, walk, walk_back}
use Rattle.backward.specs.Cells.{is_lacking, lacking, naming, named_cells, is_first, edit_added, new_edits, or_kept, placed, cells_at, asked_of, walked_of}
use Rattle.backward.specs.declared.Asked.{Asked}
use Rattle.backward.specs.declared.Walked.{Walked}
use Rattle.runs.proofs.Members.{all-mem, all-each, map_each}
use Rattle.runs.proofs.WalkReads.{other-map}

-- ── how many are 0 ──
pub lacking-set : (cells : List ℕ) (i x : ℕ) → i < length cells → lacking (set cells i x) + is_lacking (get_or cells i 0) ≡ lacking cells + is_lacking x
unfolding lacking
lacking-set [] i x h = absurd (not-suc-le-zero h)
lacking-set (c ∷ cells) zero x h = omega arith
lacking-set (c ∷ cells) (suc i) x h = omega (arith, lacking-set cells i x (le_of_suc-le-suc h))

pub lacking-most : (cells : List ℕ) → lacking cells ≤ length cells
unfolding lacking
lacking-most [] = omega arith
lacking-most (zero ∷ cells) = omega (arith, lacking-most cells)
lacking-most (suc c ∷ cells) = omega (arith, lacking-most cells)

lacking-none : (cells : List ℕ) → lacking cells ≡ 0 → (k : ℕ) → k < length cells → get_or cells k 0 ≡ 0 → ⊥
unfolding lacking
lacking-none [] e k h z = not-suc-le-zero h
lacking-none (zero ∷ cells) e k h z = omega arith
lacking-none (suc c ∷ cells) e zero h z = omega arith
lacking-none (suc c ∷ cells) e (suc k) h z = lacking-none cells (omega arith) k (le_of_suc-le-suc h) z

none-lacking : (cells : List ℕ) → ((k : ℕ) → k < length cells → get_or cells k 0 ≡ 0 → ⊥) → lacking cells ≡ 0
unfolding lacking
none-lacking [] h = refl
none-lacking (zero ∷ cells) h = absurd (h 0 (omega arith) refl)
none-lacking (suc c ∷ cells) h = omega (arith, none-lacking cells (λ k b. h (suc k) (omega arith)))

-- ── while lines are named ──
-- a store of 0
name-at : (cells : List ℕ) (line k : ℕ) → (get_or (naming cells line) k 0 ≡ get_or cells k 0) ⊎ ((line ≡ k) × (get_or (naming cells line) k 0 ≡ 0))
name-at cells line k = go (eqb line k) refl (ltb k (length cells)) refl
  where
    go : (t : Bool) → eqb line k ≡ t → (b : Bool) → ltb k (length cells) ≡ b → (get_or (naming cells line) k 0 ≡ get_or cells k 0) ⊎ ((line ≡ k) × (get_or (naming cells line) k 0 ≡ 0))
    go true e true l = let same = eqb-true line k e in inr (same, rw same (get_or-set_same cells k 0 0 (ltb-true k (length cells) l)))
    go true e false l = let same = eqb-true line k e in inl (rw (same, set_out cells k 0 (ltb-false k (length cells) l)))
    go false e b l = inl (get_or-set_other cells line k 0 0 (λ s. eqb-false line k e (sym s)))

stays-0 : (cells lines : List ℕ) (k : ℕ) → get_or cells k 0 ≡ 0 → get_or (foldl naming cells lines) k 0 ≡ 0
stays-0 cells [] k e = e
stays-0 cells (line ∷ lines) k e = stays-0 (naming cells line) lines k (go (name-at cells line k))
  where
    go : (get_or (naming cells line) k 0 ≡ get_or cells k 0) ⊎ ((line ≡ k) × (get_or (naming cells line) k 0 ≡ 0)) → get_or (naming cells line) k 0 ≡ 0
    go (inl q) = q ∙ e
    go (inr q) = q.1

named-0 : (cells lines : List ℕ) (k : ℕ) → k < length cells → Memᴰ k lines → get_or (foldl naming cells lines) k 0 ≡ 0
named-0 cells [] k h m = absurd (Memᴰ.not-nil m)
named-0 cells (line ∷ lines) k h m = go (named-0 (naming cells line) lines k (rw (length-set cells line 0) h)) (Memᴰ.cases_cons m)
  where
    go : (Memᴰ k lines → get_or (foldl naming (naming cells line) lines) k 0 ≡ 0) → (k ≡ line) ⊎ Memᴰ k lines → get_or (foldl naming cells (line ∷ lines)) k 0 ≡ 0
    go later (inl e) = stays-0 (naming cells line) lines k (ap (λ (x : ℕ). get_or (naming cells x) k 0) (sym e) ∙ get_or-set_same cells k 0 0 h)
    go later (inr n) = later n

only-named-0 : (cells lines : List ℕ) (k : ℕ) → get_or (foldl naming cells lines) k 0 ≡ 0 → (get_or cells k 0 ≡ 0) ⊎ Memᴰ k lines
only-named-0 cells [] k e = inl e
only-named-0 cells (line ∷ lines) k e = go (only-named-0 (naming cells line) lines k e)
  where
    at : get_or (naming cells line) k 0 ≡ 0 → (get_or (naming cells line) k 0 ≡ get_or cells k 0) ⊎ ((line ≡ k) × (get_or (naming cells line) k 0 ≡ 0)) → (get_or cells k 0 ≡ 0) ⊎ Memᴰ k (line ∷ lines)
    at z (inl q) = inl (sym q ∙ z)
    at z (inr q) = inr (Memᴰ.head (sym q.0))

    go : (get_or (naming cells line) k 0 ≡ 0) ⊎ Memᴰ k lines → (get_or cells k 0 ≡ 0) ⊎ Memᴰ k (line ∷ lines)
    go (inl z) = at z (name-at cells line k)
    go (inr m) = inr (Memᴰ.tail m)

named-length : (lines : List ℕ) → length (named_cells lines) ≡ 256
unfolding named_cells
named-length lines = go (replicate 256 1) lines ∙ length-replicate {A = ℕ} 256 1
  where
    go : (cells ls : List ℕ) → length (foldl naming cells ls) ≡ length cells
    go cells [] = refl
    go cells (line ∷ ls) = go (naming cells line) ls ∙ length-set cells line 0

-- the lines before place i are named
pub record Asking (lines : List ℕ) (left : ℕ) (cells : List ℕ) (i : ℕ) : Type 0 where
  pub within : i ≤ length lines
  pub folded : FoldedUpTo naming (replicate 256 1) lines cells i
  pub long : length cells ≡ 256
  pub most : (k : ℕ) → get_or cells k 0 ≤ 1
  pub count : left ≡ lacking cells

ones-most : (n k : ℕ) → get_or (replicate n 1) k 0 ≤ 1
ones-most zero k = omega arith
ones-most (suc n) zero = omega arith
ones-most (suc n) (suc k) = ones-most n k

ones-count : (n : ℕ) → 0 ≡ lacking (replicate n 1)
unfolding lacking
ones-count zero = refl
ones-count (suc n) = omega (arith, ones-count n)

pub asking-begins : (lines : List ℕ) → Asking lines 0 (replicate 256 1) 0
asking-begins lines = record { within = omega arith; folded = refl; long = length-replicate {A = ℕ} 256 1; most = ones-most 256; count = ones-count 256 }

pub asking-again : {lines : List ℕ} {left : ℕ} {cells : List ℕ} {i : ℕ} → Asking lines left cells i → i < length lines → get_or lines i 0 < 256
    → Asking lines (left + get_or cells (get_or lines i 0) 0) (set cells (get_or lines i 0) 0) (i + 1)
asking-again {lines} {left} {cells} {i} a h b = record {
  within = omega arith;
  folded = fold_next naming (replicate 256 1) lines cells i a.folded h _ refl;
  long = length-set cells (get_or lines i 0) 0 ∙ a.long;
  most = most;
  count = count;
}
  where
    most : (k : ℕ) → get_or (set cells (get_or lines i 0) 0) k 0 ≤ 1
    most k = go (name-at cells (get_or lines i 0) k)
      where
        go : (get_or (naming cells (get_or lines i 0)) k 0 ≡ get_or cells k 0) ⊎ ((get_or lines i 0 ≡ k) × (get_or (naming cells (get_or lines i 0)) k 0 ≡ 0)) → get_or (naming cells (get_or lines i 0)) k 0 ≤ 1
        go (inl q) = omega (arith, a.most k)
        go (inr q) = omega arith

    one : (c : ℕ) → c ≤ 1 → is_lacking c + c ≡ 1
    one zero m = refl
    one (suc zero) m = refl
    one (suc (suc c)) m = absurd (omega arith)

    count : left + get_or cells (get_or lines i 0) 0 ≡ lacking (set cells (get_or lines i 0) 0)
    count = omega (arith, a.count, lacking-set cells (get_or lines i 0) 0 (omega (arith, a.long)), one (get_or cells (get_or lines i 0) 0) (a.most (get_or lines i 0)))

pub asking-ends : {lines : List ℕ} {left : ℕ} {cells : List ℕ} {i : ℕ} → Asking lines left cells i → length lines ≤ i → ◌≡◌ {A = Asked} (record { left = left; cells = cells }) (asked_of lines)
unfolding named_cells
asking-ends {lines} {left} {cells} {i} a h = let e = fold_done naming (replicate 256 1) lines cells i a.folded h in λ j. record { left = (a.count ∙ ap lacking e) j; cells = e j }

-- ── while words are read ──
-- what the cells say
abbrev pub told : List ℕ → List ℕ → List (Option ℕ)
told cells lines = map (λ (line : ℕ). of_cell (get_or cells line 0)) lines

or-none : (o : Option ℕ) → or_else o None ≡ o
or-none None = refl
or-none (Some code) = refl

or_some : (c : ℕ) (o : Option ℕ) → (c ≡ 0 → ⊥) → or_else (of_cell c) o ≡ of_cell c
or_some zero o h = absurd (h refl)
or_some (suc c) o h = refl

added-at : (cells : List ℕ) (v line : ℕ) → line < length cells → of_cell (get_or (edit_added cells v) line 0) ≡ or_else (of_cell (get_or cells line 0)) (edit_by v line)
unfolding edit_added pick
added-at cells v line h = go (is_first cells v) refl (eqb (line_of v) line) refl
  where
    go : (f : Bool) → is_first cells v ≡ f → (t : Bool) → eqb (line_of v) line ≡ t
        → of_cell (get_or (pick f (set cells (line_of v) (suc (code_of v))) cells) line 0) ≡ or_else (of_cell (get_or cells line 0)) (pick t (Some (code_of v)) None)
    go true first true e =
        let same = eqb-true (line_of v) line e in
        let zeroed : get_or cells line 0 ≡ 0 = ap (λ (k : ℕ). get_or cells k 0) (sym same) ∙ eqb-true (get_or cells (line_of v) 0) 0 first in
        ap (λ (k : ℕ). of_cell (get_or (set cells k (suc (code_of v))) line 0)) same ∙ ap of_cell (get_or-set_same cells line (suc (code_of v)) 0 h)
        ∙ sym (ap (λ (c : ℕ). or_else (of_cell c) (Some (code_of v))) zeroed)
    go true first false e =
        ap of_cell (get_or-set_other cells (line_of v) line (suc (code_of v)) 0 (λ s. eqb-false (line_of v) line e (sym s))) ∙ sym (or-none (of_cell (get_or cells line 0)))
    go false first true e =
        sym (or_some (get_or cells line 0) (Some (code_of v)) (λ z. eqb-false (get_or cells (line_of v) 0) 0 first (ap (λ (k : ℕ). get_or cells k 0) (eqb-true (line_of v) line e) ∙ z)))
    go false first false e = sym (or-none (of_cell (get_or cells line 0)))

added-length : (cells : List ℕ) (v : ℕ) → length (edit_added cells v) ≡ length cells
unfolding edit_added
added-length cells v =
    pick-cases (λ (l : List ℕ). length l ≡ length cells) (is_first cells v) (set cells (line_of v) (suc (code_of v))) cells (λ e. length-set cells (line_of v) (suc (code_of v))) (λ e. refl)

-- how many are 0 after the word
added-count : (cells : List ℕ) (v : ℕ) → line_of v < length cells → lacking (edit_added cells v) + new_edits cells v ≡ lacking cells
unfolding edit_added new_edits pick
added-count cells v h = go (is_first cells v) refl
  where
    go : (f : Bool) → is_first cells v ≡ f → lacking (pick f (set cells (line_of v) (suc (code_of v))) cells) + pick f 1 0 ≡ lacking cells
    go true e =
        let z : is_lacking (get_or cells (line_of v) 0) ≡ 1 = ap is_lacking (eqb-true (get_or cells (line_of v) 0) 0 e) in
        omega (arith, z, lacking-set cells (line_of v) (suc (code_of v)) h)
    go false e = omega arith

-- a cell that is 0 after the word was 0 before it
was-0 : (cells : List ℕ) (v k : ℕ) → k < length cells → get_or (edit_added cells v) k 0 ≡ 0 → get_or cells k 0 ≡ 0
was-0 cells v k h z = go (get_or cells k 0) (sym (added-at cells v k h) ∙ ap of_cell z)
  where
    go : (c : ℕ) → or_else (of_cell c) (edit_by v k) ≡ None → c ≡ 0
    go zero e = refl
    go (suc c) e = absurd (none-some c (sym e))

line-below : (v : ℕ) → line_of v < 256
line-below v = omega arith

-- what the code does: nothing, or a store
pub added-kept : (cells : List ℕ) (v line : ℕ) → line ≡ line_of v → (get_or cells line 0 ≡ 0 → ⊥) → (cells ≡ edit_added cells v) × (0 ≡ new_edits cells v)
unfolding edit_added new_edits
added-kept cells v line e h =
    let f : is_first cells v ≡ false = ne_eqb (get_or cells (line_of v) 0) 0 (λ z. h (ap (λ (k : ℕ). get_or cells k 0) e ∙ z)) in
    (sym (pick-false _ _ _ f), sym (pick-false _ _ _ f))

pub added-stored : (cells : List ℕ) (v line : ℕ) → line ≡ line_of v → get_or cells line 0 ≡ 0 → (set cells line (code_of v + 1) ≡ edit_added cells v) × (1 ≡ new_edits cells v)
unfolding edit_added new_edits
added-stored cells v line e z =
    let t : is_first cells v ≡ true = eq-eqb (get_or cells (line_of v) 0) 0 (ap (λ (k : ℕ). get_or cells k 0) (sym e) ∙ z) in
    (ap₂ (set cells) e (add-one (code_of v)) ∙ sym (pick_true _ _ _ t), sym (pick_true _ _ _ t))

pub kept-none : (edit kept : ℕ) → edit ≡ 0 → kept ≡ or_kept edit kept
kept-none edit kept e = sym (ap (λ (c : ℕ). or_kept c kept) e)

pub kept-some : (edit kept : ℕ) → (edit ≡ 0 → ⊥) → edit ≡ or_kept edit kept
kept-some zero kept h = absurd (h refl)
kept-some (suc edit) kept h = refl

kept-cell : (edit kept : ℕ) → cell (or_else (of_cell edit) (of_cell kept)) ≡ or_kept edit kept
kept-cell zero kept = cell-of kept
kept-cell (suc edit) kept = refl

some-cell : (c : ℕ) → (c ≡ 0 → ⊥) → not (is_none (of_cell c)) ≡ true
some-cell zero h = absurd (h refl)
some-cell (suc c) h = refl

walk-stops : (n : ℕ) (lines entries : List ℕ) (os : List (Option ℕ)) → answered os ≡ true → walk n lines entries os ≡ record { frame = os; words = 0 }
unfolding walk
walk-stops zero lines entries os e = refl
walk-stops (suc i) lines entries os e = pick_true (answered os) _ _ e

walk-goes : (i : ℕ) (lines entries : List ℕ) (os : List (Option ℕ)) → answered os ≡ false → walk (suc i) lines entries os ≡ behind 1 (walk i lines entries (with_word (get_or entries i 0) lines os))
unfolding walk
walk-goes i lines entries os e = pick-false (answered os) _ _ e

walk-front : (lines entries : List ℕ) (os : List (Option ℕ)) → walk 0 lines entries os ≡ record { frame = os; words = 0 }
unfolding walk
walk-front lines entries os = refl

-- the words from place `end` on are read
pub record Walking (lines entries : List ℕ) (left : ℕ) (cells : List ℕ) (end : ℕ) : Type 0 where
  pub within : end ≤ length entries
  pub long : length cells ≡ 256
  pub count : left ≡ lacking cells
  pub asked : (k : ℕ) → k < 256 → get_or cells k 0 ≡ 0 → Memᴰ k lines
  pub gives : behind (length entries - end) (walk end lines entries (told cells lines)) ≡ walk_back lines entries

module _ (lines entries : List ℕ) (named : Named lines) where
  -- a line named has a cell
  has-cell : (line : ℕ) → Memᴰ line lines → line < 256
  has-cell line m = omega (arith, leb-true line 63 (all-mem (λ (x : ℕ). leb x 63) m named.each))

  none_yet : told (named_cells lines) lines ≡ map (λ (line : ℕ). None) lines
  unfolding named_cells
  none_yet = map_each (λ (line : ℕ). of_cell (get_or (foldl naming (replicate 256 1) lines) line 0)) (λ (line : ℕ). None) lines
      (λ line m. ap of_cell (named-0 (replicate 256 1) lines line (rw (length-replicate {A = ℕ} 256 1) (has-cell line m)) m))

  only-named : (k : ℕ) → k < 256 → get_or (named_cells lines) k 0 ≡ 0 → Memᴰ k lines
  unfolding named_cells
  only-named k h z = go (only-named-0 (replicate 256 1) lines k z)
    where
      go : (◌≡◌ {A = ℕ} (get_or (replicate 256 1) k 0) 0) ⊎ Memᴰ k lines → Memᴰ k lines
      go (inl q) = absurd (omega (arith, q, get_or-replicate {A = ℕ} 256 k 1 0 h))
      go (inr m) = m

  begun : Walking lines entries (lacking (named_cells lines)) (named_cells lines) (length entries)
  begun = record { within = omega arith; long = named-length lines; count = refl; asked = only-named; gives = λ i. record { frame = (start i).frame; words = sums i } }
    where
      start : walk (length entries) lines entries (told (named_cells lines) lines) ≡ walk_back lines entries
      start = ap (walk (length entries) lines entries) none_yet

      sums : length entries - length entries + (walk (length entries) lines entries (told (named_cells lines) lines)).words ≡ (walk_back lines entries).words
      sums = omega (arith, ap (λ (w : FrameRead). w.words) start)

  pub walking-begins : (asked : Asked) → asked ≡ asked_of lines → Walking lines entries asked.left asked.cells (length entries)
  walking-begins asked e = subst (λ (a : Asked). Walking lines entries a.left a.cells (length entries)) (sym e) begun

  module _ (left : ℕ) (cells : List ℕ) (end : ℕ) (w : Walking lines entries left cells end) where
    -- each line has its edit exactly if no cell is 0
    not-answered : 0 < left → answered (told cells lines) ≡ false
    not-answered h = go (answered (told cells lines)) refl
      where
        lacks : answered (told cells lines) ≡ true → (k : ℕ) → k < length cells → get_or cells k 0 ≡ 0 → ⊥
        lacks e k b z =
            let t : not (is_none (of_cell (get_or cells k 0))) ≡ true =
            all-mem (λ (line : ℕ). not (is_none (of_cell (get_or cells line 0)))) (w.asked k (omega (arith, w.long)) z) (sym (all-mapped _ _ lines) ∙ e) in
            true≢false (sym t ∙ ap (λ (c : ℕ). not (is_none (of_cell c))) z)

        go : (t : Bool) → answered (told cells lines) ≡ t → t ≡ false
        go false e = refl
        go true e = absurd (omega (arith, h, w.count, none-lacking cells (lacks e)))

    all-answered : left ≡ 0 → answered (told cells lines) ≡ true
    all-answered e = all-mapped _ _ lines ∙ all-each (λ (line : ℕ). not (is_none (of_cell (get_or cells line 0)))) lines
        (λ line m. some-cell (get_or cells line 0) (lacking-none cells (sym w.count ∙ e) line (omega (arith, w.long, has-cell line m))))

    module _ (h : 0 < left) (j : ℕ) (e : end ≡ suc j) where
      abbrev v : ℕ
      v = get_or entries j 0

      abbrev next : FrameRead
      next = walk j lines entries (told (edit_added cells v) lines)

      stepped : walk end lines entries (told cells lines) ≡ behind 1 next
      stepped =
          ap (λ (n : ℕ). walk n lines entries (told cells lines)) e ∙ walk-goes j lines entries (told cells lines) (not-answered h)
          ∙ ap (λ (os : List (Option ℕ)). behind 1 (walk j lines entries os)) (other-map (edit_by v) (λ (line : ℕ). of_cell (get_or cells line 0)) lines
          ∙ map_each (λ (line : ℕ). or_else (of_cell (get_or cells line 0)) (edit_by v line)) (λ (line : ℕ). of_cell (get_or (edit_added cells v) line 0)) lines
          (λ line m. sym (added-at cells v line (omega (arith, w.long, has-cell line m)))))

      sums : length entries - j + next.words ≡ length entries - end + (1 + next.words)
      sums = omega (arith, e, w.within)

      next-count : lacking (edit_added cells v) + new_edits cells v ≡ left
      next-count = added-count cells v (rw w.long (line-below v)) ∙ sym w.count

      again : Walking lines entries (left - new_edits cells v) (edit_added cells v) j
      again = record {
        within = omega (arith, e, w.within);
        long = added-length cells v ∙ w.long;
        count = omega (arith, next-count);
        asked = λ k c z. w.asked k c (was-0 cells v k (omega (arith, w.long)) z);
        gives = (λ i. record { frame = next.frame; words = sums i }) ∙ sym (ap (behind (length entries - end)) stepped) ∙ w.gives;
      }

      module _ (after : List ℕ) (new : ℕ) (ea : after ≡ edit_added cells (get_or entries j 0)) (en : new ≡ new_edits cells (get_or entries j 0)) where
        pub walking-again : Walking lines entries (left - new) after j
        walking-again = subst (λ (l : List ℕ). Walking lines entries (left - new) l j) (sym ea) (subst (λ (k : ℕ). Walking lines entries (left - k) (edit_added cells v) j) (sym en) again)

        pub new-within : new ≤ left
        new-within = omega (arith, en, next-count)

    -- nothing is left to read
    stops : (left ≡ 0) ⊎ (end ≡ 0) → walk end lines entries (told cells lines) ≡ record { frame = told cells lines; words = 0 }
    stops (inl e) = walk-stops end lines entries (told cells lines) (all-answered e)
    stops (inr e) = ap (λ (n : ℕ). walk n lines entries (told cells lines)) e ∙ walk-front lines entries (told cells lines)

    pub walking-ends : (left ≡ 0) ⊎ (end ≡ 0) → (codes edits : List ℕ) → edits ≡ placed (cells_at codes cells lines)
        → ◌≡◌ {A = Walked} (record { words = length entries - end; edits = edits }) (walked_of entries lines codes)
    unfolding walked_of
    walking-ends s codes edits q = λ i. record { words = words i; edits = shown i }
      where
        read : walk_back lines entries ≡ record { frame = told cells lines; words = length entries - end + 0 }
        read = sym w.gives ∙ ap (behind (length entries - end)) (stops s)

        words : length entries - end ≡ (walk_back lines entries).words
        words = omega (arith, ap (λ (r : FrameRead). r.words) read)

        shown : edits ≡ placed (map cell (or_other (edit_in codes) lines (walk_back lines entries).frame))
        shown = q ∙ ap placed (sym (ap (λ (r : FrameRead). map cell (or_other (edit_in codes) lines r.frame)) read
            ∙ ap (map cell) (other-map (edit_in codes) (λ (line : ℕ). of_cell (get_or cells line 0)) lines)
            ∙ map-map cell (λ (line : ℕ). or_else (of_cell (get_or cells line 0)) (edit_in codes line)) lines
            ∙ ap (λ (f : ℕ → ℕ). map f lines) (fun_ext (λ line. kept-cell (get_or cells line 0) (get_or codes line 0)))))
