-- Request (xiv): the claims of specs/Folds. A done fold moves entries from the log to what is kept, so that what both make together stays.
-- Assumes nothing.
use mathlib.Core.Path.{◌≡◌, refl, sym, ap, ap₂, ◌∙◌}
use mathlib.Core.Bool.{Bool, true, false}
use mathlib.Core.List.{List}
use Rattle.std.specs.Prelude.{Option}
use Prim.Native.Nat.{ℕ, zero, suc, ◌+◌, ◌-◌, ◌<◌, ◌≤◌, min}
use native.Mathlib.Omega.{arith}
use lib.Dec.{eqb, leb}
use lib.ListN.{length, get_or, drop, length-drop}
use borrow.Author.Tests.{eqb-false, leb-true}
use Rattle.lists.specs.Tests.{pick}
use Rattle.lists.proofs.Tests.{pick-cases}
use Rattle.protocol.specs.Office.{tail, path}
use Rattle.protocol.specs.Frames.{edit_after}
use Rattle.protocol.specs.Codes.{of_cell}
use Rattle.protocol.specs.Folding as F
use Rattle.protocol.specs.Folding.{least_known, fold_count, with_fold, settled_length, shorn}
use Rattle.protocol_laws.proofs.Frames.{edit-append}
use Rattle.protocol_laws.proofs.Codes.{cell-back}
use Rattle.protocol_laws.proofs.Folding.{least-own, least-noted}
use Rattle.ballots.specs.Ballots.{words_with}
use Rattle.frame.specs.State.{held_by, folded_by, with_held, holding}
use Rattle.frame.specs.Soundness.{sound_b, Sound}
use Rattle.folding.specs.Folding.{shortened_of, fold_of, fold_words}
use Rattle.both_frames.specs.Frames.{kept_edit, shown_in, frame_of, settled_frame_of, tentative_frame_of, all_lines_of}
use Rattle.frame.specs.declared.Record.{Record}
use Rattle.folding.specs.declared.Folded.{Folded}
use Rattle.both_frames.specs.Framed.{Framed, refused_frame}
use Rattle.frame.proofs.Sound.{sound-true}
use Rattle.frame.proofs.State as State
use Rattle.both_frames.proofs.Shown.{frame-shown, stored-code, lines-shown}
use Rattle.folding.proofs.Folds as Fold
use Rattle.promises.specs.Folds.{folded, DropsKnown, ShowsSame, DropsNoMore}

-- ── how far a fold goes ──
-- what is no more than the own length and each other noted one is no more than the least
least-most : (k own : ℕ) (noted : List ℕ) (n len : ℕ) → len ≤ own → ((j : ℕ) → j < n → (j ≡ k → ⊥) → len ≤ get_or noted j 0) → len ≤ least_known k own noted n
unfolding least_known
least-most k own noted zero len h each = h
least-most k own noted (suc j) len h each =
    let less : len ≤ least_known k own noted j = least-most k own noted j len h (λ i b d. each i (omega arith) d) in
    pick-cases (λ x. len ≤ x) (eqb j k) (least_known k own noted j) (min (least_known k own noted j) (get_or noted j 0))
    (λ _. less) (λ e. omega (arith, less, each j (omega arith) (eqb-false j k e)))

-- the second time nothing goes
fold-none : (n k : ℕ) (f : F.FoldedOffice) → fold_count n k (with_fold n k f) ≡ 0
unfolding with_fold fold_count
fold-none n k f =
    let least : ℕ = least_known k (settled_length f.dropped f.held) f.noted n in
    let c : ℕ = least - f.dropped in
    let same : f.dropped + c + length (drop c f.held.log) ≡ settled_length f.dropped f.held =
    omega (arith, length-drop c f.held.log, least-own k (settled_length f.dropped f.held) f.noted n) in
    ap (λ (l : ℕ). least_known k l f.noted n - (f.dropped + c)) same ∙ omega arith

fold_stays : (n k : ℕ) (f : F.FoldedOffice) → fold_count n k f ≡ 0 → with_fold n k f ≡ f
unfolding with_fold
fold_stays n k f e =
    let d : f.dropped + fold_count n k f ≡ f.dropped = omega (arith, e) in
    λ i. record { dropped = d i; held = shorn (e i) f.held; noted = f.noted }

module _ (r : Record) (words : List ℕ) (q : (fold_of r words).number ≡ 0) where
  abbrev was : Sound r words
  was = (Fold.fold_done r words q).was

  went : (folded r words).kept.dropped ≡ r.kept.dropped + (fold_of r words).count
  unfolding with_fold
  went = ap (λ (f : F.FoldedOffice). f.dropped) (Fold.fold-state r words q) ∙ ap (λ (c : ℕ). r.kept.dropped + c) (sym (Fold.fold_done r words q).counted)

  least : ℕ
  least = least_known r.own r.settled r.noted r.n

  gone : (fold_of r words).count ≡ least - r.kept.dropped
  unfolding least
  gone = (Fold.fold_done r words q).counted ∙ sym (Fold.gone-is r words was _ refl)

  pub drops-known : DropsKnown r words
  unfolding least
  drops-known = record {
    went = went;
    known = λ h. let l : (folded r words).kept.dropped ≡ least = omega (arith, h, gone, went) in (
      omega (arith, l, least-own r.own r.settled r.noted r.n),
      λ j b d. omega (arith, l, least-noted r.own r.settled r.noted r.n j b d),
    );
    whole = λ len k. omega (arith, gone, went, least-most r.own r.settled r.noted r.n len k.0 k.1);
  }

-- ── what is shown ──
shown-same : (line : ℕ) (b b' : Option ℕ) (p p' : List ℕ) → (line ≤ 63 → edit_after line b' p' ≡ edit_after line b p) → shown_in line b' p' ≡ shown_in line b p
unfolding shown_in pick
shown-same line b b' p p' e = go (leb line 63) refl
  where
    go : (t : Bool) → leb line 63 ≡ t
        → pick {A = Framed} t (record { number = 0; edit = edit_after line b' p' }) (refused_frame 3) ≡ pick t (record { number = 0; edit = edit_after line b p }) (refused_frame 3)
    go true h = λ i. record { number = 0; edit = e (leb-true line 63 h) i }
    go false h = refl

module _ (r : Record) (words : List ℕ) (q : (fold_of r words).number ≡ 0) where
  abbrev r' : Record
  r' = folded r words

  abbrev words' : List ℕ
  words' = fold_words r words

  S : Sound r words
  S = (Fold.fold_done r words q).was

  S' : Sound r' words'
  S' = Fold.fold-sound r words q

  -- the record with what is kept alone changed
  kept-changed : r' ≡ with_held r r'.kept r.noted r.summary r.settled r.ballots
  kept-changed =
      let D = Fold.fold_done r words q in
      let m = D.made ∙ sym (Fold.fold-held r words S (Fold.gone_of r words) refl _ refl) in
      m ∙ ap (λ (x : Record). with_held r x.kept r.noted r.summary r.settled r.ballots) (sym m)

  edit-same : (line : ℕ) → line ≤ 63 → edit_after line (kept_edit r' line) (held_by r' words').log ≡ edit_after line (kept_edit r line) (held_by r words).log
  edit-same line h =
      sym (cell-back (edit_after line (kept_edit r' line) (held_by r' words').log)) ∙ ap of_cell (sym (stored-code r' words' S' line h)
      ∙ ap (λ (x : Record). get_or x.summary.codes line 0) kept-changed ∙ stored-code r words S line h) ∙ cell-back (edit_after line (kept_edit r line) (held_by r words).log)

  frames-same : (line : ℕ) (p p' : List ℕ) → (line ≤ 63 → edit_after line (kept_edit r' line) p' ≡ edit_after line (kept_edit r line) p) → frame_of r' words' line p' ≡ frame_of r words line p
  frames-same line p p' e =
      sym (frame-shown r' words' line p' (sound-true r' words' S')) ∙ shown-same line (kept_edit r line) (kept_edit r' line) p p' e ∙ frame-shown r words line p (sound-true r words S)

  tail-same : tail (held_by r' words') r'.own ≡ tail (held_by r words) r.own
  tail-same = ap (λ (x : Record). tail (held_by x words') x.own) kept-changed

  path-same : (line : ℕ) → line ≤ 63 → edit_after line (kept_edit r' line) (path (held_by r' words') r'.own) ≡ edit_after line (kept_edit r line) (path (held_by r words) r.own)
  path-same line h =
      edit-append line (kept_edit r' line) (held_by r' words').log (tail (held_by r' words') r'.own) ∙
      ap₂ (edit_after line) (edit-same line h) tail-same ∙ sym (edit-append line (kept_edit r line) (held_by r words).log (tail (held_by r words) r.own))

  lines_same : all_lines_of r' words' ≡ all_lines_of r words
  lines_same =
      sym (lines-shown r' words' (sound-true r' words' S') S') ∙ ap (λ (x : Record). record { number = 0; codes = x.summary.codes }) kept-changed
      ∙ lines-shown r words (sound-true r words S) S

  done-shows : ShowsSame r words
  done-shows = record {
    settled-frame = λ line. frames-same line (held_by r words).log (held_by r' words').log (edit-same line);
    tentative-frame = λ line. frames-same line (path (held_by r words) r.own) (path (held_by r' words') r'.own) (path-same line);
    all_lines = lines_same;
    settled-length = ap (λ (x : Record). x.settled) kept-changed;
  }

  -- ── the second time ──
  second_none : fold_count r'.n r'.own (folded_by r' words') ≡ 0
  second_none =
      let same : (r'.n ≡ r.n) × (r'.own ≡ r.own) = (ap (λ (x : Record). x.n) kept-changed, ap (λ (x : Record). x.own) kept-changed) in
      ap₂ (λ (n k : ℕ). fold_count n k (folded_by r' words')) same.0 same.1 ∙ ap (fold_count r.n r.own) (Fold.fold-state r words q) ∙ fold-none r.n r.own (folded_by r words)

  second-stays : shortened_of r' words' ≡ folded_by r' words'
  second-stays = fold_stays r'.n r'.own (folded_by r' words') second_none

  done-twice : DropsNoMore r words
  done-twice =
      let again = Fold.fold-zero r' words' (sound-true r' words' S') in
      let D = Fold.fold_done r' words' again in
      record {
        none-goes = λ i. record {
          «record» = (D.made ∙ ap (holding r' words') second-stays ∙ State.held r' words' S') i;
          number = (again ∙ sym q) i;
          count = (D.counted ∙ second_none) i;
        };
        words-stay = D.written ∙ ap (λ (f : F.FoldedOffice). words_with f.held.log words') second-stays ∙ State.words-kept r' words' S';
      }

-- ── every record: a refused fold leaves it ──
module _ (r : Record) (words : List ℕ) where
  refused-shows : ((fold_of r words).«record» ≡ r) × (fold_words r words ≡ words) → ShowsSame r words
  refused-shows s = record {
    settled-frame = λ line. ap₂ (λ (x : Record) (w : List ℕ). settled_frame_of x w line) s.0 s.1;
    tentative-frame = λ line. ap₂ (λ (x : Record) (w : List ℕ). tentative_frame_of x w line) s.0 s.1;
    all_lines = ap₂ all_lines_of s.0 s.1;
    settled-length = ap (λ (x : Record). x.settled) s.0;
  }

  refused-twice : sound_b r words ≡ false → DropsNoMore r words
  refused-twice e =
      let u = Fold.fold-unsound r words e in
      let once : folded r words ≡ r = sym (ap (λ (x : Folded). x.«record») u.0) in
      let number : (fold_of r words).number ≡ 1 = sym (ap (λ (x : Folded). x.number) u.0) in
      record {
        none-goes = ap₂ fold_of once (sym u.1) ∙ sym u.0 ∙ λ i. record { «record» = sym once i; number = sym number i; count = 0 };
        words-stay = ap₂ fold_words once (sym u.1);
      }

  pub fold-shows : ShowsSame r words
  fold-shows = go (sound_b r words) refl
    where
      go : (b : Bool) → sound_b r words ≡ b → ShowsSame r words
      go true e = done-shows r words (Fold.fold-zero r words e)
      go false e = let u = Fold.fold-unsound r words e in refused-shows (sym (ap (λ (x : Folded). x.«record») u.0), sym u.1)

  pub fold-twice : DropsNoMore r words
  fold-twice = go (sound_b r words) refl
    where
      go : (b : Bool) → sound_b r words ≡ b → DropsNoMore r words
      go true e = done-twice r words (Fold.fold-zero r words e)
      go false e = refused-twice e
